-- SPDX-License-Identifier: MPL-2.0
-- The entries that may still come are fewer at each call.
use Rattle.wire.proofs.chain.+walk.Given as goal

abbrev pub decreases-walk : goal.decreases-walk
decreases-walk l = l.left
