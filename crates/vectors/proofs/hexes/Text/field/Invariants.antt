-- SPDX-License-Identifier: MPL-2.0
-- Each place before this one was filled.
use Rattle.std.proofs.Common.{◌≤◌}
use Rattle.vectors.proofs.hexes.Text.field.Given as goal

abbrev pub invariant-loop-place : goal.invariant-loop-place
invariant-loop-place l = l.n ≤ l.place-index
