-- SPDX-License-Identifier: MPL-2.0
-- The places from i on were looked at.
use Rattle.seal.proofs.Ends.{Looked}
use Rattle.seal.proofs.padding.differ.Given as goal

abbrev pub invariant-loop-i : goal.invariant-loop-i
invariant-loop-i l = Looked l.block l.byte l.from l.i l.bad
