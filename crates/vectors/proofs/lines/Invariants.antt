-- SPDX-License-Identifier: MPL-2.0
-- Neither count is above that of the turns.
use Rattle.std.proofs.Common.{◌≤◌}
use Rattle.vectors.proofs.lines.Given as goal

abbrev pub invariant-loop : goal.invariant-loop
invariant-loop g l = record {
  agreed : l.agreed ≤ l.counter;
  tried : l.tried ≤ l.counter;
}
