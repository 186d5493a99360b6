-- SPDX-License-Identifier: MPL-2.0
-- Between two turns the run is that of the definition, with the turns that are left.
use Rattle.laws.proofs.Kit.{◌-◌, ◌≡◌, length}
use Rattle.lines.proofs.Turns.{Reached}
use Rattle.lines.proofs.listing.list.Given as goal

abbrev pub invariant-loop : goal.invariant-loop
invariant-loop l = record {
  reached : Reached l.stream l.ended l.initial.out l.run l.out (l.end - l.counter);
  as_long : length l.out ≡ length l.initial.out;
}
