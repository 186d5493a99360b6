-- SPDX-License-Identifier: MPL-2.0
-- The invariant: t rounds are done on the whole schedule, and the ring has the words of the next turn, if there is one.
use Rattle.laws.proofs.Kit.{◌%◌, min, ◌≤◌, ◌≡◌}
use Rattle.compression.specs.Compression.{schedule, rounds}
use Rattle.compression.specs.Ring.{ring}
use Rattle.compression.proofs.rounds.all_rounds.Given as goal

abbrev pub invariant-loop-t : goal.invariant-loop-t
invariant-loop-t l = record {
  within : l.t ≤ 64;
  turn : l.t % 16 ≡ 0;
  words : l.w ≡ ring l.initial.w (min l.t 48);
  done : l.x ≡ rounds l.initial.x (schedule l.initial.w 48) l.t;
}
