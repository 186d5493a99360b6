-- SPDX-License-Identifier: MPL-2.0
-- Round by round: n and the last are still to come.
use Rattle.laws.proofs.Kit.{◌≡◌}
use Rattle.aes.specs.Words.{rounds_left}
use Rattle.aes.proofs.rounds.crypt.Given as goal

abbrev pub invariant-loop-n : goal.invariant-loop-n
invariant-loop-n g l =
    rounds_left g.D.Direction.of_word g.D.Direction.of_byte l.keys l.n l.s
    ≡ rounds_left g.D.Direction.of_word g.D.Direction.of_byte l.keys 9 l.initial.s
