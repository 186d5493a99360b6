-- SPDX-License-Identifier: MPL-2.0
-- Round by round.
use Rattle.laws.proofs.Kit.{◌∙◌}
use Rattle.aes.proofs.Lookups.{one-less, all-done}
use Rattle.aes.proofs.rounds.crypt.Goals as goal

pub loop-n-preserved : goal.loop-n-preserved
loop-n-preserved g c = one-less _ _ _ _ _ _ c.loop-n-test.true c.round-s.ensures ∙ c.loop-n.invariant

pub returns : goal.returns
returns g c = all-done _ _ _ _ _ _ _ c.loop-n-test.false c.loop-n.invariant c.last_round.ensures
