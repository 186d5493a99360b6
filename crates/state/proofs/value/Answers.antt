-- SPDX-License-Identifier: MPL-2.0
-- One bit more at each turn.
use Rattle.laws.proofs.Kit.{◌∙◌, arith}
use Rattle.joining.proofs.HeardLaws.{bit_byte}
use Rattle.state.proofs.Bits.{value-turn}
use Rattle.state.proofs.value.Goals as goal

pub overflow_add-value : goal.overflow_add-value
overflow_add-value c =
    let l = c.loop-k in
    omega (arith, (value-turn c.args.bits.now l.k l.value c.from.result c.requires c.loop-k-test.true l.invariant (c.from.ensures ∙ (bit_byte _).0)).0)

pub loop-k-preserved : goal.loop-k-preserved
loop-k-preserved c =
    let l = c.loop-k in
    (value-turn c.args.bits.now l.k l.value c.from.result c.requires c.loop-k-test.true l.invariant (c.from.ensures ∙ (bit_byte _).0)).1
