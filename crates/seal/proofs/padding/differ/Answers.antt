-- SPDX-License-Identifier: MPL-2.0
-- One place more at each turn.
use Rattle.laws.proofs.Kit.{suc, ◌-◌, ◌≤◌, ◌≡◌, length, arith, drop_of_length-le}
use Rattle.seal.proofs.Ends.{end-turn}
use Rattle.seal.proofs.padding.differ.Goals as goal

pub loop-i-init : goal.loop-i-init
loop-i-init c =
    let l : length c.args.block.now ≤ 16 = omega arith in
    let none = drop_of_length-le c.args.block.now l in
    record { past = λ p. rw none; before = λ p. let e : c.args.from ≡ 16 = omega (arith, p) in rw (e, none) }

pub loop-i-preserved : goal.loop-i-preserved
loop-i-preserved c =
    let b = c.args.block.now in
    let i = c.loop-i.i in
    let e : suc (i - 1) ≡ i = omega arith in
    end-turn b c.args.byte c.args.from (i - 1) c.loop-i.bad c.told-block (omega arith)
    (rw e c.loop-i.invariant)

pub returns : goal.returns
returns c = c.loop-i.invariant.before (omega arith)
