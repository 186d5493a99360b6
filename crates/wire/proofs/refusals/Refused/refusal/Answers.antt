-- SPDX-License-Identifier: MPL-2.0
-- Past the last row the list of refusals has its default.
use Rattle.laws.proofs.Kit.{◌-◌, ◌≤◌, sym, List·getD-eq-default, arith}
use Rattle.wire.specs.declared.refusals.Refusal.TheVariants.{TooShort}
use Rattle.wire.specs.Refusals.{refusals}
use Rattle.wire.proofs.refusals.Refused.refusal.Goals as goal

pub returns : goal.returns
returns c =
    let past : 25 ≤ c.args.self - 1 = omega (arith, c.if-row-lt25.false, c.saturating_sub-row.ensures, c.from.ensures, c.self.view_is) in
    sym (List·getD-eq-default refusals TooShort past)
