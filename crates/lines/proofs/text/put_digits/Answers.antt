-- SPDX-License-Identifier: MPL-2.0
-- One digit less is left to be put.
use Rattle.laws.proofs.Kit.{◌∙◌, length-set}
use Rattle.lines.proofs.Digits.{put_last}
use Rattle.lines.proofs.text.put_digits.Goals as goal

pub loop-place-preserved : goal.loop-place-preserved
loop-place-preserved c =
    let l = c.loop-place in
    record {
      as_long = simp length-set l.invariant.as_long;
      leads = put_last l.out c.args.at l.place l.rest c.loop-place-test.true ∙ l.invariant.leads;
    }
