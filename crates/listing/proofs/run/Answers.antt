-- SPDX-License-Identifier: MPL-2.0
-- A turn that was made is the next of the run, or its last; where the counter has come to its end the run goes on.
use Rattle.std.proofs.Common.{rules, arith, Ok, ap, ◌∙◌}
use Rattle.listing.proofs.Runs.{turn-leads}
use Rattle.listing.proofs.Courses.{way-more, way-last, way-out}
use Rattle.listing.proofs.run.Goals as goal

pub loop-turns-preserved : goal.loop-turns-preserved
loop-turns-preserved g c =
    let v = c.loop-turns.invariant in
    let t = rw v.room at c.turn.ensures.turned_by in
    let on = c.in-Ok-Some.is ∙ ap Ok c.in-Ok-Some.field-0-is in
    record {
      fits = (t.goes _ on).fits;
      room = search rules;
      way = way-more _ _ _ _ _ v.way (omega arith) _ _ (turn-leads _ _ _ _ t on);
    }

pub returns-in_default : goal.returns-in_default
returns-in_default g c =
    let v = c.loop-turns.invariant in
    way-last _ _ _ _ _ v.way (omega arith) _ _ (rw v.room at c.in_default.ensures.turned_by) (search rules)

pub returns-in_default-2 : goal.returns-in_default-2
returns-in_default-2 g c =
    let v = c.loop-turns.invariant in
    way-last _ _ _ _ _ v.way (omega arith) _ _ (rw v.room at c.turn.ensures.turned_by) (search rules)

pub returns : goal.returns
returns g c = way-out _ _ _ _ c.loop-turns.invariant.way (omega arith)
