-- SPDX-License-Identifier: MPL-2.0
-- By what the reader answered: the empty part, or the part that was found.
use Rattle.laws.proofs.Kit.{sym, ◌∙◌, ap}
use Rattle.message.specs.Handed.{payload}
use Rattle.message.proofs.Told.{handed-refused}
use Rattle.message.proofs.payload.payload.Goals as goal

pub returns-in-Err : goal.returns-in-Err
returns-in-Err c =
    let a = c.args in
    sym (ap (payload a.message.now a.working.now) c.in-Err.is ∙ handed-refused a.message.now a.working.now c.in-Err.field-0)
