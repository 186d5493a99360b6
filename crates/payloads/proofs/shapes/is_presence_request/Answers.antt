-- SPDX-License-Identifier: MPL-2.0
-- Over the fields, with what the calls answer.
use Rattle.payloads.proofs.Steps.{over-fixed, at-end}
use Rattle.payloads.proofs.shapes.is_presence_request.Goals as goal

pub returns : goal.returns
returns c = rw c.number.ensures (over-fixed _ _ _ _ _ c.byte.ensures (at-end _ _))
