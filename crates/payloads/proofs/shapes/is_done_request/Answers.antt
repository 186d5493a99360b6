-- SPDX-License-Identifier: MPL-2.0
-- Over the fields, with what the calls answer.
use Rattle.payloads.proofs.Steps.{at-end, over-start}
use Rattle.payloads.proofs.shapes.is_done_request.Goals as goal

pub returns : goal.returns
returns c = over-start _ _ _ c.starts.ensures (at-end _ _)
