-- SPDX-License-Identifier: MPL-2.0
-- Over the fields, with what the calls answer.
use Rattle.payloads.proofs.Steps.{over-fixed, over-start}
use Rattle.payloads.proofs.shapes.is_connection_request.Goals as goal

pub returns : goal.returns
returns c = over-start _ _ _ c.starts.ensures (over-fixed _ _ _ _ _ c.byte.ensures c.exchanges.ensures)
