-- SPDX-License-Identifier: MPL-2.0
-- Over the fields, with what the calls answer.
use Rattle.payloads.proofs.Steps.{over-fixed, over-free, at-end, over-either}
use Rattle.payloads.proofs.shapes.is_connection_response.Goals as goal

pub returns : goal.returns
returns c =
    let result = c.byte-result.ensures in
    over-either _ _ _ _ c.starts.ensures (over-fixed _ _ _ _ _ result c.exchanges.ensures) (over-free _ _ _ _ _ result (at-end _ _))
