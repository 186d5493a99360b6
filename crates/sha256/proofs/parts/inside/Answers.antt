-- SPDX-License-Identifier: MPL-2.0
-- The first chunk of what the part has from the block's place on.
use Rattle.sha256.proofs.Laying.{in_part}
use Rattle.sha256.proofs.parts.inside.Goals as goal

pub returns : goal.returns
returns c before after l =
    in_part before _ after _ _ _ _ _ l c.in_ok-checked_sub.ensures c.in_ok-get.ensures.lookup.0.2 c.in_ok-block.ensures.cases
