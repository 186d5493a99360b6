-- SPDX-License-Identifier: MPL-2.0
-- Before one block stands the vector, before the last of more the block before it.
use Rattle.seal.proofs.Opened.{before-last}
use Rattle.seal.proofs.blocks.Blocks.before_last.Goals as goal

pub returns : goal.returns
returns c =
    rw (c.unwrap_or.ensures, c.copied.ensures, ← c.self.view_is)
    (before-last c.self.inside.bytes.now c.args.vector c.last_chunk.result c.self.invariant.0 c.self.invariant.1 c.last_chunk.ensures.cases)
