-- SPDX-License-Identifier: MPL-2.0
-- From the hash value after the block the message is hashed as if it stood after it.
use Rattle.sha256.specs.Digests.{H0}
use Rattle.sha256.proofs.Hashing.{hashed_after}
use Rattle.sha256.proofs.message.Message.digest_after.Goals as goal

pub returns : goal.returns
returns c =
    let b = c.args.block.now in
    c.finish.ensures b c.told-block (λ m. rw (c.absorb_block.ensures, c.initial-v.ensures) (hashed_after H0 b m c.told-block))
