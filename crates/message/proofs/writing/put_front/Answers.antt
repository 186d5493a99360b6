-- SPDX-License-Identifier: MPL-2.0
-- The chain stands where the header ends.
use Rattle.laws.proofs.Kit.{◌∙◌, length, le-ltb, arith}
use Rattle.writer.specs.Header.{header_bytes}
use Rattle.writer.specs.Written.{output, put_refusal}
use Rattle.message.proofs.WrittenLengths.{length-header}
use Rattle.laws.proofs.Stores.{put-after}
use Rattle.message.proofs.writing.put_front.Goals as goal

pub returns : goal.returns
unfolding output put_refusal
returns c =
    let a = c.args in
    put-after (header_bytes a.header a.size) a.chain.now a.out.now 40 (length-header _ _) c.requires
    (c.write_header.ensures.bytes ∙ rw (le-ltb (length a.out.now) 40 (omega arith))) c.store_bytes.ensures
