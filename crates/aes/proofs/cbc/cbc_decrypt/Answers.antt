-- SPDX-License-Identifier: MPL-2.0
-- Block by block.
use Rattle.laws.proofs.Kit.{◌+◌, ◌*◌, ◌/◌, ◌%◌, ◌≡◌, ◌∙◌, sym, length, take, drop, eq-eqb, le-leb, arith}
use Rattle.std.proofs.lemmas.Slice.{put_mid-paste}
use Rattle.aes.specs.Words.{bytes_of}
use Rattle.aes.specs.Cbc.{cbc_decrypt_block, cbc_decrypt}
use Rattle.aes.proofs.StateWords.{words-added}
use Rattle.aes.proofs.Chain.{decrypt-long}
use Rattle.aes.proofs.ChainLoop.{chunk_at, begin, more, done}
use Rattle.aes.proofs.cbc.cbc_decrypt.Goals as goal

pub loop-n-init : goal.loop-n-init
loop-n-init c = rw c.words-v.ensures (begin _ _ _ _ _ c.if-source-ne0.false (omega arith))

pub loop-n-preserved : goal.loop-n-preserved
unfolding cbc_decrypt_block
loop-n-preserved c =
    let l = c.loop-n in
    let s = c.args.source.now in
    let keys = c.inverse_words-w.ensures in
    let block : bytes_of c.words-x.result ≡ take 16 (drop (16 * l.n) s) =
    c.words-x.ensures ∙ rw c.as_chunks.ensures.front (chunk_at l.n (length s / 16) s (omega arith)) in
    let plain : c.bytes_of.result ≡ cbc_decrypt_block c.args.keys (bytes_of l.v) (take 16 (drop (16 * l.n) s)) =
    rw (c.bytes_of.ensures, c.add.ensures, words-added, c.decrypt-y.ensures c.args.keys keys.are_blocks keys.words, block) in
    let next : 16 * (l.n + 1) ≡ 16 * l.n + 16 = omega arith in
    rw next (
    more l.invariant (decrypt-long c.args.keys) (omega arith) _ _ block
    (put_mid-paste _ _ _ _ _ 16 (c.copy_from_slice.ensures.after ∙ plain) (omega arith) (sym (decrypt-long c.args.keys _ _)))
    )

pub returns-clause-new_target : goal.returns-clause-new_target
unfolding cbc_decrypt
returns-clause-new_target c =
    rw (eq-eqb (length c.args.source.now % 16) 0 c.if-source-ne0.false, le-leb (length c.args.source.now) (length c.args.target.now) (omega arith))
    (done c.loop-n.invariant (omega arith))
