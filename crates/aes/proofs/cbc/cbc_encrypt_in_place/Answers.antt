-- SPDX-License-Identifier: MPL-2.0
-- Block by block; what is not done yet is as it was.
use Rattle.laws.proofs.Kit.{◌+◌, ◌*◌, ◌%◌, ◌≡◌, ◌∙◌, sym, ap, append-nil, length, take, drop, drop-length, eq-eqb, arith}
use native.Mathlib.Nat.{le_refl}
use Rattle.std.proofs.lemmas.Slice.{put_mid-paste}
use Rattle.aes.specs.Words.{reversed_bytes}
use Rattle.aes.specs.Cbc.{cbc_encrypt_block, cbc_encrypt}
use Rattle.aes.proofs.Lookups.{sums-forth}
use Rattle.aes.proofs.Chain.{encrypt-long}
use Rattle.aes.proofs.ChainLoop.{enough, loaded, begin, more, done}
use Rattle.aes.proofs.cbc.cbc_encrypt_in_place.Goals as goal

pub loop-n-init : goal.loop-n-init
loop-n-init c = rw c.reversed_words-v.ensures (begin _ _ _ _ _ c.if-buffer-ne0.false (le_refl _))

pub front-requires : goal.front-requires
front-requires c =
    let l = c.loop-n in
    enough l.buffer (16 * l.n) (omega (arith, l.invariant.whole))

pub loop-n-preserved : goal.loop-n-preserved
unfolding cbc_encrypt_block
loop-n-preserved c =
    let l = c.loop-n in
    let b = l.invariant in
    let block = c.front.ensures ∙ loaded l.buffer (16 * l.n) (omega (arith, b.whole, b.len)) ∙ ap (take 16) b.rest in
    let v : reversed_bytes c.encrypt-v.result
    ≡ cbc_encrypt_block c.args.keys (reversed_bytes l.v) (take 16 (drop (16 * l.n) c.args.buffer.now)) =
    c.encrypt-v.ensures c.args.keys c.key_words-w.ensures ∙ rw (c.add.ensures, sums-forth, c.reversed_words-b.ensures, block) in
    let next : 16 * (l.n + 1) ≡ 16 * l.n + 16 = omega arith in
    rw next (
    more b (encrypt-long c.args.keys) (omega (arith, b.len)) _ _ v
    (put_mid-paste _ _ _ _ _ 16 (c.copy_from_slice.ensures.after ∙ c.reversed_bytes.ensures ∙ v) (omega arith) (sym (encrypt-long c.args.keys _ _)))
    )

pub returns-clause-new_buffer : goal.returns-clause-new_buffer
unfolding cbc_encrypt
returns-clause-new_buffer c =
    let b = c.loop-n.invariant in
    rw (eq-eqb (length c.args.buffer.now % 16) 0 c.if-buffer-ne0.false) (simp (drop-length, append-nil) at (done b (omega (arith, b.len))))
