-- SPDX-License-Identifier: MPL-2.0
-- What is judged in the local is what is copied from it.
use Rattle.laws.proofs.Kit.{◌≤◌, sym, ◌∙◌, length, replicate}
use Rattle.aes.proofs.Chain.{cbc_decrypt-length}
use Rattle.seal.specs.Opening.{into_unless, unless_bad}
use Rattle.seal.proofs.Opened.{left, in-front, front-judged, first-of}
use Rattle.seal.proofs.opening.open_small.Goals as goal

pub returns-in_err-when : goal.returns-in_err-when
unfolding unless_bad into_unless
returns-in_err-when c =
    let b = c.bytes-size.ensures in
    let r = c.in_err-when.ensures.refused in
    let plain = in-front _ _ c.args.sealed.now b.some b.whole (replicate 128 0) b.value c.bytes.ensures.value c.requires.small
    c.cbc_decrypt.ensures.new_target c.of-plain.ensures in
    let long : 16 ≤ length c.of-plain.result = rw (plain, cbc_decrypt-length _ _ _ b.whole) b.some in
    let first = first-of _ _ c.of-plain.ensures (rw b.value b.some) long c.bytes_at.ensures in
    let bad = sym (front-judged _ _ c.args.sealed.now b.some b.whole plain first c.last.ensures (rw b.value at c.bad_blocks.ensures)) ∙ r.0 in
    record { value = rw (left _ c.from_residual.ensures.1, r.1, bad); new_working = rw bad }

pub returns : goal.returns
unfolding unless_bad into_unless
returns c =
    let b = c.bytes-size.ensures in
    let plain = in-front _ _ c.args.sealed.now b.some b.whole (replicate 128 0) b.value c.bytes.ensures.value c.requires.small
    c.cbc_decrypt.ensures.new_target c.of-plain.ensures in
    let long : 16 ≤ length c.of-plain.result = rw (plain, cbc_decrypt-length _ _ _ b.whole) b.some in
    let first = first-of _ _ c.of-plain.ensures (rw b.value b.some) long c.bytes_at.ensures in
    let good = sym (front-judged _ _ c.args.sealed.now b.some b.whole plain first c.last.ensures (rw b.value at c.bad_blocks.ensures))
    ∙ c.in_ok-when.ensures.passed in
    record {
      value = rw good;
      new_working = rw (good, c.copy_from_slice.ensures.after, c.bytes-2.ensures.value, plain, b.value, cbc_decrypt-length _ _ _ b.whole);
    }
