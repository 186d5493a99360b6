-- SPDX-License-Identifier: MPL-2.0
-- What is judged is what is written.
use Rattle.laws.proofs.Kit.{sym, ◌∙◌, le-leb}
use Rattle.aes.proofs.Chain.{cbc_decrypt-length}
use Rattle.seal.specs.Opening.{into_unless, unless_bad}
use Rattle.seal.proofs.Opened.{left, judged}
use Rattle.seal.proofs.opening.open_blocks.Goals as goal

pub returns-in_err-when : goal.returns-in_err-when
unfolding unless_bad into_unless
returns-in_err-when c =
    let b = c.bytes-bytes.ensures in
    let e = c.cbc_decrypt_ends-ends.ensures in
    let r = c.in_err-when.ensures.refused in
    let bad = sym (judged _ _ c.args.sealed.now b.some b.whole c.first.ensures c.before_last-before.ensures c.last.ensures e.0 e.1
    (rw b.value at c.bad_blocks.ensures)) ∙ r.0 in
    record { value = rw (left _ c.from_residual.ensures.1, r.1, bad); new_working = rw bad }

pub returns : goal.returns
unfolding unless_bad into_unless
returns c =
    let b = c.bytes-bytes.ensures in
    let e = c.cbc_decrypt_ends-ends.ensures in
    let blocks = b.whole in
    let good = sym (judged _ _ c.args.sealed.now b.some b.whole c.first.ensures c.before_last-before.ensures c.last.ensures e.0 e.1
    (rw b.value at c.bad_blocks.ensures)) ∙ c.in_ok-when.ensures.passed in
    record {
      value = rw good;
      new_working = rw good (c.cbc_decrypt.ensures.new_target ∙ rw (b.value, blocks, le-leb _ _ c.requires, cbc_decrypt-length _ _ _ blocks));
    }
