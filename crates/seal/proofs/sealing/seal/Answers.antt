-- SPDX-License-Identifier: MPL-2.0
-- The part is encrypted in its room and the tag put after it, where none of the rows applies.
use Rattle.laws.proofs.Kit.{◌-◌, ◌∙◌, length, drop, length-take-le, length-drop, ltb-false, arith}
use Rattle.seal.proofs.Padded.{sizes}
use Rattle.seal.proofs.Opened.{left}
use Rattle.seal.proofs.Seals.{no-end, no-keys, no-room, whole, Fit, sealed-into}
use Rattle.seal.proofs.sealing.seal.Goals as goal

pub returns-in_err-end : goal.returns-in_err-end
returns-in_err-end c =
    let a = c.args in
    let e = no-end a.keys.now a.payload.now a.out.now a.start c.in_err-end.ensures.value in
    record { value = left _ c.from_residual.ensures.1 ∙ e.0; new_out = e.1 }

pub returns-in_err-keys : goal.returns-in_err-keys
returns-in_err-keys c =
    let a = c.args in
    let e = no-keys a.keys.now a.payload.now a.out.now a.start c.in_ok-end.ensures.value c.in_err-keys.ensures in
    record { value = left _ c.from_residual-in_err-keys.ensures.1 ∙ e.0; new_out = e.1 }

pub returns-in_err-when : goal.returns-in_err-when
returns-in_err-when c =
    let a = c.args in
    let r = c.in_err-when.ensures.refused in
    let at = c.in_ok-end.ensures.fits.1 in
    let e = no-room a.keys.now a.payload.now a.out.now a.start c.in_ok-end.ensures.value c.in_ok-keys.ensures (rw at at r.0) in
    record { value = rw (left _ c.from_residual-in_err-when.ensures.1, r.1) e.0; new_out = e.1 }

pub encrypt_part-requires : goal.encrypt_part-requires
encrypt_part-requires c =
    let a = c.args in
    let s = sizes (length a.payload.now) in
    let f = c.in_ok-end.ensures.fits in
    let room = ltb-false _ _ c.in_ok-when.ensures.passed in
    (omega arith, length-take-le (c.in_ok-end.end - a.start) (drop a.start a.out.now) (simp length-drop (omega arith)) ∙ omega arith)

pub returns : goal.returns
returns c =
    let a = c.args in
    let f = c.in_ok-end.ensures.fits in
    let k = whole a.keys.now c.in_ok-keys.ensures in
    let room = ltb-false _ _ c.in_ok-when.ensures.passed in
    let s = sizes (length a.payload.now) in
    let fit : Fit (length a.keys.now) a.start (length a.payload.now) (length a.out.now) =
    record { keys64 = k.1; past = f.0; short = omega arith; small = omega arith; roomy = omega arith } in
    let e = sealed-into a.keys.now a.payload.now a.out.now a.start c.in_ok-end.end fit f.1 c.vector-vector.result c.encrypt_part.new.room
    c.put_tag.new.out (rw k.0 at c.vector-vector.ensures) (rw k.0 at c.encrypt_part.ensures) (rw k.0 at c.put_tag.ensures) in
    record { value = e.0; new_out = e.1 }
