-- SPDX-License-Identifier: MPL-2.0
-- Refused, or header, chain and payload one after the other, the payload as it is or sealed.
use Rattle.laws.proofs.Kit.{sym, ◌∙◌, arith}
use Rattle.std.proofs.lemmas.Result.{err_from_is_err_and}
use Rattle.message.proofs.Written.{bounds, refused, told, unsealed, wrote-plain, wrote-sealed}
use Rattle.message.proofs.writing.write.Goals as goal

pub returns-in_err-size : goal.returns-in_err-size
returns-in_err-size c =
    let p = err_from_is_err_and c.from_residual.result c.from_residual.ensures.1 in
    let e = refused _ _ _ _ _ c.in_err-size.ensures in
    rw (p.1, p.2) (record { value = e.0; new_out = e.1 })

pub overflow_cast-size : goal.overflow_cast-size
overflow_cast-size c =
    let t = told _ _ _ _ _ c.in_ok-size.ensures in
    let b = bounds _ _ _ _ _ (record { at = λ i. omega (arith, c.type_inv.chain i) }) t.0 in
    omega (arith, t.1)

pub put_front-requires : goal.put_front-requires
put_front-requires c =
    let t = told _ _ _ _ _ c.in_ok-size.ensures in
    let b = bounds _ _ _ _ _ (record { at = λ i. omega (arith, c.type_inv.chain i) }) t.0 in
    omega arith

pub returns-in_err-seal : goal.returns-in_err-seal
returns-in_err-seal c =
    absurd
    (unsealed _ _ _ _ _ c.in_ok-size.ensures (record { at = λ i. omega (arith, c.type_inv.chain i) }) c.put_front.ensures
    (sym c.is_sealed.ensures ∙ c.if-is_sealed.true) c.in_err-seal.ensures.value)

pub returns-then-is_sealed : goal.returns-then-is_sealed
returns-then-is_sealed c =
    let e = wrote-sealed _ _ _ _ _ c.in_ok-size.ensures (record { at = λ i. omega (arith, c.type_inv.chain i) }) c.put_front.ensures
    (sym c.is_sealed.ensures ∙ c.if-is_sealed.true) c.in_ok-seal.ensures.new_out in
    record { value = e.0; new_out = e.1 }

pub returns : goal.returns
returns c =
    let e = wrote-plain _ _ _ _ _ c.in_ok-size.ensures (record { at = λ i. omega (arith, c.type_inv.chain i) }) c.put_front.ensures
    (sym c.is_sealed.ensures ∙ c.if-is_sealed.false) c.store_bytes.ensures in
    record { value = e.0; new_out = e.1 }
