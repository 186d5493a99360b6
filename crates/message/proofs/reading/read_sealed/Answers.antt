-- SPDX-License-Identifier: MPL-2.0
-- What was opened stands in the working buffer, and its payload is judged there.
use Rattle.laws.proofs.Kit.{arith}
use Rattle.std.proofs.lemmas.Result.{err_from_is_err_and}
use Rattle.message.proofs.Readers.{not_opened, is_held, judged}
use Rattle.message.proofs.reading.read_sealed.Goals as goal

pub returns-in_err-open-clause-value : goal.returns-in_err-open-clause-value
returns-in_err-open-clause-value c =
    let p = err_from_is_err_and c.from_residual.result c.from_residual.ensures.1 in
    rw (p.1, p.2) (not_opened _ _ _ _ c.in_err-open.ensures.value)

pub slice_bounds-bad_payload-end : goal.slice_bounds-bad_payload-end
slice_bounds-bad_payload-end c =
    let o = c.in_ok-open.ensures in
    let held = is_held _ _ c.args.found _ o.value o.new_working in
    omega (arith, held.fits, held.told, c.number32-size.ensures)

pub returns-in_err-when-clause-value : goal.returns-in_err-when-clause-value
returns-in_err-when-clause-value c =
    let p = err_from_is_err_and c.from_residual-in_err-when.result c.from_residual-in_err-when.ensures.1 in
    let o = c.in_ok-open.ensures in
    let e = c.in_err-when.ensures.refused in
    rw (p.1, p.2, e.1) (judged _ _ _ _ o.value o.new_working c.number32-size.ensures c.bad_payload.ensures (rw e.0))

pub returns-clause-value : goal.returns-clause-value
returns-clause-value c =
    let o = c.in_ok-open.ensures in
    judged _ _ _ _ o.value o.new_working c.number32-size.ensures c.bad_payload.ensures (rw c.in_ok-when.ensures.passed)
