-- SPDX-License-Identifier: MPL-2.0
-- Three tables one after the other: where the code stops, the answer is that of all three.
use Rattle.std.proofs.lemmas.Result.{err_from_is_err_and}
use Rattle.joining.proofs.Refusals.{first-refuses, second-refuses, third-refuses, none-refuses}
use Rattle.joining.proofs.held.Held.place.Goals as goal

pub returns-in_err-expects-clause-refused : goal.returns-in_err-expects-clause-refused
returns-in_err-expects-clause-refused c =
    let p = err_from_is_err_and c.from_residual.result c.from_residual.ensures.1 in
    rw (p.1, p.2) (first-refuses _ _ _ _ _ _ c.in_err-expects.ensures)

pub returns-in_err-fits-clause-refused : goal.returns-in_err-fits-clause-refused
returns-in_err-fits-clause-refused c =
    let p = err_from_is_err_and c.from_residual-in_err-fits.result c.from_residual-in_err-fits.ensures.1 in
    rw (p.1, p.2) (second-refuses _ _ _ _ _ _ c.in_ok-expects.ensures c.in_err-fits.ensures)

pub returns-in_err-when-clause-refused : goal.returns-in_err-when-clause-refused
returns-in_err-when-clause-refused c =
    let p = err_from_is_err_and c.from_residual-in_err-when.result c.from_residual-in_err-when.ensures.1 in
    rw (p.1, p.2) (third-refuses _ _ _ _ _ _ c.in_ok-expects.ensures c.in_ok-fits.ensures (rw c.has_conflict.ensures at c.in_err-when.ensures.refused))

pub returns-clause-passed : goal.returns-clause-passed
returns-clause-passed c =
    none-refuses _ _ _ _ _ c.in_ok-expects.ensures c.in_ok-fits.ensures (rw c.has_conflict.ensures at c.in_ok-when.ensures.passed)
