-- SPDX-License-Identifier: MPL-2.0
-- The payload's part is judged where it stands.
use Rattle.laws.proofs.Kit.{add-sub_cancel_left}
use Rattle.std.proofs.lemmas.Result.{err_from_is_err_and}
use Rattle.message.specs.Reading.{plain_read}
use Rattle.message.proofs.reading.read_plain.Goals as goal

pub returns-in_err-when : goal.returns-in_err-when
unfolding plain_read
returns-in_err-when c =
    let p = err_from_is_err_and c.from_residual.result c.from_residual.ensures.1 in
    let e = c.in_err-when.ensures.refused in
    rw (p.1, p.2, e.1, ← (rw add-sub_cancel_left at c.bad_payload.ensures), e.0)

pub returns : goal.returns
unfolding plain_read
returns c = rw (← (rw add-sub_cancel_left at c.bad_payload.ensures), c.in_ok-when.ensures.passed)
