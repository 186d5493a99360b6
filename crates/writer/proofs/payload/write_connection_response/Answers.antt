-- SPDX-License-Identifier: MPL-2.0
-- By the Result: one that is Pending is an exchange, another is 4 bytes.
use Rattle.laws.proofs.Kit.{ne_eqb}
use Rattle.payloads.specs.Format.{write}
use Rattle.writer.proofs.Payloads.{fits_other_response}
use Rattle.writer.proofs.payload.write_connection_response.Goals as goal

pub returns-then-res-eq-PENDING : goal.returns-then-res-eq-PENDING
returns-then-res-eq-PENDING c =
    let pending = c.if-res-eq-PENDING.true in
    let wrote = c.write_exchange.ensures in
    rw pending (record { answer = rw pending at wrote.answer; bytes = rw pending at wrote.bytes })

pub returns : goal.returns
unfolding write
returns c =
    let other = c.if-res-eq-PENDING.false in
    rw (ne_eqb _ _ other, fits_other_response _ _ other) (record { answer = c.write.ensures.answer; bytes = c.write.ensures.bytes })
