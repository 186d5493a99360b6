-- SPDX-License-Identifier: MPL-2.0
-- Words and, where it is Pending, sizes are right; then it is what the payload's writer gives.
use Rattle.laws.proofs.Kit.{eqb, arith}
use Rattle.hub_c.proofs.Giving.{words-tested, response-values}
use Rattle.hub_c.proofs.payload.hub_write_connection_response.Goals as goal

pub overflow_cast-mode : goal.overflow_cast-mode
overflow_cast-mode c = omega (arith, words-tested _ _ _ _ _ c.wrong_words.ensures c.if-wrong_words-pending.false)

pub overflow_cast-res : goal.overflow_cast-res
overflow_cast-res c = omega (arith, words-tested _ _ _ _ _ c.wrong_words.ensures c.if-wrong_words-pending.false)

pub hand_length-requires : goal.hand_length-requires
hand_length-requires c = (words-tested _ _ _ _ _ c.wrong_words.ensures c.if-wrong_words-pending.false).0

pub returns : goal.returns
returns c =
    let right = response-values (eqb c.args.res 1) c.args.mode c.args.res _ _ c.request_if-request.ensures in
    let value = rw right at c.write_connection_response.ensures.answer in
    let new_out = rw right at c.write_connection_response.ensures.bytes in
    rw (← c.wrong_words.ensures, ← c.wrong_exchange.ensures, c.if-wrong_words-pending.false)
    (record { value = rw value at c.hand_length.ensures.value; new_out = new_out; new_size = rw value at c.hand_length.ensures.new_out })
