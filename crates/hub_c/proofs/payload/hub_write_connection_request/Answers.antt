-- SPDX-License-Identifier: MPL-2.0
-- Words and sizes are right: nonce, X and Y have theirs, the mode has room in its field, and there is a word for the length.
use Rattle.laws.proofs.Kit.{arith}
use Rattle.hub_c.proofs.Giving.{words-tested, exchange-tested}
use Rattle.hub_c.proofs.payload.hub_write_connection_request.Goals as goal

pub request_of-request-requires : goal.request_of-request-requires
request_of-request-requires c = exchange-tested c.wrong_words.result _ _ _ _ c.wrong_exchange.ensures c.if-wrong_words-wrong_exchange.false

pub overflow_cast-mode : goal.overflow_cast-mode
overflow_cast-mode c = omega (arith, words-tested _ _ _ _ _ c.wrong_words.ensures c.if-wrong_words-wrong_exchange.false)

pub hand_length-requires : goal.hand_length-requires
hand_length-requires c = (words-tested _ _ _ _ _ c.wrong_words.ensures c.if-wrong_words-wrong_exchange.false).0
