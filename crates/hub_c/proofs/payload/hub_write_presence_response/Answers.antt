-- SPDX-License-Identifier: MPL-2.0
-- Words and sizes are right: they have room in their fields, and there is a word for the length.
use Rattle.laws.proofs.Kit.{arith}
use Rattle.hub_c.proofs.Giving.{words-tested, presence-tested}
use Rattle.hub_c.proofs.payload.hub_write_presence_response.Goals as goal

pub overflow_cast-mode : goal.overflow_cast-mode
overflow_cast-mode c = omega (arith, words-tested _ _ _ _ _ c.wrong_words.ensures c.if-wrong_words-wrong_presence.false)

pub overflow_cast-device : goal.overflow_cast-device
overflow_cast-device c = omega (arith, presence-tested c.wrong_words.result _ _ _ _ c.wrong_presence.ensures c.if-wrong_words-wrong_presence.false)

pub hand_length-requires : goal.hand_length-requires
hand_length-requires c = (words-tested _ _ _ _ _ c.wrong_words.ensures c.if-wrong_words-wrong_presence.false).0
