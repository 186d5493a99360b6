-- SPDX-License-Identifier: MPL-2.0
-- The words are right: they have room in their fields, and there is a word for the length.
use Rattle.laws.proofs.Kit.{sym, ◌∙◌, arith}
use Rattle.hub_c.proofs.Giving.{words_right}
use Rattle.hub_c.proofs.payload.hub_write_device_authentication.Goals as goal

pub overflow_cast-connect : goal.overflow_cast-connect
overflow_cast-connect c = omega (arith, words_right _ _ _ (sym c.wrong_words.ensures ∙ c.if-wrong_words.false))

pub overflow_cast-mode : goal.overflow_cast-mode
overflow_cast-mode c = omega (arith, words_right _ _ _ (sym c.wrong_words.ensures ∙ c.if-wrong_words.false))

pub hand_length-requires : goal.hand_length-requires
hand_length-requires c = (words_right _ _ _ (sym c.wrong_words.ensures ∙ c.if-wrong_words.false)).0
