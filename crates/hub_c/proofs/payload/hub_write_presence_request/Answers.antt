-- SPDX-License-Identifier: MPL-2.0
-- There is a word for the length.
use Rattle.laws.proofs.Kit.{sym, ◌∙◌}
use Rattle.hub_c.proofs.Giving.{words_right}
use Rattle.hub_c.proofs.payload.hub_write_presence_request.Goals as goal

pub hand_length-requires : goal.hand_length-requires
hand_length-requires c = (words_right _ _ _ (sym c.wrong_words.ensures ∙ c.if-wrong_words.false)).0
