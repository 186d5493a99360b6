-- SPDX-License-Identifier: MPL-2.0
-- What a step of the gateway leaves in its state buffer and in the words of its answer.
use Rattle.std.specs.Prelude.{ℕ, List, Bool, cond, not, ◌||◌, eqb, length}
use Rattle.gateway.specs.declared.Stepped.{Stepped}
use Rattle.gateway.specs.Answers.{said}
use Rattle.state.specs.Client.{gateway_size, gateway_bytes}
use Rattle.hub_c.specs.Sizes.{answer_size, due_size}
use Rattle.hub_c.specs.Answered.{said_words}

-- The state buffer after a step: "Every refusal leaves connection … alone."
unfoldable pub gateway_after : Stepped → List ℕ → List ℕ
gateway_after s state = cond (eqb (said s.answer).refusal 0) (gateway_bytes s.gateway) state

-- The answer's three words.
abbrev pub gateway_answer : Stepped → List ℕ
gateway_answer s = said_words (said s.answer)

-- The state buffer or the buffer of the answer has another size.
abbrev pub wrong_gateway_step : (state answer : List ℕ) → Bool
wrong_gateway_step state answer = not (eqb (length state) gateway_size) || not (eqb (length answer) answer_size)

-- The state buffer or the buffer of what is due has another size.
abbrev pub wrong_gateway_due : (state due : List ℕ) → Bool
wrong_gateway_due state due = not (eqb (length state) gateway_size) || not (eqb (length due) due_size)
