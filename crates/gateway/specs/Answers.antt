-- SPDX-License-Identifier: MPL-2.0
-- What the gateway's step answers, and the request that is due, in numbers: "When an answer is an enum, a definition specifies this paper's number
-- and values for each of its cases."
use Rattle.std.specs.Prelude.{ℕ, ◌<◌, [], ◌∷◌, eqb, Option, Some, None}
use Rattle.laws.specs.Rows.{first_row}
use Rattle.joining.specs.declared.answer.Said.{Said}
use Rattle.joining.specs.Answers.{words, refused}
use Rattle.gateway.specs.declared.Answer.{Answer}
use Rattle.gateway.specs.declared.Answer.TheVariants.{Refused, Next, Ready, Failed, Again}

-- "The request that is due is type 0 in state 0, 2 in state 1, 6 in state 2, and none in any other"
abbrev pub due_in : ℕ → Option ℕ
due_in state =
    first_row
    ((eqb state 0, Some 0)
    ∷ (eqb state 1, Some 2)
    ∷ (eqb state 2, Some 6)
    ∷ [])
    None

-- The type of a request that is due; 256, which no type byte is, where none is.
abbrev pub due_number : Option ℕ → ℕ
due_number (Some t) = t
due_number None = 256

-- "next 2", "next 6".
abbrev pub next : ℕ → Said
next t = words 7 t 0

-- "answer Ready".
abbrev pub now_ready : Said
now_ready = words 8 0 0

-- "answer Failed".
abbrev pub now_failed : Said
now_failed = words 9 0 0

-- "Again, 2", "Again, 6", "Again, nothing to send".
abbrev pub again : Option ℕ → Said
again d = words 2 (due_number d) 0

-- Each case's number and values.
abbrev pub said : Answer → Said
said (Refused n) = refused n
said (Next t) = next t
said Ready = now_ready
said Failed = now_failed
said (Again d) = again d

-- The request that Again names has a type byte, as an answer of the code has.
abbrev pub HasTypeByte : Answer → Type 0
HasTypeByte (Refused n) = Unit {0}
HasTypeByte (Next t) = Unit {0}
HasTypeByte Ready = Unit {0}
HasTypeByte Failed = Unit {0}
HasTypeByte (Again (Some t)) = t < 256
HasTypeByte (Again None) = Unit {0}
