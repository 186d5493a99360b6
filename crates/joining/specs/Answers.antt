-- SPDX-License-Identifier: MPL-2.0
-- What the arrival of a piece is answered, in document 01's numbers: "When an answer is an enum, a definition specifies this paper's number and
-- values for each of its cases."
use Rattle.std.specs.Prelude.{ℕ, Bool, eqb}
use Rattle.joining.specs.declared.answer.Said.{Said}
use Rattle.joining.specs.declared.Arrival.{Arrival}
use Rattle.joining.specs.declared.Arrival.TheVariants.{Refused, Taken, Repeat, Complete}

-- An answer that is no refusal: its kind and values, the refusal's number being 0.
abbrev pub words : (kind value detail : ℕ) → Said
words kind value detail = record { refusal = 0; kind = kind; value = value; detail = detail }

-- Refused with the number n: every other value is 0.
abbrev pub refused : ℕ → Said
refused n = record { refusal = n; kind = 0; value = 0; detail = 0 }

-- "Answers: Taken, Repeat, Complete with the report's length; each also tells how many different pieces of this message have come."
abbrev pub taken : ℕ → Said
taken k = words 4 k 0

abbrev pub repeated : ℕ → Said
repeated k = words 5 k 0

abbrev pub complete : (length k : ℕ) → Said
complete length k = words 6 k length

-- Each case's number and values.
abbrev pub arrived : Arrival → Said
arrived (Refused n) = refused n
arrived (Taken k) = taken k
arrived (Repeat k) = repeated k
arrived (Complete l k) = complete l k

-- Which of them an answer is, by its kind.
abbrev pub is_taken : Said → Bool
is_taken s = eqb s.kind 4

abbrev pub is_repeat : Said → Bool
is_repeat s = eqb s.kind 5

-- The answer that hands a report out.
abbrev pub is_complete : Said → Bool
is_complete s = eqb s.kind 6
