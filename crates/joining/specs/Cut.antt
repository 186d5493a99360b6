-- SPDX-License-Identifier: MPL-2.0
-- Cutting: "A report of 0 to 64 × F bytes is cut in order into pieces of F bytes, the last holding the remainder of 1 to F; an empty report
-- is one empty piece."
use Rattle.std.specs.Prelude.{ℕ, ◌+◌, ◌-◌, ◌*◌, ◌/◌, List, [], ◌∷◌, ◌++◌, Bool, cond, ◌||◌, eqb, ltb, leb, length, Result}
use Rattle.laws.specs.Rows.{first, unless}
use Rattle.laws.specs.Parts.{part}
use Rattle.wire.specs.Refusals.{wrong_fragment_size, wrong_piece}
use Rattle.joining.specs.Heard.{most}

-- 24: "F outside 1 to 16,384".
abbrev pub bad_size : ℕ → Bool
bad_size F = eqb F 0 || ltb 16384 F

-- How many pieces a report of n bytes makes.
abbrev pub piece_count : ℕ → ℕ → ℕ
piece_count F bytes = cond (eqb bytes 0) 1 ((bytes - 1) / F + 1)

-- "it refuses with 24, ..."
abbrev pub size_rows : ℕ → List (ℕ × Bool)
size_rows F = (wrong_fragment_size, bad_size F) ∷ []

-- "... then with 7 if the report is longer than 64 × F or i is not under the count".
abbrev pub piece_rows : ℕ → ℕ → ℕ → List (ℕ × Bool)
piece_rows F bytes i = (wrong_piece, ltb (F * most) bytes || leb (piece_count F bytes) i) ∷ []

-- The first refusal that applies; 0 is none.
unfoldable pub cut_refusal : ℕ → ℕ → ℕ → ℕ
cut_refusal F bytes i = first (size_rows F ++ piece_rows F bytes i)

-- "Asked for piece i, the cutter answers the count … A refusal gives count 0".
abbrev pub cut_count : ℕ → ℕ → ℕ → ℕ
cut_count F bytes i = cond (eqb (cut_refusal F bytes i) 0) (piece_count F bytes) 0

-- What is answered: the count, or the refusal.
abbrev pub cutting : ℕ → ℕ → ℕ → Result ℕ ℕ
cutting F bytes i = unless (cut_refusal F bytes i) (piece_count F bytes)

-- "… and that part of the report", a refusal "the empty part at the report's start".
abbrev pub cut_piece : ℕ → List ℕ → ℕ → List ℕ
cut_piece F report i = cond (eqb (cut_refusal F (length report) i) 0) (part report (F * i) F) []
