-- SPDX-License-Identifier: MPL-2.0
-- The cutter in words.
use Rattle.std.specs.Prelude.{ℕ, ◌*◌, List, [], ◌∷◌, cond, eqb, length}
use Rattle.joining.specs.Cut.{cut_refusal, cut_count, cut_piece}

-- "Asked for piece i, the cutter answers the count and that part of the report": where it begins and how many bytes it has. "A refusal gives
-- count 0 and the empty part at the report's start."
unfoldable pub cut_words : ℕ → List ℕ → ℕ → List ℕ
cut_words F report i =
    cut_count F (length report) i ∷ cond (eqb (cut_refusal F (length report) i) 0) (F * i) 0 ∷ length (cut_piece F report i) ∷ []
