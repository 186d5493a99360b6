-- SPDX-License-Identifier: MPL-2.0
-- A course of calls, as far as demand 3 looks at it: which piece each one brought, which have come, how many.
use Rattle.std.specs.Prelude.{ℕ, zero, suc, ◌+◌, ◌<◌, ◌≡◌, List, [], ◌∷◌, Bool, true, false, ◌||◌, eqb}
use Rattle.joining.specs.Heard.{bit}

-- What one call was: piece i of the report, or something between.
pub data Event : Type 0 where
  piece : ℕ → Event
  between : Event

-- Piece j has come.
abbrev pub came : ℕ → List Event → Bool
came j [] = false
came j (piece i ∷ es) = eqb j i || came j es
came j (between ∷ es) = came j es

-- Piece i is the only one of n that is missing.
abbrev pub LastMissing : ℕ → ℕ → List Event → Type 0
LastMissing n i es = (came i es ≡ false) × ((j : ℕ) → j < n → (j ≡ i → ⊥) → came j es ≡ true)

-- How many of the pieces 0 to n - 1 have come, each counted once however often it came.
abbrev pub how_many : ℕ → List Event → ℕ
how_many zero es = 0
how_many (suc n) es = how_many n es + bit (came n es)
