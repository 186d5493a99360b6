-- SPDX-License-Identifier: MPL-2.0
-- Entries that stand one after the other, each known by its index, from 0 on: where it stands, and whether each passes a test.
use Rattle.std.specs.Prelude.{ℕ, zero, suc, List, [], ◌∷◌, Bool, true, ◌&&◌}

-- The place of an entry: the first stands at a given place, each other where the one before it ends.
unfoldable pub entry_at : (ends : ℕ → ℕ) (first index : ℕ) → ℕ
entry_at ends first zero = first
entry_at ends first (suc i) = ends (entry_at ends first i)

-- Each of the first n entries passes a test.
unfoldable pub each : (test : ℕ → Bool) (n : ℕ) → Bool
each test zero = true
each test (suc n) = each test n && test n

-- Each value of a list passes a test.
unfoldable pub all : {A : Type 0} (test : A → Bool) → List A → Bool
all test [] = true
all test (x ∷ xs) = test x && all test xs
