-- SPDX-License-Identifier: MPL-2.0
-- A table of refusals: a list of rows, each a number of document 01 and the test that gives it, in the order in which they are made. A table of
-- ways: each row a test, and what is done where it is the first that holds.
use Rattle.std.specs.Prelude.{ℕ, List, [], ◌∷◌, ◌≡◌, ◌⊎◌, Bool, true, false, cond, not, ◌&&◌, ◌||◌, leb, eqb, Result, Ok, Err}

-- The number of the first row whose test holds, 0 where none does.
abbrev pub first : List (ℕ × Bool) → ℕ
first [] = 0
first (row ∷ rows) = cond row.1 row.0 (first rows)

-- A table's answer, and where it is 0 that of the table after it.
abbrev pub or_else : ℕ → ℕ → ℕ
or_else n m = cond (eqb n 0) m n

-- A value, or the refusal of this number; 0 is none.
abbrev pub unless : {A : Type 0} → ℕ → A → Result A ℕ
unless n value = cond (eqb n 0) (Ok value) (Err n)

-- The number of the refusal that an answer is; 0 is none.
abbrev pub refusal_in : {A : Type 0} → Result A ℕ → ℕ
refusal_in (Ok a) = 0
refusal_in (Err n) = n

-- No row has the number 0.
abbrev pub numbered : List (ℕ × Bool) → Bool
numbered [] = true
numbered (row ∷ rows) = not (eqb row.0 0) && numbered rows

-- No row's test holds.
abbrev pub quiet : List (ℕ × Bool) → Type 0
quiet [] = Unit
quiet (row ∷ rows) = (row.1 ≡ false) × quiet rows

-- The test of the first row with this number; false where there is none.
abbrev pub test_of : ℕ → List (ℕ × Bool) → Bool
test_of n [] = false
test_of n (row ∷ rows) = cond (eqb row.0 n) row.1 (test_of n rows)

-- The first row whose test holds has the number n: before it no test holds.
abbrev pub leads : ℕ → List (ℕ × Bool) → Type 0
leads n [] = ⊥
leads n (row ∷ rows) = ((row.1 ≡ true) × (row.0 ≡ n)) ⊎ ((row.1 ≡ false) × leads n rows)

-- No row has a number above k.
abbrev pub up_to : ℕ → List (ℕ × Bool) → Bool
up_to k [] = true
up_to k (row ∷ rows) = leb row.0 k && up_to k rows

-- What the first row does whose test holds, and where none does the other.
abbrev pub first_row : {A : Type 0} → List (Bool × A) → A → A
first_row [] other = other
first_row (row ∷ rows) other = cond row.0 row.1 (first_row rows other)

-- Some row's test holds.
abbrev pub any_of : {A : Type 0} → List (Bool × A) → Bool
any_of [] = false
any_of (row ∷ rows) = row.0 || any_of rows
