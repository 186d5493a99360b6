-- SPDX-License-Identifier: MPL-2.0
-- Text in ASCII: a number below 2^32 in decimal, a number with the byte after it, a name with a number; and a text that is put into a
-- buffer at a place, if there is room.
use Rattle.std.specs.Prelude.{ℕ, zero, suc, ◌+◌, ◌/◌, ◌%◌, List, [], ◌∷◌, ◌++◌, Bool, true, cond, length, ltb}
use Rattle.std.proofs.lemmas.List.Edits.{sets}
use Rattle.laws.specs.Rows.{first}

-- The last k digits of a number.
unfoldable pub digits : ℕ → ℕ → List ℕ
digits zero n = []
digits (suc k) n = digits k (n / 10) ++ ((48 + n % 10) ∷ [])

-- The number of digits, and the power of ten that a number of n digits does not reach.
abbrev pub digit_rows : ℕ → List (ℕ × Bool)
digit_rows n =
    (1, ltb n 10)
    ∷ (2, ltb n 100)
    ∷ (3, ltb n 1000)
    ∷ (4, ltb n 10000)
    ∷ (5, ltb n 100000)
    ∷ (6, ltb n 1000000)
    ∷ (7, ltb n 10000000)
    ∷ (8, ltb n 100000000)
    ∷ (9, ltb n 1000000000)
    ∷ (10, true)
    ∷ []

-- How many digits a number below 2^32 has.
unfoldable pub digit_count : ℕ → ℕ
digit_count n = first (digit_rows n)

-- A number in decimal, with no digit too many.
abbrev pub decimal : ℕ → List ℕ
decimal n = digits (digit_count n) n

-- A number in decimal, and a byte after it.
unfoldable pub field : ℕ → ℕ → List ℕ
field n after = decimal n ++ (after ∷ [])

-- A name, which ends in a blank, a number in decimal and the line's end.
unfoldable pub named : List ℕ → ℕ → List ℕ
named name n = name ++ field n 10

-- A text put at a place of a buffer that has room for `need` bytes there; a buffer that has not stays as it is.
unfoldable pub put : (need at : ℕ) → List ℕ → List ℕ → List ℕ
put need at text out = cond (ltb (length out) (at + need)) out (sets out at text)

-- The place after such a text; the place itself where there is no room.
unfoldable pub put_end : (need at : ℕ) → List ℕ → List ℕ → ℕ
put_end need at text out = cond (ltb (length out) (at + need)) at (at + length text)
