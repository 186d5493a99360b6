-- SPDX-License-Identifier: MPL-2.0
-- A text that is put where there is room, and parts put one after the other.
use Rattle.laws.proofs.Kit.{ℕ, ◌+◌, ◌≤◌, ◌≡◌, refl, List, [], ◌∷◌, length, set, length-append, sets, le-ltb}
use Rattle.laws.proofs.Stores.{sets-sets, stored-twice}
use Rattle.lines.specs.Text.{digits, digit_count, field, put, put_end}
use Rattle.lines.proofs.Digits.{length_digits}

pub room : (need at : ℕ) (text out : List ℕ) → at + need ≤ length out
    → (at + length text ≡ put_end need at text out) × (sets out at text ≡ put need at text out)
unfolding put put_end
room need at text out h = (rw (le-ltb (length out) (at + need) h), rw (le-ltb (length out) (at + need) h))

-- The digits of a number, then the byte after them.
pub field_put : (out mid : List ℕ) (at n b count : ℕ) → count ≡ digit_count n → mid ≡ sets out at (digits count n)
    → set mid (at + count) b ≡ sets out at (field n b)
unfolding field
field_put out mid at n b count e p =
    let k : length (digits count n) ≡ count = length_digits count n in
    rw (← e) (stored-twice (digits count n) (b ∷ []) out at (at + count) p refl (rw k))

-- Parts put one after the other.
pub ruleset joined = (sets-sets, length-append)
