-- SPDX-License-Identifier: MPL-2.0
-- Digits: how many they are, and that they may be put into a buffer the last one first.
use Rattle.laws.proofs.Kit.{ℕ, zero, suc, ◌+◌, ◌-◌, ◌/◌, ◌%◌, ◌≤◌, ◌<◌, ◌≡◌, refl, List, [], ◌∷◌, length, set, length-append, sets, arith}
use Rattle.std.proofs.Common.{max, ◌*◌, ◌^◌}
use lib.Seq.{set_comm}
use Rattle.laws.proofs.Firsts.{first-up_to}
use Rattle.laws.proofs.Stores.{sets-sets}
use Rattle.lines.specs.Text.{digits, digit_rows, digit_count, field}

pub length_digits : (k n : ℕ) → length (digits k n) ≡ k
unfolding digits
length_digits zero n = refl
length_digits (suc k) n = rw length-append (omega (arith, length_digits k (n / 10)))

-- A store after a run may as well come before it.
sets-set : (vs l : List ℕ) (i j a : ℕ) → i + length vs ≤ j → sets (set l j a) i vs ≡ set (sets l i vs) j a
sets-set [] l i j a h = refl
sets-set (v ∷ vs) l i j a h =
    let other : j ≡ i → ⊥ = λ e. omega arith in
    rw (set_comm l j i a v other) (sets-set vs (set l i v) (suc i) j a (omega arith))

-- One digit less is left to be put, at the place before those that have been.
put_at : (out : List ℕ) (at last left k n : ℕ) → last ≡ at + k → left ≡ suc k
    → sets (set out last (48 + n % 10)) at (digits k (n / 10)) ≡ sets out at (digits left n)
unfolding digits
put_at out at last left k n p q =
    let ds = digits k (n / 10) in
    let long : length ds ≡ k = length_digits k (n / 10) in
    rw (p, q, sets-set ds out at (at + k) (48 + n % 10) (omega arith)) (sets-sets ds ((48 + n % 10) ∷ []) out at (at + k) (omega arith))

pub put_last : (out : List ℕ) (at place n : ℕ) → at < place
    → sets (set out (place - 1) (48 + n % 10)) at (digits (place - 1 - at) (n / 10)) ≡ sets out at (digits (place - at) n)
put_last out at place n h = put_at out at (place - 1) (place - at) (place - 1 - at) n (omega arith) (omega arith)

-- A number has a digit more than the tens that it reaches.
pub digit_count_at : (n m k : ℕ) → m ≡ max n 1 → 10 ^ k ≤ m → m < 10 * 10 ^ k → k < 10 → k + 1 ≡ digit_count n
unfolding digit_count
digit_count_at n m zero e h l b = grind arith
digit_count_at n m (suc zero) e h l b = grind arith
digit_count_at n m (suc (suc zero)) e h l b = grind arith
digit_count_at n m (suc (suc (suc zero))) e h l b = grind arith
digit_count_at n m (suc (suc (suc (suc zero)))) e h l b = grind arith
digit_count_at n m (suc (suc (suc (suc (suc zero))))) e h l b = grind arith
digit_count_at n m (suc (suc (suc (suc (suc (suc zero)))))) e h l b = grind arith
digit_count_at n m (suc (suc (suc (suc (suc (suc (suc zero))))))) e h l b = grind arith
digit_count_at n m (suc (suc (suc (suc (suc (suc (suc (suc zero)))))))) e h l b = grind arith
digit_count_at n m (suc (suc (suc (suc (suc (suc (suc (suc (suc zero))))))))) e h l b = grind arith
digit_count_at n m _ e h l b = absurd (omega arith)

-- A number below 2^32 has at most ten digits.
pub few_digits : (n : ℕ) → digit_count n ≤ 10
unfolding digit_count
few_digits n = first-up_to 10 (digit_rows n) refl

pub length_field : (n b : ℕ) → length (field n b) ≡ digit_count n + 1
unfolding field
length_field n b = rw length-append (omega (arith, length_digits (digit_count n) n))
