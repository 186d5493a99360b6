-- SPDX-License-Identifier: MPL-2.0
-- Eight indexes and their byte, both ways.
use Rattle.laws.proofs.Kit.{ℕ, zero, suc, ◌+◌, ◌*◌, ◌/◌, ◌%◌, ◌^◌, ◌≤◌, ◌<◌, ◌≡◌, refl, sym, ◌∙◌, ap, Bool, true, false, List, [], ◌∷◌, length, get_or, eqb}
use Rattle.laws.proofs.Kit.{take, drop, length-take-le, length-drop, add-one, arith}
use native.Mathlib.Nat.{zero-div, div-one, pow-succ', div-div-eq-div-mul, mod-eq_of_lt, mul-le-mul_right}
use lib.Seq.{ext_get_or}
use Rattle.std.proofs.lemmas.List.{get_or-take, get_or-drop}
use Rattle.std.proofs.Math.Pow.{pow_mono}
use Rattle.joining.specs.Heard.{bit, has}
use Rattle.joining.proofs.HeardLaws.{bit_le}
use Rattle.laws.specs.Runs.{gathered}
use Rattle.laws.proofs.Runs.{length-gathered}
use Rattle.state.specs.State.{value, eight}
use Rattle.state.proofs.Gathered.{gathered-at}

-- Bit k of a number, and a number's half.
abbrev bit_of : ℕ → ℕ → Bool
bit_of n k = eqb (n / 2 ^ k % 2) 1

half-bit : (n k : ℕ) → bit_of n (suc k) ≡ bit_of (n / 2) k
half-bit n k = rw (pow-succ' 2 k, div-div-eq-div-mul n 2 (2 ^ k))

bit-one : (n : ℕ) → n < 2 → bit (eqb n 1) ≡ n
bit-one zero l = refl
bit-one (suc zero) l = refl
bit-one (suc (suc n)) l = absurd (omega arith)

-- The bits of a value are those that it was made of.
picked : (bs : List Bool) (k : ℕ) → bit_of (value bs) k ≡ get_or bs k false
picked [] k = rw zero-div
picked (true ∷ bs) zero = let e : (1 + 2 * value bs) / 1 % 2 ≡ 1 = rw div-one (omega arith) in rw e
picked (false ∷ bs) zero = let e : (0 + 2 * value bs) / 1 % 2 ≡ 0 = rw div-one (omega arith) in rw e
picked (b ∷ bs) (suc k) =
    let l = bit_le b in
    let h : (bit b + 2 * value bs) / 2 ≡ value bs = omega arith in
    rw (half-bit (bit b + 2 * value bs) k, h) (picked bs k)

-- The value of a number's bits is the number.
weighed : (bs : List Bool) (n : ℕ) → n < 2 ^ length bs → ((k : ℕ) → k < length bs → get_or bs k false ≡ bit_of n k) → value bs ≡ n
weighed [] n l e = omega arith
weighed (b ∷ bs) n l e =
    let h : n < 2 * 2 ^ length bs = rw (pow-succ' 2 (length bs)) at l in
    let low : bit b ≡ n % 2 = ap bit (e 0 (omega arith)) ∙ rw div-one (bit-one (n % 2) (omega arith)) in
    let high : value bs ≡ n / 2 = weighed bs (n / 2) (omega arith) (λ k i. e (suc k) (omega arith) ∙ half-bit n k) in
    omega arith

-- Bit k of eight indexes is index k of them, and indexes that are the bits of a byte make the byte.
pub eight-bit : (h : List Bool) (at k : ℕ) → k < 8 → bit_of (eight h at) k ≡ has h (at + k)
eight-bit h at k l = picked (gathered (λ (i : ℕ). has h (at + i)) 8) k ∙ gathered-at _ false 8 k l

pub eight-bits : (h : List Bool) (at n : ℕ) → n < 256 → ((k : ℕ) → k < 8 → has h (at + k) ≡ eqb (n / 2 ^ k % 2) 1) → eight h at ≡ n
unfolding gathered
eight-bits h at n l e =
    let f : ℕ → Bool = λ (i : ℕ). has h (at + i) in
    weighed (gathered f 8) n l (λ k i. gathered-at f false 8 k i ∙ e k i)

-- The value of k bits is below 2^k; one bit more adds its weight.
value-less : (bs : List Bool) → value bs < 2 ^ length bs
value-less [] = omega arith
value-less (b ∷ bs) = rw (pow-succ' 2 (length bs)) (omega (arith, bit_le b, value-less bs))

value-more : (bs : List Bool) (k : ℕ) → k < length bs → value (take (suc k) bs) ≡ value (take k bs) + bit (get_or bs k false) * 2 ^ k
value-more [] k l = absurd (omega arith)
value-more (b ∷ bs) zero l = omega arith
value-more (b ∷ bs) (suc k) l = rw (pow-succ' 2 k) (omega (arith, value-more bs k (omega arith)))

-- So at each of at most eight bits the sum is a byte, the value of one bit more.
pub value-turn : (bs : List Bool) (k v b : ℕ) → length bs ≤ 8 → k < length bs → v ≡ value (take k bs) → b ≡ bit (get_or bs k false)
    → (v + b * 2 ^ k % 256 < 256) × (v + b * 2 ^ k % 256 ≡ value (take (k + 1) bs))
value-turn bs k v b m l e f =
    let p : 2 ^ (suc k) ≤ 256 = pow_mono {i = suc k} {j = 8} (omega arith) in
    let q : 2 * 2 ^ k ≤ 256 = rw (pow-succ' 2 k) at p in
    let w : b * 2 ^ k ≤ 1 * 2 ^ k = mul-le-mul_right (2 ^ k) (omega (arith, bit_le (get_or bs k false))) in
    let n : b * 2 ^ k % 256 ≡ b * 2 ^ k = mod-eq_of_lt (omega arith) in
    let more : value (take (suc k) bs) ≡ v + b * 2 ^ k = rw (e, f) (value-more bs k l) in
    let less = rw (length-take-le (suc k) bs (omega arith)) at (value-less (take (suc k) bs)) in
    rw (n, add-one k) (omega arith, sym more)

-- Eight indexes as a part of the set.
pub part-eight : (h : List Bool) (at : ℕ) → at + 8 ≤ length h → value (take 8 (drop at h)) ≡ eight h at
part-eight h at l =
    let f : ℕ → Bool = λ (k : ℕ). has h (at + k) in
    let n : length (take 8 (drop at h)) ≡ 8 = length-take-le 8 (drop at h) (omega (arith, length-drop at h)) in
    ap value
    (ext_get_or false (take 8 (drop at h)) (gathered f 8) (n ∙ sym (length-gathered f 8))
    (λ k g. let i : k < 8 = rw n at g in get_or-take 8 (drop at h) k false i ∙ get_or-drop at h k false ∙ sym (gathered-at f false 8 k i)))
