-- SPDX-License-Identifier: MPL-2.0
-- Rotations of a word, one after the other and of a ⊕: so they can be nested.
use Rattle.laws.proofs.Kit.{ℕ, ◌+◌, ◌-◌, ◌*◌, ◌/◌, ◌%◌, ◌^◌, ◌≤◌, ◌<◌, ◌≡◌, refl, sym, ◌∙◌, ap, mod-lt, bit_xor, xor_shr, arith}
use Rattle.laws.proofs.Xor.{xor_assoc}
use Rattle.std.proofs.Common.{add-zero, add_assoc, mul_assoc, add-mul, add_comm, pow_pos, pow-add, shr-shr, shr_lt}
use native.Mathlib.Nat.{mul-mod_left, mul-add-mod_self_right, mul-add-div_right}
use lib.Bits.{or_lt, or_shifted_r, xor_lt, xor_block, xor_mod}
use lib.Pow.{mod-pow-add, shl-shr, shr_le}
use Rattle.std.specs.Int.{w32, rotate_right}
use Rattle.compression.specs.Words.{SHR, ROTR, Σ0, Σ1, σ0, σ1}

-- the n low bits, above the k others
abbrev turned : ℕ → ℕ → ℕ → ℕ
turned n k x = (x % 2 ^ n) * 2 ^ k + x / 2 ^ n

rotr-turned : (n k x : ℕ) → n + k ≡ 32 → x < 2 ^ 32 → ROTR n x ≡ turned n k x
unfolding ROTR
rotr-turned n k x e h =
    let f : 32 - n ≡ k = omega arith in
    let g : k + n ≡ 32 = omega arith in
    let low : x * 2 ^ k % 2 ^ (n + k) ≡ (x % 2 ^ n) * 2 ^ k =
    rw (mod-pow-add (x * 2 ^ k) n k, shl-shr x k, mul-mod_left x (2 ^ k), add-zero) in
    rw (f, rw e at low) (or_shifted_r (x % 2 ^ n) k (x / 2 ^ n) (shr_lt k n (rw g h)))

rotr-lt : (n x : ℕ) → x < 2 ^ 32 → ROTR n x < 2 ^ 32
unfolding ROTR
rotr-lt n x h = or_lt 32 (x / 2 ^ n) _ (omega (arith, shr_le x n)) (mod-lt (x * 2 ^ (32 - n)) (pow_pos 32))

-- of a ⊕
rotr-xor : (n x y : ℕ) → n ≤ 32 → x < 2 ^ 32 → y < 2 ^ 32 → ROTR n (bit_xor x y) ≡ bit_xor (ROTR n x) (ROTR n y)
rotr-xor n x y h hx hy =
    let k = 32 - n in
    let e : n + k ≡ 32 = omega arith in
    let g : k + n ≡ 32 = omega arith in
    rw (rotr-turned n k (bit_xor x y) e (xor_lt 32 x y hx hy), rotr-turned n k x e hx, rotr-turned n k y e hy, xor_mod x y n, xor_shr x y n)
    (sym (xor_block k (x % 2 ^ n) (y % 2 ^ n) (x / 2 ^ n) (y / 2 ^ n) (shr_lt k n (rw g hx)) (shr_lt k n (rw g hy))))

turned-turned : (m n k x : ℕ) → turned m (n + k) (turned n (k + m) x) ≡ turned (m + n) k x
turned-turned m n k x =
    let q = x / 2 ^ n in
    let r = x % 2 ^ n in
    let high : x / 2 ^ (m + n) ≡ q / 2 ^ m = sym (shr-shr x n m ∙ ap (λ (i : ℕ). x / 2 ^ i) (add_comm n m)) in
    rw (pow-add 2 k m, ← mul_assoc r (2 ^ k) (2 ^ m), mul-add-mod_self_right (r * 2 ^ k) (2 ^ m) q, mul-add-div_right (pow_pos m) (r * 2 ^ k) q)
    (rw (mod-pow-add x m n, high, pow-add 2 n k, add-mul (q % 2 ^ m * 2 ^ n) r (2 ^ k), mul_assoc, add_assoc))

-- one after the other
rotr-rotr : (m n x : ℕ) → m + n ≤ 32 → x < 2 ^ 32 → ROTR m (ROTR n x) ≡ ROTR (m + n) x
rotr-rotr m n x h hx =
    let k = 32 - (m + n) in
    rw (rotr-turned m (n + k) (ROTR n x) (omega arith) (rotr-lt n x hx), rotr-turned n (k + m) x (omega arith) hx)
    (rw (rotr-turned (m + n) k x (omega arith) hx) (turned-turned m n k x))

-- nested once
pub rotr-nested : (m n x : ℕ) → m + n ≤ 32 → x < 2 ^ 32 → ROTR m (bit_xor x (ROTR n x)) ≡ bit_xor (ROTR m x) (ROTR (m + n) x)
rotr-nested m n x h hx = rotr-xor m x (ROTR n x) (omega arith) hx (rotr-lt n x hx) ∙ ap (bit_xor (ROTR m x)) (rotr-rotr m n x h hx)

-- nested twice
pub rotr-nested-twice : (l m n x : ℕ) → l + (m + n) ≤ 32 → x < 2 ^ 32
    → ROTR l (bit_xor x (ROTR m (bit_xor x (ROTR n x)))) ≡ bit_xor (bit_xor (ROTR l x) (ROTR (l + m) x)) (ROTR (l + (m + n)) x)
rotr-nested-twice l m n x h hx =
    let a = ROTR m x in
    let b = ROTR (m + n) x in
    let ha = rotr-lt m x hx in
    let hb = rotr-lt (m + n) x hx in
    rw (rotr-nested m n x (omega arith) hx, rotr-xor l x (bit_xor a b) (omega arith) hx (xor_lt 32 a b ha hb), rotr-xor l a b (omega arith) ha hb)
    (rw (rotr-rotr l m x (omega arith) hx, rotr-rotr l (m + n) x h hx, xor_assoc))

-- as the code has them, on a word
module _ (x : ℕ) (h : x < 2 ^ 32) where
  pub big_sigma0_by : Σ0 x ≡ rotate_right w32 (bit_xor x (rotate_right w32 (bit_xor x (rotate_right w32 x 9)) 11)) 2
  unfolding Σ0 ROTR
  big_sigma0_by = sym (rotr-nested-twice 2 11 9 x (omega arith) h)

  pub big_sigma1_by : Σ1 x ≡ bit_xor (bit_xor (rotate_right w32 x 6) (rotate_right w32 x 11)) (rotate_right w32 x 25)
  unfolding Σ1 ROTR
  big_sigma1_by = refl

  pub small_sigma0_by : σ0 x ≡ bit_xor (rotate_right w32 (bit_xor x (rotate_right w32 x 11)) 7) (x / 2 ^ 3)
  unfolding σ0 SHR ROTR
  small_sigma0_by = ap (λ (y : ℕ). bit_xor y (x / 2 ^ 3)) (sym (rotr-nested 7 11 x (omega arith) h))

  pub small_sigma1_by : σ1 x ≡ bit_xor (rotate_right w32 (bit_xor x (rotate_right w32 x 2)) 17) (x / 2 ^ 10)
  unfolding σ1 SHR ROTR
  small_sigma1_by = ap (λ (y : ℕ). bit_xor y (x / 2 ^ 10)) (sym (rotr-nested 17 2 x (omega arith) h))
