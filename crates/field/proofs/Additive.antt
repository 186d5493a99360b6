-- SPDX-License-Identifier: MPL-2.0
-- What keeps sums is known by its values at the eight binary digits: two such functions that agree there agree at every byte.
use Rattle.laws.proofs.Kit.{ℕ, zero, suc, ◌+◌, ◌*◌, ◌/◌, ◌%◌, ◌^◌, ◌≤◌, ◌<◌, ◌≡◌, sym, ◌∙◌, ap, subst, lit<, mod-lt, arith}
use native.Mathlib.Nat.{zero-mul, one-mul, div-lt_iff_lt-mul, pow-suc, mul_comm}
use lib.Bits.{xor_shifted}
use lib.Pow.{split, pow_pos}
use Rattle.field.specs.Xor.{xor}
use Rattle.field.proofs.Xor.{is-bit-xor, self}

-- the value at a sum of bytes is the sum of the values
pub record Additive (f : ℕ → ℕ) : Type 0 where
  pub sum : (a b : ℕ) → a < 256 → b < 256 → f (xor a b) ≡ xor (f a) (f b)

pub at_zero : (f : ℕ → ℕ) → Additive f → f 0 ≡ 0
at_zero f add = ap f (sym (self 0)) ∙ add.sum 0 0 (lit< tt) (lit< tt) ∙ self (f 0)

module _ (f g : ℕ → ℕ) (af : Additive f) (ag : Additive g) (one : (j : ℕ) → j < 8 → f (2 ^ j) ≡ g (2 ^ j)) where
  at-digit : (b j : ℕ) → b < 2 → j < 8 → f (b * 2 ^ j) ≡ g (b * 2 ^ j)
  at-digit zero j hb hj = simp (zero-mul, at_zero f af, at_zero g ag)
  at-digit (suc zero) j hb hj = simp one-mul (one j hj)
  at-digit (suc (suc b)) j hb hj = absurd (omega arith)

  -- digit by digit, from the top
  upto : (n d : ℕ) → n ≤ 8 → d < 256 → d < 2 ^ n → f d ≡ g d
  upto zero d hn hd h = let z : d ≡ 0 = omega arith in rw (z, at_zero f af, at_zero g ag)
  upto (suc n) d hn hd h =
      let top = d / 2 ^ n in
      let low = d % 2 ^ n in
      let parts : top * 2 ^ n + low ≡ d = split d n in
      let hl : low < 2 ^ n = mod-lt d (pow_pos n) in
      let ht : top < 2 = (div-lt_iff_lt-mul (pow_pos n)).1 (subst (λ (m : ℕ). d < m) (pow-suc 2 n ∙ mul_comm (2 ^ n) 2) h) in
      let e : xor (top * 2 ^ n) low ≡ d = is-bit-xor _ _ ∙ xor_shifted top n low hl ∙ parts in
      let bt : top * 2 ^ n < 256 = omega (arith, parts) in
      let bl : low < 256 = omega (arith, parts) in
      subst (λ (x : ℕ). f x ≡ g x) e
      (rw (af.sum _ low bt bl, ag.sum _ low bt bl, at-digit top n ht (omega arith), upto n low (omega arith) bl hl))

  pub additive-same : (d : ℕ) → d < 256 → f d ≡ g d
  additive-same d h = upto 8 d (omega arith) h h
