-- SPDX-License-Identifier: MPL-2.0
-- A product with a fixed byte is a byte, and the product of a sum is the sum of the products.
use Rattle.laws.proofs.Kit.{ℕ, zero, suc, ◌*◌, ◌/◌, ◌%◌, ◌≤◌, ◌<◌, ◌≡◌, refl, sym, lit<, arith}
use native.Mathlib.Nat.{zero-mul, one-mul, mul-le-mul_right}
use Rattle.field.specs.Xor.{xor}
use Rattle.field.specs.Field.{polynomial, xtime, times, mul}
use Rattle.field.proofs.Xor.{self, zero-r, zero-l, byte, swap4, double, half, lowest, top}
use Rattle.laws.proofs.Below.{bounded}

pub xtime-byte : (x : ℕ) → x < 256 → xtime x < 256
unfolding xtime xor
xtime-byte = bounded xtime 256 256 refl

-- a digit times a number, and a sum of digits
times-digit : (c a b : ℕ) → c < 2 → c * xor a b ≡ xor (c * a) (c * b)
times-digit zero a b h = simp (zero-mul, self)
times-digit (suc zero) a b h = simp one-mul
times-digit (suc (suc c)) a b h = absurd (omega arith)

digit-times : (p q m : ℕ) → p < 2 → q < 2 → xor p q * m ≡ xor (p * m) (q * m)
digit-times zero q m hp hq = simp (zero-mul, zero-l)
digit-times (suc zero) zero m hp hq = simp (zero-mul, zero-r)
digit-times (suc zero) (suc zero) m hp hq = simp (zero-mul, self)
digit-times (suc zero) (suc (suc q)) m hp hq = absurd (omega arith)
digit-times (suc (suc p)) q m hp hq = absurd (omega arith)

xtime-xor : (a b : ℕ) → a < 256 → b < 256 → xtime (xor a b) ≡ xor (xtime a) (xtime b)
unfolding xtime
xtime-xor a b ha hb =
    let d = digit-times (a / 128) (b / 128) polynomial (omega arith) (omega arith) in
    rw (double, top, d) (swap4 _ _ _ _)

times-byte : (n k x : ℕ) → x < 256 → times n k x < 256
unfolding times
times-byte zero k x h = lit< tt
times-byte (suc n) k x h =
    let d : k % 2 * x ≤ 1 * x = mul-le-mul_right x (omega arith) in
    byte (k % 2 * x) _ (omega arith) (xtime-byte _ (times-byte n (k / 2) x h))

times-xor : (n k a b : ℕ) → a < 256 → b < 256 → times n k (xor a b) ≡ xor (times n k a) (times n k b)
unfolding times
times-xor zero k a b ha hb = sym (self 0)
times-xor (suc n) k a b ha hb =
    let t = xtime-xor _ _ (times-byte n (k / 2) a ha) (times-byte n (k / 2) b hb) in
    rw (times-digit (k % 2) a b (omega arith), times-xor n (k / 2) a b ha hb, t) (swap4 _ _ _ _)

-- in the first factor too
times-left : (n a c b : ℕ) → b < 256 → times n (xor a c) b ≡ xor (times n a b) (times n c b)
unfolding times
times-left zero a c b h = sym (self 0)
times-left (suc n) a c b h =
    let t = xtime-xor _ _ (times-byte n (a / 2) b h) (times-byte n (c / 2) b h) in
    rw (lowest, half, digit-times (a % 2) (c % 2) b (omega arith) (omega arith), times-left n (a / 2) (c / 2) b h, t) (swap4 _ _ _ _)

pub mul-byte : (k x : ℕ) → x < 256 → mul k x < 256
unfolding mul
mul-byte k x h = times-byte 8 k x h

pub mul-xor : (k a b : ℕ) → a < 256 → b < 256 → mul k (xor a b) ≡ xor (mul k a) (mul k b)
unfolding mul
mul-xor k a b ha hb = times-xor 8 k a b ha hb

pub xor-mul : (a c b : ℕ) → b < 256 → mul (xor a c) b ≡ xor (mul a b) (mul c b)
unfolding mul
xor-mul a c b h = times-left 8 a c b h
