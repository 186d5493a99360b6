-- SPDX-License-Identifier: MPL-2.0
-- FIPS 180-4 §2.2.2, §3.2 and §4.1.2: words of 32 bits, as numbers below 2^32; what is done to them; SHA-256's six functions of words.
use Rattle.std.specs.Prelude.{ℕ, ◌+◌, ◌-◌, ◌*◌, ◌/◌, ◌%◌, ◌^◌, bit_and, bit_or, bit_xor}

-- The sum of two words wraps at 2^32.
unfoldable pub plus : ℕ → ℕ → ℕ
plus x y = (x + y) % 2 ^ 32

-- ¬x: each bit turned over.
unfoldable pub complement : ℕ → ℕ
complement x = (2 ^ 32 - 1) - x

-- SHR^n(x) = x >> n.
unfoldable pub SHR : ℕ → ℕ → ℕ
SHR n x = x / 2 ^ n

-- ROTR^n(x) = (x >> n) ∨ (x << 32 - n).
unfoldable pub ROTR : ℕ → ℕ → ℕ
ROTR n x = bit_or (x / 2 ^ n) ((x * 2 ^ (32 - n)) % 2 ^ 32)

-- Ch(x, y, z) = (x ∧ y) ⊕ (¬x ∧ z).
unfoldable pub Ch : ℕ → ℕ → ℕ → ℕ
Ch x y z = bit_xor (bit_and x y) (bit_and (complement x) z)

-- Maj(x, y, z) = (x ∧ y) ⊕ (x ∧ z) ⊕ (y ∧ z).
unfoldable pub Maj : ℕ → ℕ → ℕ → ℕ
Maj x y z = bit_xor (bit_xor (bit_and x y) (bit_and x z)) (bit_and y z)

-- Σ0(x) = ROTR^2(x) ⊕ ROTR^13(x) ⊕ ROTR^22(x).
unfoldable pub Σ0 : ℕ → ℕ
Σ0 x = bit_xor (bit_xor (ROTR 2 x) (ROTR 13 x)) (ROTR 22 x)

-- Σ1(x) = ROTR^6(x) ⊕ ROTR^11(x) ⊕ ROTR^25(x).
unfoldable pub Σ1 : ℕ → ℕ
Σ1 x = bit_xor (bit_xor (ROTR 6 x) (ROTR 11 x)) (ROTR 25 x)

-- σ0(x) = ROTR^7(x) ⊕ ROTR^18(x) ⊕ SHR^3(x).
unfoldable pub σ0 : ℕ → ℕ
σ0 x = bit_xor (bit_xor (ROTR 7 x) (ROTR 18 x)) (SHR 3 x)

-- σ1(x) = ROTR^17(x) ⊕ ROTR^19(x) ⊕ SHR^10(x).
unfoldable pub σ1 : ℕ → ℕ
σ1 x = bit_xor (bit_xor (ROTR 17 x) (ROTR 19 x)) (SHR 10 x)
