-- SPDX-License-Identifier: MPL-2.0
-- FIPS 197, 5.1.1 and 5.3.2: the substitution of a byte, by its rule, and the substitution back. The code looks both up in tables of
-- 256 entries, and each entry is shown to be what is written here.
use Rattle.std.specs.Prelude.{◌≡◌, ℕ, zero, suc, ◌+◌, ◌*◌, ◌/◌, ◌%◌, ◌^◌, ◌<◌}
use Rattle.field.specs.Field.{mul, inverse}

-- Binary digit i of b, the places taken round modulo 8.
abbrev pub digit : ℕ → ℕ → ℕ
digit b i = b / 2 ^ (i % 8) % 2

-- The number of n binary digits, which are f i, f (i + 1) and so on.
abbrev pub number : (ℕ → ℕ) → ℕ → ℕ → ℕ
number f i zero = 0
number f i (suc n) = f i + 2 * number f (suc i) n

-- (5.2): the affine map with 0x63.
unfoldable pub affine : ℕ → ℕ
affine b =
    number (λ i. (digit b i + digit b (i + 4) + digit b (i + 5) + digit b (i + 6) + digit b (i + 7) + digit 0x63 i) % 2) 0 8

-- 5.3.2: the affine map undone.
unfoldable pub unaffine : ℕ → ℕ
unaffine b = number (λ i. (digit b (i + 2) + digit b (i + 5) + digit b (i + 7) + digit 0x05 i) % 2) 0 8

-- 5.1.1: the inverse in the field, 0 for 0, then the affine map.
unfoldable pub sbox : ℕ → ℕ
sbox b = affine (inverse b)

-- 5.3.2: the affine map undone, then the inverse in the field.
unfoldable pub inv_sbox : ℕ → ℕ
inv_sbox b = inverse (unaffine b)

-- What the standard says of the substitute s of a byte b, without a word on how an inverse is found: proofs/Sbox shows that
-- `sbox b` has it and that nothing else does.
pub record Substitute (b s : ℕ) : Type 0 where
  pub inverted : ℕ
  pub a_byte : inverted < 256
  pub zero-to-zero : b ≡ 0 → inverted ≡ 0
  pub product-one : 0 < b → mul b inverted ≡ 1
  pub image : s ≡ affine inverted
