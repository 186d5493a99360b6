-- SPDX-License-Identifier: MPL-2.0
-- FIPS 197, section 4: bytes as elements of the finite field whose polynomial is x^8 + x^4 + x^3 + x + 1, 0x11B. A byte is the number
-- whose binary digits are its coefficients; the sum of two is their exclusive or.
use Rattle.std.specs.Prelude.{ℕ, zero, suc, ◌*◌, ◌/◌, ◌%◌}
use Rattle.field.specs.Xor.{xor}

-- The polynomial's digits.
abbrev pub polynomial : ℕ
polynomial = 0x11B

-- 4.2: times x. The digits move up by one, and where an eighth comes out the polynomial is taken off.
unfoldable pub xtime : ℕ → ℕ
xtime b = xor (b * 2) (b / 128 * polynomial)

-- The product of b by the n lowest digits of a.
unfoldable pub times : ℕ → ℕ → ℕ → ℕ
times zero a b = 0
times (suc n) a b = xor (a % 2 * b) (xtime (times n (a / 2) b))

-- 4.2: the product of two bytes.
unfoldable pub mul : ℕ → ℕ → ℕ
mul a b = times 8 a b

-- A byte times itself.
unfoldable pub square : ℕ → ℕ
square b = mul b b

-- b to the power of 2^(n + 1) - 1, whose binary digits are n + 1 ones.
unfoldable pub ones : ℕ → ℕ → ℕ
ones zero b = b
ones (suc n) b = mul b (square (ones n b))

-- 4.4: the inverse of b is b to the power of 254, which is twice 127. It gives 0 for 0.
unfoldable pub inverse : ℕ → ℕ
inverse b = square (ones 6 b)
