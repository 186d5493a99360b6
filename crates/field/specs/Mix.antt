-- SPDX-License-Identifier: MPL-2.0
-- FIPS 197, 4.3, 5.1.3 and 5.3.3: a row of a matrix times a column of four bytes. Each matrix has one row, turned by one place from row
-- to row: so the row that starts at a byte's own place serves all four.
use Rattle.std.specs.Prelude.{ℕ}
use Rattle.field.specs.Xor.{xor}
use Rattle.field.specs.Field.{mul}

-- The sum of four bytes.
unfoldable pub xor4 : ℕ → ℕ → ℕ → ℕ → ℕ
xor4 a b c d = xor a (xor b (xor c d))

-- The row k l m n times the column a b c d.
unfoldable pub row : ℕ → ℕ → ℕ → ℕ → ℕ → ℕ → ℕ → ℕ → ℕ
row k l m n a b c d = xor4 (mul k a) (mul l b) (mul m c) (mul n d)

-- 5.1.3: the row of MixColumns, 02 03 01 01.
unfoldable pub mixed : ℕ → ℕ → ℕ → ℕ → ℕ
mixed = row 0x02 0x03 0x01 0x01

-- 5.3.3: the row of InvMixColumns, 0e 0b 0d 09.
unfoldable pub unmixed : ℕ → ℕ → ℕ → ℕ → ℕ
unmixed = row 0x0E 0x0B 0x0D 0x09
