-- SPDX-License-Identifier: MPL-2.0
-- A column of four bytes as one word, the first byte the lowest; and what one byte adds to its column in a round, as the code has it ready.
use Rattle.std.specs.Prelude.{ℕ, ◌+◌, ◌-◌, ◌*◌, ◌/◌, ◌%◌, ◌^◌}
use Rattle.field.specs.Field.{mul}
use Rattle.field.specs.Mix.{row}
use Rattle.field.specs.Sbox.{sbox, inv_sbox}

-- Four bytes as a word.
abbrev pub word : ℕ → ℕ → ℕ → ℕ → ℕ
word a b c d = ((d * 256 + c) * 256 + b) * 256 + a

-- Byte m of a word.
abbrev pub byte_at : ℕ → ℕ → ℕ
byte_at w m = w / 2 ^ (8 * m) % 256

-- The word of what f makes of each byte of a word.
unfoldable pub each : (ℕ → ℕ) → ℕ → ℕ
each f x = word (f (byte_at x 0)) (f (byte_at x 1)) (f (byte_at x 2)) (f (byte_at x 3))

-- A whole column through the matrix whose row is k l m n.
unfoldable pub column : ℕ → ℕ → ℕ → ℕ → ℕ → ℕ → ℕ → ℕ → ℕ
column k l m n a b c d = word (row k l m n a b c d) (row k l m n b c d a) (row k l m n c d a b) (row k l m n d a b c)

-- InvMixColumns of a word that is a column.
unfoldable pub unmixed_word : ℕ → ℕ
unmixed_word x = column 0x0E 0x0B 0x0D 0x09 (byte_at x 0) (byte_at x 1) (byte_at x 2) (byte_at x 3)

-- What the byte in the first row adds to the column. For the byte one row down the same with l m n k, and so on.
unfoldable pub spread : ℕ → ℕ → ℕ → ℕ → ℕ → ℕ
spread k l m n a = word (mul k a) (mul n a) (mul m a) (mul l a)

-- A word twice over: read from one byte below its top it is the word with its bytes turned by one place.
unfoldable pub twice : ℕ → ℕ
twice x = x * 0x100000001

-- The word that stands m bytes below the top of a word twice over.
abbrev pub turned : ℕ → ℕ → ℕ
turned x m = x / 2 ^ (32 - 8 * m) % 4294967296

-- What the byte x adds to its column in a round of the cipher, from the first row, twice over.
unfoldable pub mixes : ℕ → ℕ
mixes x = twice (spread 0x02 0x03 0x01 0x01 (sbox x))

-- The same in a round of the inverse cipher.
unfoldable pub unmixes : ℕ → ℕ
unmixes x = twice (spread 0x0E 0x0B 0x0D 0x09 (inv_sbox x))
