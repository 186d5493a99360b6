-- SPDX-License-Identifier: MPL-2.0
-- The exclusive or of two numbers, bit by bit: what `^` computes, under a name that stays shut, so that a nest of it stays small.
-- Its laws are in proofs/Xor.
use Rattle.std.specs.Prelude.{ℕ}
use Rattle.std.specs.Int.Bits.{bit_xor}

-- The exclusive or.
unfoldable pub xor : ℕ → ℕ → ℕ
xor a b = bit_xor a b
