-- SPDX-License-Identifier: MPL-2.0
-- FIPS 197, 5.1 and 5.3: the state, a block of sixteen bytes, and the steps of a round each way. Byte i of the list stands in row i % 4
-- and column i / 4 (3.4). Each step is given byte by byte.
use Rattle.std.specs.Prelude.{◌≡◌, List, [], ℕ, ◌+◌, ◌-◌, ◌*◌, ◌/◌, ◌%◌, ◌<◌, get_or, length}
use Rattle.laws.specs.Runs.{run}
use Rattle.field.specs.Xor.{xor}
use Rattle.field.specs.Sbox.{sbox, inv_sbox}
use Rattle.field.specs.Mix.{mixed, unmixed}

-- The block whose byte i is f i.
unfoldable pub block : (ℕ → ℕ) → List ℕ
block f = run f 0 16

-- The list is a block: sixteen bytes.
pub record Block (s : List ℕ) : Type 0 where
  pub len : length s ≡ 16
  pub bytes : (i : ℕ) → i < 16 → get_or s i 0 < 256

-- The first eleven lists are blocks, as round keys are.
abbrev pub Keys : List (List ℕ) → Type 0
Keys ks = (i : ℕ) → i < 11 → Block (get_or ks i [])

-- 5.1.1, SubBytes(): each byte is substituted.
unfoldable pub sub_bytes : List ℕ → List ℕ
sub_bytes s = block (λ i. sbox (get_or s i 0))

-- 5.1.2, ShiftRows(): row r turns left by r places, so that a byte comes from the same row, r columns on.
unfoldable pub shifted : ℕ → ℕ
shifted i = i % 4 + 4 * ((i / 4 + i % 4) % 4)

-- The state with its rows turned so.
unfoldable pub shift_rows : List ℕ → List ℕ
shift_rows s = block (λ i. get_or s (shifted i) 0)

-- The place j rows below place i in its column, from the top again past the end.
unfoldable pub down : ℕ → ℕ → ℕ
down i j = 4 * (i / 4) + (i + j) % 4

-- 5.1.3, MixColumns(): each column times the matrix.
unfoldable pub mix_columns : List ℕ → List ℕ
mix_columns s =
    block (λ i. mixed (get_or s (down i 0) 0) (get_or s (down i 1) 0) (get_or s (down i 2) 0) (get_or s (down i 3) 0))

-- 5.1.4, AddRoundKey(): each byte is added to the round key's.
unfoldable pub add_round_key : List ℕ → List ℕ → List ℕ
add_round_key s k = block (λ i. xor (get_or s i 0) (get_or k i 0))

-- 5.3.1, InvShiftRows(): row r turns right by r places.
unfoldable pub unshifted : ℕ → ℕ
unshifted i = i % 4 + 4 * ((i / 4 + (4 - i % 4)) % 4)

-- The state with its rows turned back.
unfoldable pub inv_shift_rows : List ℕ → List ℕ
inv_shift_rows s = block (λ i. get_or s (unshifted i) 0)

-- 5.3.2, InvSubBytes(): each substitution is taken back.
unfoldable pub inv_sub_bytes : List ℕ → List ℕ
inv_sub_bytes s = block (λ i. inv_sbox (get_or s i 0))

-- 5.3.3, InvMixColumns(): each column times the inverse matrix.
unfoldable pub inv_mix_columns : List ℕ → List ℕ
inv_mix_columns s =
    block (λ i. unmixed (get_or s (down i 0) 0) (get_or s (down i 1) 0) (get_or s (down i 2) 0) (get_or s (down i 3) 0))

-- The sixteen bytes at the front of a list; those that are missing count as zero.
unfoldable pub load_block : List ℕ → List ℕ
load_block s = block (λ i. get_or s i 0)
