-- SPDX-License-Identifier: MPL-2.0
-- Lists of bytes; bytes as big-endian numbers, both ways: the number at a place of a list, and the bytes of a number.
use Rattle.std.specs.Prelude.{ℕ, zero, suc, ◌+◌, ◌*◌, ◌/◌, ◌%◌, ◌<◌, List, [], ◌∷◌, ◌++◌, get_or}

-- The byte at a place; past the end it counts as 0.
abbrev pub be8 : List ℕ → ℕ → ℕ
be8 m at = get_or m at 0

-- A list of bytes, as every message is; past the end there are zeros.
pub record AreBytes (m : List ℕ) : Type 0 where
  pub at : (i : ℕ) → be8 m i < 256

-- The number in the two bytes at a place.
abbrev pub be16 : List ℕ → ℕ → ℕ
be16 m at = be8 m at * 256 + be8 m (at + 1)

-- The number in the four bytes at a place.
abbrev pub be32 : List ℕ → ℕ → ℕ
be32 m at = be16 m at * 65536 + be16 m (at + 2)

-- The number in the eight bytes at a place.
abbrev pub be64 : List ℕ → ℕ → ℕ
be64 m at = be32 m at * 4294967296 + be32 m (at + 4)

-- The n bytes from a place on; past the end they count as 0.
unfoldable pub bytes_at : List ℕ → ℕ → ℕ → List ℕ
bytes_at m at zero = []
bytes_at m at (suc n) = bytes_at m at n ++ (be8 m (at + n) ∷ [])

-- A number below 2^16 in two bytes.
abbrev pub bytes16 : ℕ → List ℕ
bytes16 x = x / 256 ∷ x % 256 ∷ []

-- A number below 2^32 in four bytes.
abbrev pub bytes32 : ℕ → List ℕ
bytes32 x = bytes16 (x / 65536) ++ bytes16 (x % 65536)

-- A number below 2^64 in eight bytes.
abbrev pub bytes64 : ℕ → List ℕ
bytes64 x = bytes32 (x / 4294967296) ++ bytes32 (x % 4294967296)
