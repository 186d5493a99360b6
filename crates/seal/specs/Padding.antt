-- SPDX-License-Identifier: MPL-2.0
-- The plain text of a sealed part: the payload's size in four bytes, the payload, and padding up to a multiple of sixteen.
use Rattle.std.specs.Prelude.{ℕ, ◌+◌, ◌-◌, ◌%◌, List, ◌++◌, Bool, not, ◌||◌, length, take, drop, replicate, eqb}
use Rattle.laws.specs.Bytes.{be32, bytes32}
use Rattle.laws.specs.Same.{same}

-- "padding up to a multiple of 16 … there is none if the length already is a multiple": how many bytes follow a payload of p bytes.
unfoldable pub padding : ℕ → ℕ
padding p = (16 - (4 + p) % 16) % 16

-- "16 × ceiling((4 + P) / 16)": the bytes of the sealed part of a payload of p bytes.
unfoldable pub sealed_size : ℕ → ℕ
sealed_size p = 4 + p + padding p

-- "each padding byte holds the number of padding bytes".
unfoldable pub padding_bytes : ℕ → List ℕ
padding_bytes p = replicate (padding p) (padding p)

-- "the payload size in 4 bytes, the payload, then padding".
unfoldable pub plain_text : List ℕ → List ℕ
plain_text payload = bytes32 (length payload) ++ (payload ++ padding_bytes (length payload))

-- Refusal 13, "size or padding not as the rule gives", of an opened sealed part.
unfoldable pub bad_plain : List ℕ → Bool
bad_plain plain =
    not (eqb (length plain) (sealed_size (be32 plain 0)))
    || not (same (drop (4 + be32 plain 0) plain) (padding_bytes (be32 plain 0)))

-- The payload of an opened sealed part.
abbrev pub payload_of : List ℕ → List ℕ
payload_of plain = take (be32 plain 0) (drop 4 plain)

-- Refusal 13 by the first and the last block of an opened sealed part of n bytes: no other block can hold padding.
unfoldable pub bad_blocks : ℕ → List ℕ → List ℕ → Bool
bad_blocks size front end =
    not (eqb size (sealed_size (be32 front 0)))
    || not (same (drop (16 - padding (be32 front 0)) end) (padding_bytes (be32 front 0)))
