-- SPDX-License-Identifier: MPL-2.0
-- The reader of headers: the fields at their places, refusals 1 to 9 as document 01's table lists them, and the answer.
use Rattle.std.specs.Prelude.{ℕ, ◌-◌, ◌%◌, List, [], ◌∷◌, Bool, not, cond, ◌&&◌, ◌||◌, length, take, drop, ltb, eqb, Option, Result}
use Rattle.laws.specs.Bytes.{be8, be16, be32, be64}
use Rattle.laws.specs.Rows.{first, unless}
use Rattle.wire.specs.Refusals.{too_short, wrong_signature, wrong_length, wrong_version, wrong_type, wrong_flags, wrong_piece, wrong_chain}
use Rattle.wire.specs.Refusals.{wrong_sealed_size}
use Rattle.wire.specs.Fields.{bad_type, bad_flags, bad_piece, is_sealed, tag_size}
use Rattle.wire.specs.Chain.{read_chain, leaves, is_broken}
use Rattle.wire.specs.declared.chain.FoundChain.{FoundChain}
use Rattle.wire.specs.declared.header.Header.{Header}
use Rattle.wire.specs.declared.header.FoundHeader.{FoundHeader}

-- A header with nothing in it.
abbrev pub empty_header : Header
empty_header = record { kind = 0; flags = 0; sequence = 0; request = 0; index = 0; count = 0; session = 0; channel = 0 }

-- The fields, each at its place of the table "The message on the wire".
abbrev pub header_of : List ℕ → Header
header_of m = record {
  kind = be8 m 5;
  flags = be16 m 6;
  sequence = be32 m 8;
  request = be64 m 12;
  index = be16 m 20;
  count = be16 m 22;
  session = be64 m 24;
  channel = be64 m 32;
}

-- The chain's room and the payload's: from 40 on, "message less tag".
unfoldable pub room_of : ℕ → List ℕ → List ℕ
room_of tag m = take (length m - tag - 40) (drop 40 m)

-- The chain of a message.
unfoldable pub chain_of : List ℕ → Option FoundChain
chain_of m = read_chain (room_of (tag_size (be16 m 6)) m)

-- The table, row by row, over the bytes given and what was read of them; `rest` is what stands after the chain.
unfoldable pub header_rows : (given signature size version : ℕ) → Header → (broken : Bool) → (rest : ℕ) → List (ℕ × Bool)
header_rows given signature size version h broken rest =
    (too_short, ltb given 42)
    ∷ (wrong_signature, not (eqb signature 0x3030))
    ∷ (wrong_length, ltb size 42 || not (eqb size given))
    ∷ (wrong_version, not (eqb version 3))
    ∷ (wrong_type, bad_type h.kind)
    ∷ (wrong_flags, bad_flags h.kind h.flags)
    ∷ (wrong_piece, bad_piece h.kind h.index h.count)
    ∷ (wrong_chain, broken)
    ∷ (wrong_sealed_size, is_sealed h.flags && (eqb rest 0 || not (eqb (rest % 16) 0)))
    ∷ []

-- The table of a message.
unfoldable pub rows_of : List ℕ → Header → Option FoundChain → List (ℕ × Bool)
rows_of m h chain = header_rows (length m) (be16 m 0) (be16 m 2) (be8 m 4) h (is_broken chain) (leaves chain)

-- The number of the first refusal of 1 to 9 that applies to a message with this header and this chain, 0 where none does.
unfoldable pub refusal_with : List ℕ → Header → Option FoundChain → ℕ
refusal_with m h chain = first (rows_of m h chain)

-- The same, with the header and the chain that the message has.
unfoldable pub refusal_of : List ℕ → ℕ
refusal_of m = refusal_with m (header_of m) (chain_of m)

-- What is found in a message: the header, and the place and size of what stands between chain and tag.
abbrev pub header_found : List ℕ → FoundHeader
header_found m = record {
  header = header_of m;
  start = length m - tag_size (be16 m 6) - leaves (chain_of m);
  size = leaves (chain_of m);
}

-- What the reader answers: the refusal, or what it found.
unfoldable pub read_header : List ℕ → Result FoundHeader ℕ
read_header m = unless (refusal_of m) (header_found m)

-- "MessageLength bytes at a time, at least 42". Where MessageLength is not there it counts as 0.
unfoldable pub wanted : List ℕ → ℕ
wanted stream = cond (ltb (be16 stream 2) 42) 42 (be16 stream 2)
