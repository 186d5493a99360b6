-- SPDX-License-Identifier: MPL-2.0
-- The writer of messages: "5, 6, 7, 8 (a chain given with bytes after its end too), 10 if sealed, 14, 20 (Session payload over 16,384), 22, in that
-- order"; the bytes of the message, and what the output then holds.
use Rattle.std.specs.Prelude.{ℕ, ◌+◌, List, [], ◌∷◌, ◌++◌, Bool, cond, not, ◌&&◌, length, drop, ltb, eqb, Result}
use Rattle.laws.specs.Rows.{first, unless}
use Rattle.wire.specs.Refusals.{wrong_type, wrong_flags, wrong_piece, wrong_chain, wrong_keys, wrong_payload, wrong_piece_size, no_room}
use Rattle.wire.specs.Fields.{bad_type, bad_flags, bad_piece, is_sealed}
use Rattle.wire.specs.Chain.{bad_chain}
use Rattle.payloads.specs.Shapes.{bad_payload}
use Rattle.writer.specs.Header.{header_bytes}
use Rattle.wire.specs.declared.header.Header.{Header}
use Rattle.seal.specs.Padding.{sealed_size}
use Rattle.seal.specs.Sealed.{sealed_message}

-- The length of a message whose chain, with its end entry, has `chain` bytes: the fixed header, the chain, then the payload, or the sealed part
-- and the tag.
unfoldable pub finished_length : (sealed : Bool) → (chain payload : ℕ) → ℕ
finished_length sealed chain payload = 40 + chain + cond sealed (sealed_size payload + 32) payload

-- The most bytes of a Session payload.
abbrev pub most_payload : ℕ
most_payload = 16384

-- "5, 6, 7".
abbrev pub field_rows : Header → List (ℕ × Bool)
field_rows h =
    (wrong_type, bad_type h.kind)
    ∷ (wrong_flags, bad_flags h.kind h.flags)
    ∷ (wrong_piece, bad_piece h.kind h.index h.count)
    ∷ []

-- What the caller gives to be written: the fields, the chain with its end entry, and the payload.
module _ (h : Header) (chain payload : List ℕ) where
  -- The length of the finished message.
  abbrev pub length_of : ℕ
  length_of = finished_length (is_sealed h.flags) (length chain) (length payload)

  -- "8 (a chain given with bytes after its end too), 10 if sealed, 14, 20 (Session payload over 16,384)", given `keys` key bytes.
  abbrev pub part_rows : (keys : ℕ) → List (ℕ × Bool)
  part_rows keys =
      (wrong_chain, bad_chain chain)
      ∷ (wrong_keys, is_sealed h.flags && not (eqb keys 64))
      ∷ (wrong_payload, bad_payload h.kind (is_sealed h.flags) payload)
      ∷ (wrong_piece_size, eqb h.kind 4 && ltb most_payload (length payload))
      ∷ []

  -- "22", of an output of `room` bytes.
  abbrev pub room_rows : (room : ℕ) → List (ℕ × Bool)
  room_rows room = (no_room, ltb room length_of) ∷ []

  -- The table of the writer.
  abbrev pub write_rows : (keys room : ℕ) → List (ℕ × Bool)
  write_rows keys room = field_rows h ++ (part_rows keys ++ room_rows room)

  -- The number of the first refusal that applies, 0 where none does.
  unfoldable pub write_refusal : (keys room : ℕ) → ℕ
  write_refusal keys room = first (write_rows keys room)

  -- What stands before the payload.
  abbrev pub before_payload : List ℕ
  before_payload = header_bytes h length_of ++ chain

  -- The message: its payload as it is, or sealed.
  unfoldable pub message_bytes : (keys : List ℕ) → List ℕ
  message_bytes keys = cond (is_sealed h.flags) (sealed_message keys before_payload payload) (before_payload ++ payload)

  -- "A success answers the message's length".
  unfoldable pub write_answer : (keys room : ℕ) → Result ℕ ℕ
  write_answer keys room = unless (write_refusal keys room) length_of

  -- "a refusal leaves the output as it was. A success … leaves the output beyond it unchanged."
  unfoldable pub written_into : (keys out : List ℕ) → List ℕ
  written_into keys out = cond (eqb (write_refusal (length keys) (length out)) 0) (message_bytes keys ++ drop length_of out) out
