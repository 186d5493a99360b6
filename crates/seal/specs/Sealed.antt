-- SPDX-License-Identifier: MPL-2.0
-- Sealing: a message that is written up to its payload gets its sealed part and its tag.
use Rattle.std.specs.Prelude.{ℕ, ◌+◌, List, [], ◌∷◌, ◌++◌, Bool, cond, length, take, drop, ltb, eqb}
use Rattle.laws.specs.Rows.{first}
use Rattle.wire.specs.Refusals.{too_short, wrong_length, no_room}
use Rattle.aes.specs.Key.{expand_key}
use Rattle.aes.specs.Cbc.{cbc_encrypt}
use Rattle.seal.specs.Keys.{encryption_key, vector, tag_of}
use Rattle.seal.specs.Opening.{key_rows}
use Rattle.seal.specs.Padding.{sealed_size, plain_text}

-- A message up to its tag: what stands before the payload, and the payload sealed.
unfoldable pub sealed_body : List ℕ → List ℕ → List ℕ → List ℕ
sealed_body keys before payload = before ++ cbc_encrypt (expand_key (encryption_key keys)) (vector keys before) (plain_text payload)

-- The whole message, its tag after it.
unfoldable pub sealed_message : List ℕ → List ℕ → List ℕ → List ℕ
sealed_message keys before payload = sealed_body keys before payload ++ tag_of keys (sealed_body keys before payload)

-- What refuses a message of a payload of `size` bytes after `start` bytes. The longest message has 65,535 bytes, so 65,503 may stand before its tag.
abbrev pub body_rows : (start size : ℕ) → List (ℕ × Bool)
body_rows start size =
    (too_short, ltb start 42)
    ∷ (wrong_length, ltb 65503 (start + sealed_size size))
    ∷ []

-- What refuses to seal a payload of `size` bytes, with `keys` key bytes, after the first `start` bytes of an output.
abbrev pub length_rows : (keys start size : ℕ) → List (ℕ × Bool)
length_rows keys start size = body_rows start size ++ key_rows keys

-- And of an output of `room` bytes.
abbrev pub room_rows : (start size room : ℕ) → List (ℕ × Bool)
room_rows start size room = (no_room, ltb room (start + sealed_size size + 32)) ∷ []

-- The table.
abbrev pub seal_rows : (keys start size room : ℕ) → List (ℕ × Bool)
seal_rows keys start size room = length_rows keys start size ++ room_rows start size room

-- The first refusal that applies; 0 is none.
unfoldable pub seal_refusal : (keys start size room : ℕ) → ℕ
seal_refusal keys start size room = first (seal_rows keys start size room)

-- The output afterwards: untouched by a refusal; else the sealed message, and what stood after it.
unfoldable pub sealed_into : List ℕ → ℕ → List ℕ → List ℕ → List ℕ
sealed_into keys start payload out =
    cond (eqb (seal_refusal (length keys) start (length payload) (length out)) 0)
    (sealed_message keys (take start out) payload ++ drop (start + sealed_size (length payload) + 32) out)
    out
