-- SPDX-License-Identifier: MPL-2.0
-- What was read of a message, in words.
use Rattle.std.specs.Prelude.{ℕ, ◌+◌, ◌≡◌, List, [], ◌∷◌, ◌++◌, Bool, cond, not, ◌&&◌, ◌||◌, eqb, ltb, length}
use Rattle.wire.specs.Answers.{nothing, found_header}
use Rattle.wire.specs.Reader.{read_header}
use Rattle.wire.specs.declared.answers.Found.{Found}
use Rattle.wire.specs.declared.header.Header.{Header}
use Rattle.message.specs.Answers.{found_message}
use Rattle.message.specs.Handed.{Place, place_of}
use Rattle.message.specs.Reading.{read_message}
use Rattle.hub_c.specs.Sizes.{header_size, place_size}

-- The fields of a header: type, flags, sequence, request, index, count, session, channel.
abbrev pub field_words : Header → List ℕ
field_words h = h.kind ∷ h.flags ∷ h.sequence ∷ h.request ∷ h.index ∷ h.count ∷ h.session ∷ h.channel ∷ []

-- The words of what was read: the fields, then the part: plain (0), opened (1) or still sealed (2), from where, how many bytes. Beside a refusal all
-- are 0.
abbrev pub found_words : Found → List ℕ
found_words f = field_words f.header ++ (f.sealed ∷ f.from ∷ f.size ∷ [])

-- One of the two buffers of words has another size.
abbrev pub wrong_place : (header place : List ℕ) → Bool
wrong_place header place = not (eqb (length header) header_size) || not (eqb (length place) place_size)

-- The numbers of a header say that this buffer, of `room` bytes, holds the payload: 0 is the message, 1 the working buffer.
abbrev pub holds : (buffer room which from size : ℕ) → Bool
holds buffer room which from size = eqb which buffer && not (ltb room (from + size))

-- The place of the payload: which buffer, from where, how many bytes; what does not fit, or is in neither, is the empty part at the message's
-- start.
unfoldable pub place_in : (message working which from size : ℕ) → List ℕ
place_in message working which from size =
    cond (holds 0 message which from size) (0 ∷ from ∷ size ∷ [])
    (cond (holds 1 working which from size) (1 ∷ from ∷ size ∷ []) (0 ∷ 0 ∷ 0 ∷ []))

-- The place by the words of what was read.
abbrev pub place_by : (message working : List ℕ) → Found → List ℕ
place_by message working f = place_in (length message) (length working) f.sealed f.from f.size

-- The words of a place.
abbrev pub place_words : Place → List ℕ
place_words p = p.buffer ∷ p.from ∷ p.size ∷ []

-- The words that hub_read gave name the place of the part that document 01 has handed out, on a refusal too: "a part of the message if it was
-- plain, of the working buffer if it was sealed. On a refusal that part is empty, at the message's start."
abbrev pub PlaceHanded : Type 0
PlaceHanded =
    (message keys working : List ℕ) → let read = read_message message keys (length working) in
    place_by message working (found_message read) ≡ place_words (place_of read)

-- Those that hub_read_header gave name the payload of a plain message, and so, where hub_read does not refuse the message, the same part. Of a
-- sealed one, which nobody has opened, and where hub_read_header refuses, they name the empty part at the message's start.
pub record PlaceUnopened : Type 0 where
  pub named : (message working : List ℕ) → let f = found_header (read_header message) in
      f.sealed ≡ 0 → place_by message working f ≡ 0 ∷ f.from ∷ f.size ∷ []
  pub plain : (message keys working : List ℕ) → let f = found_header (read_header message) in let read = read_message message keys (length working) in
      f.sealed ≡ 0 → (found_message read).refusal ≡ 0 → place_by message working f ≡ place_words (place_of read)
  pub sealed : (message working : List ℕ) → let f = found_header (read_header message) in
      f.sealed ≡ 2 → place_by message working f ≡ 0 ∷ 0 ∷ 0 ∷ []
  pub refused : (message working : List ℕ) (n : ℕ) → found_header (read_header message) ≡ nothing n
      → place_by message working (found_header (read_header message)) ≡ 0 ∷ 0 ∷ 0 ∷ []
