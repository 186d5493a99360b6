-- SPDX-License-Identifier: MPL-2.0
-- Demand 2, the payloads of Discovery and Connect: what is written reads back, field by field.
use Rattle.std.specs.Prelude.{ℕ, ◌≡◌, List, [], ◌∷◌, map, Bool, true, false, take, eqb}
use Rattle.laws.specs.Bytes.{AreBytes}
use Rattle.laws.specs.Parts.{part}
use Rattle.payloads.specs.Entries.{all}
use Rattle.payloads.specs.Typed.{has_widths, Typed}
use Rattle.payloads.specs.Format.{one, end, fixed, free, sized, counted, Format, ◌then◌, Values, ◌and◌, fits, write, accepts, read}
use Rattle.payloads.specs.Shapes.{at_most, presence_request, presence_response, connection_request, device_authentication, done_request, done_response}
use Rattle.payloads.specs.Shapes.{Shape, shapes, bad_payload}
use Rattle.payloads.specs.Reading.{connection_mode, connect_type, code_of, read_request, certificate_of, thumbprint_of}
use Rattle.payloads.specs.declared.reading.Request.{Request}
use Rattle.payloads.specs.declared.reading.Span.{Span}
use Rattle.writer.specs.Payload.{payload_written, payload_output, exchange_values, response_format, response_values}
use Rattle.writer.specs.Answers.{wrote}

-- A payload writer, given the values of its format, refused nothing, and `p` is the first bytes of its output, as many as it answered.
pub record WrotePayload (f : Format) (v : Values f) (p : List ℕ) : Type 0 where
  pub output : List ℕ
  pub accepted : (wrote (payload_written f v output)).refusal ≡ 0
  pub bytes : p ≡ take (wrote (payload_written f v output)).size (payload_output f v output)

-- The bytes of a payload at a place.
abbrev pub span_of : List ℕ → Span → List ℕ
span_of p s = part p s.from s.size

-- What each payload writer wrote is not refused with 14, and the readers read from it the fields that were given: one row a payload.
pub record FieldsBack : Type 0 where
  -- "A Presence Request's payload"
  pub presence-request : (p : List ℕ) → WrotePayload presence_request tt p → bad_payload 1 false p ≡ false
  -- "A Presence Response's payload": its fields are in `PresenceBack`
  pub presence-response : (mode device : ℕ) (name salt hash p : List ℕ)
      → WrotePayload presence_response (mode and device and name and salt and hash and tt) p → bad_payload 1 false p ≡ false
  -- "0 Connection Request": nonce, X and Y
  pub connection-request : (mode : ℕ) (r : Request) (p : List ℕ) → WrotePayload connection_request (exchange_values mode r) p
      → (bad_payload 2 false p ≡ false) × (connection_mode p ≡ mode) × (connect_type p ≡ 0) × (read_request p ≡ r)
  -- "1 Connection Response": Result; nonce, X and Y "if Result is 1 (Pending)"
  pub connection-response : (mode result : ℕ) (r : Request) (p : List ℕ)
      → WrotePayload (response_format (eqb result 1)) (response_values (eqb result 1) mode result r) p
      → (bad_payload 2 false p ≡ false) × (connection_mode p ≡ mode) × (connect_type p ≡ 1) × (code_of p ≡ result) × (result ≡ 1 → read_request p ≡ r)
  -- "2 and 3 Device Authentication Request and Response": certificate and thumbprint
  pub device-authentication : (connect mode : ℕ) (certificate thumbprint p : List ℕ)
      → WrotePayload device_authentication (mode and connect and certificate and thumbprint and tt) p
      → (bad_payload 2 true p ≡ false) × (connection_mode p ≡ mode) × (connect_type p ≡ connect)
      × (span_of p (certificate_of p) ≡ certificate) × (span_of p (thumbprint_of p) ≡ thumbprint)
  -- "6 Authentication Done Request"
  pub done-request : (mode : ℕ) (p : List ℕ) → WrotePayload done_request (mode and tt) p
      → (bad_payload 2 true p ≡ false) × (connection_mode p ≡ mode) × (connect_type p ≡ 6)
  -- "7 Authentication Done Response": Status
  pub done-response : (mode status : ℕ) (p : List ℕ) → WrotePayload done_response (mode and status and tt) p
      → (bad_payload 2 true p ≡ false) × (connection_mode p ≡ mode) × (connect_type p ≡ 7) × (code_of p ≡ status)

-- "What is written reads back", of any format: the payload is accepted and says the values that were given. Of counted entries it says as many
-- as were given, each with its values, in their order.
abbrev pub ValuesBack : Type 0
ValuesBack = (f : Format) (v : Values f) (p : List ℕ) → WrotePayload f v p → (accepts f p ≡ true) × (read f p ≡ v)

-- Its premise can be met: a payload of any format is written for all values that fit.
abbrev pub CanBeWritten : Type 0
CanBeWritten = (f : Format) (v : Values f) → fits f v ≡ true → WrotePayload f v (write f v)

-- Nothing else is accepted: a payload that has a format is what its writer writes, for the values that are read from it. So what stands above of
-- payloads that were written holds of every payload that is accepted.
abbrev pub OnlyWritten : Type 0
OnlyWritten = (f : Format) (p : List ℕ) → AreBytes p → accepts f p ≡ true → WrotePayload f (read f p) p

-- Formats and bytes: the numbers of each shape's format have room in their widths; such a format is written in bytes, for values that fit and are as
-- the types of a call have them; and what is read from bytes is as these types have it.
pub record OfBytes : Type 0 where
  pub of-shapes : all (λ (row : Shape). has_widths row.2) shapes ≡ true
  pub of-written : (f : Format) (v : Values f) → has_widths f ≡ true → fits f v ≡ true → Typed f v → AreBytes (write f v)
  pub of-read : (f : Format) (p : List ℕ) → AreBytes p → Typed f (read f p)

-- A format with counted entries, which no payload of 01 has: at most two, each a number 0 to 6 and at most three bytes with their number before
-- them; after the entries the number 9.
abbrev pub two_entries : Format
two_entries =
    counted one 2
    (free one (at_most 6)
    then sized one 0 3
    then end)
    then fixed one 9
    then end

-- Payloads, and whether each has that format: two entries, and none; three; an entry's number too large; its bytes too many; what follows is not
-- there, or is another; an entry that reaches past the end; a byte too many.
abbrev pub entry_examples : List (List ℕ × Bool)
entry_examples =
    (2 ∷ 5 ∷ 1 ∷ 7 ∷ 6 ∷ 0 ∷ 9 ∷ [], true)
    ∷ (0 ∷ 9 ∷ [], true)
    ∷ (3 ∷ 0 ∷ 0 ∷ 0 ∷ 0 ∷ 0 ∷ 0 ∷ 9 ∷ [], false)
    ∷ (1 ∷ 7 ∷ 0 ∷ 9 ∷ [], false)
    ∷ (1 ∷ 6 ∷ 4 ∷ 1 ∷ 2 ∷ 3 ∷ 4 ∷ 9 ∷ [], false)
    ∷ (1 ∷ 6 ∷ 0 ∷ [], false)
    ∷ (1 ∷ 6 ∷ 0 ∷ 8 ∷ [], false)
    ∷ (1 ∷ 6 ∷ 3 ∷ 7 ∷ 9 ∷ [], false)
    ∷ (1 ∷ 6 ∷ 0 ∷ 9 ∷ 0 ∷ [], false)
    ∷ []

-- Each is as the table says; and the first says its two entries, for which the writer writes it.
pub record CountedEntries : Type 0 where
  pub table : map (λ (e : List ℕ × Bool). accepts two_entries e.0) entry_examples ≡ map (λ (e : List ℕ × Bool). e.1) entry_examples
  pub said : read two_entries (2 ∷ 5 ∷ 1 ∷ 7 ∷ 6 ∷ 0 ∷ 9 ∷ []) ≡ ((5 and (7 ∷ []) and tt) ∷ (6 and [] and tt) ∷ []) and tt
  pub written : write two_entries (((5 and (7 ∷ []) and tt) ∷ (6 and [] and tt) ∷ []) and tt) ≡ 2 ∷ 5 ∷ 1 ∷ 7 ∷ 6 ∷ 0 ∷ 9 ∷ []
