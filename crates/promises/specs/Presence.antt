-- SPDX-License-Identifier: MPL-2.0
-- A1, "Answer a presence call": what is written of a Presence Response reads back, field by field; 14 admits it exactly where it is well formed; and
-- a step answers 15 for any Discovery message.
use Rattle.std.specs.Prelude.{ℕ, ◌+◌, ◌≤◌, ◌<◌, ◌≡◌, List, [], ◌∷◌, ◌++◌, map, Bool, true, false, length, replicate, Result, Ok}
use Rattle.laws.specs.Bytes.{AreBytes}
use Rattle.laws.specs.Rows.{refusal_in}
use Rattle.wire.specs.Fields.{bad_flags, bad_piece}
use Rattle.wire.specs.Chain.{bad_chain}
use Rattle.wire.specs.declared.header.Header.{Header}
use Rattle.payloads.specs.Format.{Values, ◌and◌, write}
use Rattle.payloads.specs.Shapes.{presence_request, presence_response, bad_payload}
use Rattle.payloads.specs.Discovery.{nothing_discovery, read_discovery, discovery_told}
use Rattle.payloads.specs.declared.discovery.FoundDiscovery.{FoundDiscovery}
use Rattle.writer.specs.Answers.{wrote}
use Rattle.writer.specs.Payload.{payload_written}
use Rattle.message.specs.Widths.{InWidth}
use Rattle.message.specs.Writing.{message_bytes}
use Rattle.joining.specs.Answers.{refused}
use Rattle.joining.specs.Cut.{bad_size}
use Rattle.admission.specs.Calls.{Call}
use Rattle.hub.specs.Calls.{Standing, says, after}
use Rattle.promises.specs.Refusals.{◌⇔◌}
use Rattle.promises.specs.Enrolment.{Content}
use Rattle.promises.specs.Written.{Wrote, ReadAs}
use Rattle.promises.specs.Fields.{WrotePayload, span_of}
use Rattle.promises.specs.Connects.{Lies}

-- What a Presence Response says: "with its name, salt and hash".
pub record Presence : Type 0 where
  pub mode : ℕ
  pub device : ℕ
  pub name : List ℕ
  pub salt : List ℕ
  pub hash : List ℕ

-- The same as the values of its format.
abbrev pub values_of : Presence → Values presence_response
values_of r = r.mode and r.device and r.name and r.salt and r.hash and tt

-- "where it is well formed": ConnectionMode 0 to 2; "a name is at most 64 bytes"; salt and hash of 4 bytes.
pub record WellFormed (r : Presence) : Type 0 where
  pub mode : r.mode ≤ 2
  pub name : length r.name ≤ 64
  pub salt : length r.salt ≡ 4
  pub hash : length r.hash ≡ 4

-- What the payload's writer answers, by number: 14 exactly where the response is not well formed; then 22 exactly where the output has less than 15
-- bytes and the name's; else nothing is refused.
pub record WrittenByNumber (r : Presence) (out : List ℕ) : Type 0 where
  pub accepted : ((wrote (payload_written presence_response (values_of r) out)).refusal ≡ 0) ⇔ (WellFormed r × (15 + length r.name ≤ length out))
  pub ill-formed : ((wrote (payload_written presence_response (values_of r) out)).refusal ≡ 14) ⇔ (WellFormed r → ⊥)
  pub no_room : ((wrote (payload_written presence_response (values_of r) out)).refusal ≡ 22) ⇔ (WellFormed r × (length out < 15 + length r.name))

-- So it is for every response and every output.
abbrev pub PresenceWritten : Type 0
PresenceWritten = (r : Presence) (out : List ℕ) → WrittenByNumber r out

-- A payload taken apart says what this response says: its numbers, and at its places the bytes of its parts.
pub record TakenApart (p : List ℕ) (answer : Result FoundDiscovery ℕ) (r : Presence) : Type 0 where
  pub accepted : refusal_in answer ≡ 0
  pub discovery : (discovery_told answer).discovery ≡ 1
  pub mode : (discovery_told answer).mode ≡ r.mode
  pub device : (discovery_told answer).device ≡ r.device
  pub name : span_of p (discovery_told answer).name ≡ r.name
  pub salt : span_of p (discovery_told answer).salt ≡ r.salt
  -- "The hash is carried as it stands"
  pub hash : span_of p (discovery_told answer).hash ≡ r.hash

-- "reading and writing of the Presence Response": what was written is taken apart into what was given. A Presence Request says nothing but that it
-- is one.
pub record PresenceBack : Type 0 where
  pub request : (p : List ℕ) → WrotePayload presence_request tt p → read_discovery p ≡ Ok nothing_discovery
  pub response : (r : Presence) (p : List ℕ) → WrotePayload presence_response (values_of r) p → TakenApart p (read_discovery p) r

-- Each part that is named lies in the payload.
pub record PresenceLies (p : List ℕ) (f : FoundDiscovery) : Type 0 where
  pub name : Lies p f.name
  pub salt : Lies p f.salt
  pub hash : Lies p f.hash

-- So it is whatever the payload.
abbrev pub DiscoveryLies : Type 0
DiscoveryLies = (p : List ℕ) → PresenceLies p (discovery_told (read_discovery p))

-- A Discovery payload is one of two.
pub data Discovery (p : List ℕ) : Type 0 where
  -- "A Presence Request's payload is the single byte 0."
  is_request : p ≡ 0 ∷ [] → Discovery p
  -- The bytes of a Presence Response that is well formed.
  is_response : (r : Presence) → WellFormed r → p ≡ write presence_response (values_of r) → Discovery p

-- 14 admits the two, and refuses all other bytes; the reader takes the two apart, and no others.
pub record AdmittedExactly (p : List ℕ) : Type 0 where
  pub admits : (bad_payload 1 false p ≡ false) ⇔ Discovery p
  pub reads : (refusal_in (read_discovery p) ≡ 0) ⇔ Discovery p
  pub refuses : (refusal_in (read_discovery p) ≡ 14) ⇔ (Discovery p → ⊥)

-- "Refusal 14 keeps its place but now admits this payload where it is well formed".
abbrev pub AdmitsPresence : Type 0
AdmitsPresence = (p : List ℕ) → AreBytes p → AdmittedExactly p

-- "A step still answers 15 for any Discovery message", in every state: one that the reader reads, on any connection of an F that 24 does not
-- refuse, with a verdict of 0 or 1. Connection and report buffer are left alone.
abbrev pub DiscoveryAnswered : Type 0
DiscoveryAnswered =
    (s : Standing) (x : Call) (k : Content x) → k.header.kind ≡ 1 → x.verdict ≤ 1 → bad_size s.connection.size ≡ false
    → (says s x ≡ refused 15) × (after s x ≡ s)

-- A message carries a Presence Response: the writer writes it, and the reader reads it back, with any working buffer.
pub record Carried (h : Header) (chain payload keys : List ℕ) : Type 0 where
  pub written : Wrote h chain payload keys (message_bytes h chain payload keys)
  pub read : (working : List ℕ) → ReadAs h payload (message_bytes h chain payload keys) keys working

-- The premises above can be met: every Presence Response that is well formed, of bytes and a device type of 16 bits, is carried by a Discovery
-- message, with every header and chain that 6, 7 and 8 do not refuse, and any keys.
abbrev pub CanBeCarried : Type 0
CanBeCarried =
    (r : Presence) → WellFormed r → r.device < 65536 → AreBytes r.name → AreBytes r.salt → AreBytes r.hash
    → (h : Header) → InWidth h → h.kind ≡ 1 → bad_flags 1 h.flags ≡ false → bad_piece 1 h.index h.count ≡ false
    → (chain : List ℕ) → AreBytes chain → bad_chain chain ≡ false → (keys : List ℕ) → AreBytes keys
    → Carried h chain (write presence_response (values_of r)) keys

-- A Presence Response, and its bytes on the wire.
abbrev pub example : Presence
example = record { mode = 1; device = 9; name = 104 ∷ 117 ∷ 98 ∷ []; salt = 1 ∷ 2 ∷ 3 ∷ 4 ∷ []; hash = 5 ∷ 6 ∷ 7 ∷ 8 ∷ [] }

abbrev pub example_bytes : List ℕ
example_bytes = 1 ∷ 0 ∷ 1 ∷ 0 ∷ 9 ∷ 0 ∷ 3 ∷ 104 ∷ 117 ∷ 98 ∷ 1 ∷ 2 ∷ 3 ∷ 4 ∷ 5 ∷ 6 ∷ 7 ∷ 8 ∷ []

-- A Discovery payload of this type and mode, of device type 9. It says that its name has n bytes; it has `size` bytes of name and `more` bytes after
-- them.
abbrev pub response_of : (type mode n size more : ℕ) → List ℕ
response_of type mode n size more = (type ∷ 0 ∷ mode ∷ 0 ∷ 9 ∷ 0 ∷ n ∷ []) ++ (replicate size 72 ++ replicate more 7)

-- Discovery payloads, and whether 14 refuses each: a name of 3 bytes, of none, of 64, of 65; a byte too few, and one too many; a name that is longer
-- than is said, and one that is shorter; a mode too large; another DiscoveryType; nothing.
abbrev pub payload_examples : List (List ℕ × Bool)
payload_examples =
    (response_of 1 1 3 3 8, false)
    ∷ (response_of 1 0 0 0 8, false)
    ∷ (response_of 1 2 64 64 8, false)
    ∷ (response_of 1 1 65 65 8, true)
    ∷ (response_of 1 1 3 3 7, true)
    ∷ (response_of 1 1 3 3 9, true)
    ∷ (response_of 1 1 3 4 8, true)
    ∷ (response_of 1 1 3 2 8, true)
    ∷ (response_of 1 3 3 3 8, true)
    ∷ (response_of 2 1 3 3 8, true)
    ∷ ([], true)
    ∷ []

-- Each is as the table says; and the example is written in its bytes, which say it.
pub record PresenceExamples : Type 0 where
  pub table : map (λ (e : List ℕ × Bool). bad_payload 1 false e.0) payload_examples ≡ map (λ (e : List ℕ × Bool). e.1) payload_examples
  pub written : write presence_response (values_of example) ≡ example_bytes
  pub said : TakenApart example_bytes (read_discovery example_bytes) example
