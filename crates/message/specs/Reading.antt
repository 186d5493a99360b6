-- SPDX-License-Identifier: MPL-2.0
-- The reader of messages: 1 to 9, "for sealed messages 10 to 13; 14", the first that applies; what it answers, and what the working buffer then
-- holds.
use Rattle.std.specs.Prelude.{ℕ, List, [], ◌∷◌, Bool, true, false, cond, take, drop, Result, Ok, Err}
use Rattle.laws.specs.Bytes.{be32}
use Rattle.laws.specs.Rows.{first, or_else, unless}
use Rattle.wire.specs.Fields.{is_sealed}
use Rattle.wire.specs.Refusals.{wrong_payload}
use Rattle.payloads.specs.Shapes.{bad_payload}
use Rattle.wire.specs.Reader.{read_header}
use Rattle.wire.specs.declared.header.Header.{Header}
use Rattle.wire.specs.declared.header.FoundHeader.{FoundHeader}
use Rattle.seal.specs.Padding.{payload_of}
use Rattle.seal.specs.Opening.{sealed_part, plain_of, open_refusal, opened_into}
use Rattle.message.specs.declared.reading.FoundMessage.{FoundMessage}

-- The opened sealed part of a message.
abbrev pub opened : List ℕ → List ℕ → ℕ → List ℕ
opened m keys start = plain_of keys m (sealed_part m start)

-- What refuses a payload that was opened or came plain: 14.
abbrev pub payload_rows : (kind : ℕ) (sealed : Bool) (payload : List ℕ) → List (ℕ × Bool)
payload_rows kind sealed payload = (wrong_payload, bad_payload kind sealed payload) ∷ []

-- A plain payload: "handed out as a part of the message if it was plain".
abbrev pub in_message : FoundHeader → FoundMessage
in_message f = record { header = f.header; sealed = false; from = f.start; size = f.size }

-- A payload of n bytes that was opened: "of the working buffer if it was sealed", after the four bytes of its size.
abbrev pub in_working : Header → ℕ → FoundMessage
in_working h n = record { header = h; sealed = true; from = 4; size = n }

-- A plain message: 14 is left to test.
unfoldable pub plain_read : List ℕ → FoundHeader → Result FoundMessage ℕ
plain_read m f = unless (first (payload_rows f.header.kind false (take f.size (drop f.start m)))) (in_message f)

-- A sealed message: 10 to 13, then 14.
unfoldable pub sealed_read : List ℕ → List ℕ → FoundHeader → ℕ → Result FoundMessage ℕ
sealed_read m keys f room = unless
    (or_else (open_refusal keys m f.start room) (first (payload_rows f.header.kind true (payload_of (opened m keys f.start)))))
    (in_working f.header (be32 (opened m keys f.start) 0))

-- What follows the header, by what reading the header answered.
abbrev pub after_header : Result FoundHeader ℕ → List ℕ → List ℕ → ℕ → Result FoundMessage ℕ
after_header (Err n) m keys room = Err n
after_header (Ok f) m keys room = cond (is_sealed f.header.flags) (sealed_read m keys f room) (plain_read m f)

-- What the reader answers, with a working buffer of `room` bytes.
unfoldable pub read_message : List ℕ → List ℕ → ℕ → Result FoundMessage ℕ
read_message m keys room = after_header (read_header m) m keys room

-- The working buffer after a message, by what reading its header answered.
abbrev pub working_after_header : Result FoundHeader ℕ → List ℕ → List ℕ → List ℕ → List ℕ
working_after_header (Err n) m keys working = working
working_after_header (Ok f) m keys working = cond (is_sealed f.header.flags) (opened_into keys m f.start working) working

-- "The working buffer is untouched by refusals 1 to 13 … and by plain messages. After a sealed message got past 13 its first bytes hold the
-- opened sealed part, the rest is unchanged."
unfoldable pub working_after : List ℕ → List ℕ → List ℕ → List ℕ
working_after m keys working = working_after_header (read_header m) m keys working
