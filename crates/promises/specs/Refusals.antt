-- SPDX-License-Identifier: MPL-2.0
-- Demand 1: every refusal is given exactly when the table of document 01 says: a number is answered if and only if its row is the first that
-- applies. The tables below are that table's rows in the order of each call. Every refusal leaves connection and report buffer alone.
use Rattle.std.specs.Prelude.{ℕ, ◌+◌, ◌-◌, ◌*◌, ◌%◌, ◌≡◌, List, [], ◌∷◌, ◌++◌, Bool, true, false, cond, not, ◌&&◌, ◌||◌, length, take, drop, ltb, leb, eqb, Err}
use Rattle.laws.specs.Bytes.{AreBytes, be8, be16}
use Rattle.laws.specs.Rows.{leads, quiet, any_of}
use Rattle.laws.specs.Same.{same}
use Rattle.wire.specs.Fields.{bad_type, bad_flags, bad_piece, is_sealed, tag_size}
use Rattle.wire.specs.Chain.{leaves, is_broken, bad_chain}
use Rattle.payloads.specs.Shapes.{bad_payload}
use Rattle.payloads.specs.Reading.{connect_type, read_request}
use Rattle.wire.specs.Reader.{header_of, chain_of, read_header}
use Rattle.wire.specs.declared.header.Header.{Header}
use Rattle.sha256.specs.Digests.{digest}
use Rattle.seal.specs.Keys.{tag_of}
use Rattle.seal.specs.Padding.{bad_plain, payload_of}
use Rattle.seal.specs.Opening.{body_of, tag_in, sealed_part}
use Rattle.message.specs.Reading.{opened, read_message, working_after}
use Rattle.message.specs.Handed.{payload}
use Rattle.message.specs.Answers.{found_message}
use Rattle.wire.specs.Answers.{nothing, found_header}
use Rattle.message.specs.Writing.{length_of, write_answer}
use Rattle.writer.specs.declared.Wrote.{Wrote}
use Rattle.writer.specs.Answers.{wrote}
use Rattle.joining.specs.Heard.{most}
use Rattle.joining.specs.Answers.{refused}
use Rattle.joining.specs.Cut.{bad_size, piece_count, cut_count, cutting, cut_piece}
use Rattle.joining.specs.Join.{unlike, misfit, conflict}
use Rattle.hub.specs.declared.Connection.{Connection}
use Rattle.hub.specs.declared.Opened.{Opened}
use Rattle.hub.specs.Answers.{said}
use Rattle.hub.specs.Opening.{blank, opened as openedAt}
use Rattle.hub.specs.Host.{host_rows}
use Rattle.hub.specs.Hear.{certificate, piece_in, is_foreign, joins}
use Rattle.hub.specs.Step.{step, report_stepped}
use Rattle.admission.specs.Admission.{working_admitted}

-- What the reader sees of a message without keys.
module _ (m : List ℕ) where
  -- "'Sealed' means flags 2 and 4 both set."
  abbrev pub sealed : Bool
  sealed = is_sealed (be16 m 6)

  -- Where the payload or the sealed part starts: after the chain.
  abbrev pub start : ℕ
  start = length m - tag_size (be16 m 6) - leaves (chain_of m)

  -- Rows 1 to 9.
  abbrev pub header_table : List (ℕ × Bool)
  header_table =
      -- fewer than 42 bytes
      (1, ltb (length m) 42)
      -- wrong signature
      ∷ (2, not (eqb (be16 m 0) 0x3030))
      -- MessageLength under 42 or not the bytes given
      ∷ (3, ltb (be16 m 2) 42 || not (eqb (be16 m 2) (length m)))
      -- version not 3
      ∷ (4, not (eqb (be8 m 4) 3))
      -- type not 1, 2, 4
      ∷ (5, bad_type (be8 m 5))
      -- a flag above 8; flags 2 and 4 not alike; sealed Discovery; plain Session
      ∷ (6, bad_flags (be8 m 5) (be16 m 6))
      -- count 0 or over 64; index not under count; count not 1 outside Session
      ∷ (7, bad_piece (be8 m 5) (be16 m 20) (be16 m 22))
      -- chain leaves its room (message less tag), unknown type, type 0 with a size, over 8 entries
      ∷ (8, is_broken (chain_of m))
      -- sealed part empty or no multiple of 16
      ∷ (9, sealed && (eqb (leaves (chain_of m)) 0 || not (eqb (leaves (chain_of m) % 16) 0)))
      ∷ []

-- What it sees with these keys.
module _ (m keys : List ℕ) where
  -- The payload.
  abbrev pub payload_in : List ℕ
  payload_in = cond (sealed m) (payload_of (opened m keys (start m))) (take (leaves (chain_of m)) (drop (start m) m))

  -- Rows 10 to 13, with a working buffer of `room` bytes: "for sealed messages 10 to 13".
  abbrev pub sealed_table : ℕ → List (ℕ × Bool)
  sealed_table room =
      -- keys not 64 bytes
      (10, sealed m && not (eqb (length keys) 64))
      -- tag differs
      ∷ (11, sealed m && not (same (tag_of keys (body_of m)) (tag_in m)))
      -- working buffer shorter than the sealed part
      ∷ (12, sealed m && ltb room (length (sealed_part m (start m))))
      -- size or padding not as the rule gives
      ∷ (13, sealed m && bad_plain (opened m keys (start m)))
      ∷ []

  -- Rows 10 to 14: "14", Discovery or Connect payload not as above.
  abbrev pub opening_table : ℕ → List (ℕ × Bool)
  opening_table room = sealed_table room ++ ((14, bad_payload (be8 m 5) (sealed m) payload_in) ∷ [])

  -- "The reader gives 1 to 14."
  abbrev pub reader_table : ℕ → List (ℕ × Bool)
  reader_table room = header_table m ++ opening_table room

infixl 20 ◌⇔◌
-- Of two statements each follows from the other.
abbrev pub ◌⇔◌ : Type 0 → Type 0 → Type 0
A ⇔ B = (A → B) × (B → A)

-- The reader of headers: "Given exactly when", 1 to 9.
abbrev pub HeaderExact : Type 0
HeaderExact = (m : List ℕ) (n : ℕ) → (found_header (read_header m) ≡ nothing n) ⇔ leads n (header_table m)

-- The reader: "Given exactly when".
abbrev pub ReaderExact : Type 0
ReaderExact =
    (m keys : List ℕ) (room n : ℕ) → AreBytes m → (found_message (read_message m keys room) ≡ nothing n) ⇔ leads n (reader_table m keys room)

-- What the choosing function hands out of a message and the working buffer, by what the reader answered.
abbrev pub handed_out : (m keys working : List ℕ) → List ℕ
handed_out m keys working = payload m (working_after m keys working) (read_message m keys (length working))

module _ (c : Connection) (h : Header) (payload report : List ℕ) (verdict : ℕ) where
  -- The message is Connect, and one of the sentences of "Host states" applies to it.
  abbrev pub enrols : Bool
  enrols = eqb h.kind 2 && any_of (host_rows c (connect_type payload) h.session (read_request payload) (digest (certificate payload)) verdict)

  -- What follows 14 in a step: "16; 15; then 19, 17, 18, 21, 20, 22, 23". "Discovery skips 16."
  abbrev pub host_table : List (ℕ × Bool)
  host_table =
      -- state not 0 and another SessionID
      (16, is_foreign c h)
      -- message not allowed in this state, by role
      ∷ (15, not (joins c h) && not enrols)
      -- SequenceNumber is 2^32 − 1
      ∷ (19, joins c h && eqb h.sequence 4294967295)
      -- SequenceNumber below
      ∷ (17, joins c h && ltb h.sequence c.progress.expected)
      -- / above the expected one
      ∷ (18, joins c h && ltb c.progress.expected h.sequence)
      -- count or channel unlike the first piece taken of this message
      ∷ (21, joins c h && unlike c.progress (piece_in h))
      -- piece not F bytes and not last; last over F; last empty with count over 1
      ∷ (20, joins c h && misfit c.size (piece_in h) (length payload))
      -- F × index + piece length exceeds the report buffer
      ∷ (22, joins c h && ltb (length report) (c.size * h.index + length payload))
      -- index already heard, and the bytes differ from the report buffer's there, or the length from the one taken
      ∷ (23, joins c h && conflict c.size c.progress (piece_in h) payload report)
      ∷ []

-- Rows 25 and 24 of a step, in either role, which come before the message is looked at.
abbrev pub ready_table : (F verdict : ℕ) → List (ℕ × Bool)
ready_table F verdict =
    -- verdict not 0 or 1
    (25, ltb 1 verdict)
    -- F outside 1 to 16,384 … in the connection given to a step
    ∷ (24, bad_size F)
    ∷ []

module _ (c : Connection) (m keys working report : List ℕ) (verdict : ℕ) where
  -- "A step checks in this order, the first that applies being the answer: 25; 24; 1 to 9; for sealed messages 10 to 13; 14; 16; 15; then
  -- 19, 17, 18, 21, 20, 22, 23."
  abbrev pub step_table : List (ℕ × Bool)
  step_table =
      ready_table c.size verdict
      ++ (reader_table m keys (length working) ++ host_table c (header_of m) (handed_out m keys working) report verdict)

  -- The step: "Given exactly when".
  abbrev pub StepExact : Type 0
  StepExact = (n : ℕ) → AreBytes m → (said (step c m keys working report verdict).answer ≡ refused n) ⇔ leads n step_table

  -- "Every refusal leaves connection and report buffer alone."
  abbrev pub LeavesAlone : Type 0
  LeavesAlone =
      (n : ℕ) → said (step c m keys working report verdict).answer ≡ refused n
      → ((step c m keys working report verdict).connection ≡ c) × (report_stepped c m keys working report verdict ≡ report)

-- What a step leaves in the working buffer, in either role.
module _ (F verdict : ℕ) (m keys working : List ℕ) where
  -- The rows that leave the working buffer untouched: 25, 24, 1 to 13.
  abbrev pub untouched_table : List (ℕ × Bool)
  untouched_table = ready_table F verdict ++ (header_table m ++ sealed_table m keys (length working))

  -- "The working buffer is untouched by refusals 1 to 13, 24 and 25, and by plain messages. After a sealed message got past 13 its first bytes
  -- hold the opened sealed part, the rest is unchanged."
  pub record WorkingRule : Type 0 where
    pub refused : (n : ℕ) → leads n untouched_table → working_admitted F verdict m keys working ≡ working
    pub plain : sealed m ≡ false → working_admitted F verdict m keys working ≡ working
    pub past : quiet untouched_table → sealed m ≡ true
        → working_admitted F verdict m keys working
        ≡ opened m keys (start m) ++ drop (length (opened m keys (start m))) working

  -- It holds of every message, which is a list of bytes.
  abbrev pub WorkingBuffer : Type 0
  WorkingBuffer = AreBytes m → WorkingRule

-- The cutter's rows: "it refuses with 24, then with 7 if the report is longer than 64 × F or i is not under the count".
abbrev pub cut_table : ℕ → ℕ → ℕ → List (ℕ × Bool)
cut_table F bytes i = (24, bad_size F) ∷ (7, ltb (F * most) bytes || leb (piece_count F bytes) i) ∷ []

-- What the cutter answers where it refuses with n: "A refusal gives count 0 and the empty part".
abbrev pub CutRefused : ℕ → List ℕ → (i n : ℕ) → Type 0
CutRefused F report i n = (cutting F (length report) i ≡ Err n) × (cut_count F (length report) i ≡ 0) × (cut_piece F report i ≡ [])

-- The cutter: "Given exactly when".
abbrev pub CutterExact : Type 0
CutterExact = (F : ℕ) (report : List ℕ) (i n : ℕ) → CutRefused F report i n ⇔ leads n (cut_table F (length report) i)

-- The opener's row: 24, "F outside 1 to 16,384 at opening".
abbrev pub open_table : ℕ → List (ℕ × Bool)
open_table F = (24, bad_size F) ∷ []

-- What the opener answers where it refuses with n: "the connection answered is then all zero, F too".
abbrev pub not_opened : ℕ → Opened
not_opened n = record { refusal = n; connection = blank 0 }

-- The opener: "Given exactly when".
abbrev pub OpenerExact : Type 0
OpenerExact = (F n : ℕ) → (openedAt F ≡ not_opened n) ⇔ leads n (open_table F)

-- "Opening takes a fragment size F from 1 to 16,384, and gives state 0 expecting Session number 0, all else that it remembers being zero".
abbrev pub Opens : Type 0
Opens = (F : ℕ) → quiet (open_table F) → openedAt F ≡ record { refusal = 0; connection = blank F }

-- The writer's rows: "5, 6, 7, 8 (a chain given with bytes after its end too), 10 if sealed, 14, 20 (Session payload over 16,384), 22, in
-- that order".
abbrev pub writer_table : Header → (chain payload : List ℕ) → (keys room : ℕ) → List (ℕ × Bool)
writer_table h chain payload keys room =
    (5, bad_type h.kind)
    ∷ (6, bad_flags h.kind h.flags)
    ∷ (7, bad_piece h.kind h.index h.count)
    ∷ (8, bad_chain chain)
    ∷ (10, is_sealed h.flags && not (eqb keys 64))
    ∷ (14, bad_payload h.kind (is_sealed h.flags) payload)
    ∷ (20, eqb h.kind 4 && ltb 16384 (length payload))
    ∷ (22, ltb room (length_of h chain payload))
    ∷ []

-- What the writer answers where it refuses with n: no length.
abbrev pub not_written : ℕ → Wrote
not_written n = record { refusal = n; size = 0 }

-- The writer: "Given exactly when".
abbrev pub WriterExact : Type 0
WriterExact =
    (h : Header) (chain payload : List ℕ) (keys room n : ℕ)
    → (wrote (write_answer h chain payload keys room) ≡ not_written n) ⇔ leads n (writer_table h chain payload keys room)
