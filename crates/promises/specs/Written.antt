-- SPDX-License-Identifier: MPL-2.0
-- Demand 2, its messages: what is written reads back as the same fields and payload, and a step on it does what document 01 says of these in
-- the connection's state.
use Rattle.std.specs.Prelude.{ℕ, ◌≤◌, ◌≡◌, List, true, false, length, take}
use Rattle.laws.specs.Bytes.{AreBytes}
use Rattle.wire.specs.Fields.{is_sealed}
use Rattle.wire.specs.declared.header.Header.{Header}
use Rattle.writer.specs.Answers.{wrote}
use Rattle.seal.specs.Padding.{sealed_size}
use Rattle.message.specs.Answers.{found_message}
use Rattle.message.specs.Reading.{read_message}
use Rattle.message.specs.Writing.{write_answer, written_into}
use Rattle.joining.specs.Cut.{bad_size}
use Rattle.hub.specs.declared.Connection.{Connection}
use Rattle.hub.specs.Hear.{hear, report_heard}
use Rattle.hub.specs.Step.{step, report_stepped}
use Rattle.message.specs.Widths.{InWidth}
use Rattle.promises.specs.Refusals.{handed_out}

-- The writer, called with these fields, this chain, payload and keys, refused nothing, and `message` is the first bytes of its output, as
-- many as it answered. (The fields have their widths and the lists are bytes: what the call's types say.)
pub record Wrote (h : Header) (chain payload keys message : List ℕ) : Type 0 where
  pub widths : InWidth h
  pub of-chain : AreBytes chain
  pub of-payload : AreBytes payload
  pub of-keys : AreBytes keys
  pub output : List ℕ
  pub accepted : (wrote (write_answer h chain payload (length keys) (length output))).refusal ≡ 0
  pub bytes : message ≡ take (wrote (write_answer h chain payload (length keys) (length output))).size (written_into h chain payload keys output)

-- The reader, called with this message, these keys and this working buffer, refused nothing and found these fields; and by its answer the
-- choosing function hands out these bytes.
pub record ReadAs (h : Header) (bytes message keys working : List ℕ) : Type 0 where
  pub accepted : (found_message (read_message message keys (length working))).refusal ≡ 0
  pub header : (found_message (read_message message keys (length working))).header ≡ h
  pub handed : handed_out message keys working ≡ bytes

-- A working buffer that is long enough: a sealed payload's sealed part fits it; a plain one needs none.
abbrev pub LongEnough : Header → (payload working : List ℕ) → Type 0
LongEnough h payload working = is_sealed h.flags ≡ true → sealed_size (length payload) ≤ length working

-- What is written reads back as the same fields and payload, with the same keys and any contents of a working buffer that is long enough.
abbrev pub ReadsBack : Type 0
ReadsBack =
    (h : Header) (chain payload keys message : List ℕ) → Wrote h chain payload keys message
    → (working : List ℕ) → LongEnough h payload working → ReadAs h payload message keys working

-- Each step's answer, next connection and report buffer by the state: on a message that was written they are what `hear` and `report_heard`
-- (document 01's "Host states", row by row) give for its fields and payload.
abbrev pub StepsByState : Type 0
StepsByState =
    (c : Connection) (h : Header) (chain payload keys message : List ℕ) → Wrote h chain payload keys message
    → (working report : List ℕ) (verdict : ℕ) → LongEnough h payload working → verdict ≤ 1 → bad_size c.size ≡ false
    → (step c message keys working report verdict ≡ hear c h payload report verdict)
    × (report_stepped c message keys working report verdict ≡ report_heard c h payload report)
