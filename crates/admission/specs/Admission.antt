-- SPDX-License-Identifier: MPL-2.0
-- What a step does in either role before its states are asked. "A step checks in this order, the first that applies being the answer: 25; 24; 1 to
-- 9; for sealed messages 10 to 13; 14; 16; 15".
use Rattle.std.specs.Prelude.{ℕ, List, Bool, cond, not, ◌&&◌, ◌||◌, length, eqb, ltb, Result, Ok, Err}
use Rattle.wire.specs.Refusals.{wrong_fragment_size, wrong_verdict}
use Rattle.wire.specs.declared.header.Header.{Header}
use Rattle.message.specs.Reading.{read_message, working_after}
use Rattle.message.specs.Handed.{payload}
use Rattle.message.specs.declared.reading.FoundMessage.{FoundMessage}
use Rattle.joining.specs.Cut.{bad_size}

-- 25: "verdict not 0 or 1"; 24: "F outside 1 to 16,384 … in the connection given to a step". Both come before the message is looked at; then the
-- reader, with a working buffer of `room` bytes.
unfoldable pub admit : (size verdict : ℕ) → (message keys : List ℕ) → (room : ℕ) → Result FoundMessage ℕ
admit size verdict message keys room =
    cond (ltb 1 verdict) (Err wrong_verdict)
    (cond (bad_size size) (Err wrong_fragment_size)
    (read_message message keys room))

-- One of them applies.
abbrev pub unready : (size verdict : ℕ) → Bool
unready size verdict = ltb 1 verdict || bad_size size

-- The working buffer after a step: "untouched by refusals 1 to 13, 24 and 25, and by plain messages".
unfoldable pub working_admitted : (size verdict : ℕ) → (message keys working : List ℕ) → List ℕ
working_admitted size verdict message keys working = cond (unready size verdict) working (working_after message keys working)

-- What becomes of a message in a role: its refusal by a number, or what it does once it is read, with its header and payload.
abbrev pub on_read : {A : Type 0} → (refused : ℕ → A) → (heard : Header → List ℕ → A) → (message working : List ℕ) → Result FoundMessage ℕ → A
on_read refused heard message working (Err n) = refused n
on_read refused heard message working (Ok f) = heard f.header (payload message working (Ok f))

-- A step of a role.
abbrev pub step_by : {A : Type 0} → (refused : ℕ → A) → (heard : Header → List ℕ → A) → (size verdict : ℕ) → (message keys working : List ℕ) → A
step_by refused heard size verdict message keys working =
    on_read refused heard message (working_admitted size verdict message keys working) (admit size verdict message keys (length working))

-- 16: "another SessionID"; "Discovery skips 16".
abbrev pub another_session : Header → ℕ → Bool
another_session h session = not (eqb h.kind 1) && not (eqb h.session session)
