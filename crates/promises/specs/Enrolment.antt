-- SPDX-License-Identifier: MPL-2.0
-- Demand 2, its conversation: "until a verdict of 0, a repeated enrolment step answers Again and changes neither connection nor report
-- buffer", over any course of steps since the first, also in mid-report and after Completes.
use Rattle.std.specs.Prelude.{ℕ, ◌≤◌, ◌≡◌, List, [], ◌∷◌, true, length}
use Rattle.payloads.specs.Reading.{connect_type, read_request}
use Rattle.wire.specs.declared.header.Header.{Header}
use Rattle.sha256.specs.Digests.{digest}
use Rattle.seal.specs.Opening.{sealed_part}
use Rattle.hub.specs.Answers.{reply, again, failure}
use Rattle.hub.specs.Hear.{certificate}
use Rattle.admission.specs.Calls.{Call}
use Rattle.hub.specs.Calls.{Standing, after, says, after_all}
use Rattle.promises.specs.Refusals.{sealed, start}
use Rattle.promises.specs.Written.{ReadAs}

-- "until a verdict of 0": no step of the course named Failure.
abbrev pub NoFailure : Standing → List Call → Type 0
NoFailure p [] = Unit {0}
NoFailure p (x ∷ xs) = (says p x ≡ failure → ⊥) × NoFailure (after p x) xs

-- No step that is given another verdict names it.
abbrev pub OnlyByZero : Type 0
OnlyByZero = (p : Standing) (x : Call) → says p x ≡ failure → x.verdict ≡ 0

-- The payload q asks for the same step as the payload p. Type 6 has nothing more, and nothing else is compared.
pub record SameStep (p q : List ℕ) : Type 0 where
  pub type : connect_type q ≡ connect_type p
  -- "type 0 with the same nonce, X and Y"
  pub nonce : connect_type p ≡ 0 → (read_request q).nonce ≡ (read_request p).nonce
  pub x : connect_type p ≡ 0 → (read_request q).x ≡ (read_request p).x
  pub y : connect_type p ≡ 0 → (read_request q).y ≡ (read_request p).y
  -- "type 2 with the same certificate digest"
  pub digested : connect_type p ≡ 2 → digest (certificate q) ≡ digest (certificate p)

-- What the reader reads in the message of a call, with the call's own keys and a working buffer that is long enough: its fields and payload.
pub record Content (x : Call) : Type 0 where
  pub header : Header
  pub payload : List ℕ
  pub reads : ReadAs header payload x.message x.keys x.working

-- The message is a Connect message of this type.
abbrev pub IsConnect : {x : Call} → Content x → ℕ → Type 0
IsConnect k type = (k.header.kind ≡ 2) × (connect_type k.payload ≡ type)

-- The call y asks for the step of x again: its message is a Connect message of the same session, and asks for the same step. RequestID,
-- SequenceNumber, mode, flags, chain, thumbprint and keys may be others; the verdict is 0 or 1.
pub record AskedAgain (x y : Call) : Type 0 where
  pub first : Content x
  pub second : Content y
  pub kind : second.header.kind ≡ 2
  pub session : second.header.session ≡ first.header.session
  pub same : SameStep first.payload second.payload
  pub verdict : y.verdict ≤ 1

-- The call y is answered Again with the reply t, and nothing changes.
abbrev pub AnsweredAgain : Standing → Call → ℕ → Type 0
AnsweredAgain p y t = (says p y ≡ again t) × (after p y ≡ p)

-- A step was answered with a reply; after any course since, who asks for it again gets Again with the same reply, and nothing changes.
abbrev pub RepeatedStep : Type 0
RepeatedStep =
    (p : Standing) (x : Call) (t : ℕ) → says p x ≡ reply t
    → (xs : List Call) → NoFailure (after p x) xs
    → (y : Call) → AskedAgain x y → AnsweredAgain (after_all (after p x) xs) y t

-- The call y sends the message of x again: the same bytes and keys, a verdict of 0 or 1, and a working buffer of any contents that is not
-- shorter than the sealed part, if there is one.
pub record SentAgain (x y : Call) : Type 0 where
  pub message : y.message ≡ x.message
  pub keys : y.keys ≡ x.keys
  pub verdict : y.verdict ≤ 1
  pub room : sealed x.message ≡ true → length (sealed_part x.message (start x.message)) ≤ length y.working

-- The same bytes are a case of it.
abbrev pub RepeatedBytes : Type 0
RepeatedBytes =
    (p : Standing) (x : Call) (t : ℕ) → says p x ≡ reply t
    → (xs : List Call) → NoFailure (after p x) xs
    → (y : Call) → SentAgain x y → AnsweredAgain (after_all (after p x) xs) y t
