-- SPDX-License-Identifier: MPL-2.0
-- Demand 3: "connection and report buffer depend only on how they began and which fragments have come; the report is handed out whole, exactly
-- as sent, at the call that brings the last missing fragment, at no other". It is about the step that runs: sealed bytes go in.
use Rattle.std.specs.Prelude.{ℕ, ◌+◌, ◌≤◌, ◌<◌, ◌≡◌, List, [], ◌∷◌, true, false, length, take}
use Rattle.wire.specs.declared.header.Header.{Header}
use Rattle.seal.specs.Padding.{sealed_size}
use Rattle.joining.specs.Heard.{most, none}
use Rattle.joining.specs.Cut.{piece_count, cut_refusal, cut_count, cut_piece}
use Rattle.joining.specs.Join.{expecting}
use Rattle.joining.specs.declared.answer.Said.{Said}
use Rattle.joining.specs.Answers.{refused, taken, repeated, complete, is_complete}
use Rattle.hub.specs.declared.Connection.{Connection}
use Rattle.hub.specs.Answers.{is_quiet}
use Rattle.hub.specs.Hear.{with_progress}
use Rattle.promises.specs.Written.{Wrote}
use Rattle.joining.specs.Events.{Event, piece, between, came, LastMissing, how_many}
use Rattle.admission.specs.Calls.{Call}
use Rattle.hub.specs.Calls.{Standing, after, says, after_all}

-- A report that is sent to a connection, in these keys and on this channel; and the report buffer as it began.
pub record Sending : Type 0 where
  pub connection : Connection
  pub buffer : List ℕ
  pub keys : List ℕ
  pub channel : ℕ
  pub report : List ℕ

-- How connection and report buffer began.
abbrev pub began : Sending → Standing
began s = record { connection = s.connection; report = s.buffer }

-- The number of fragments.
abbrev pub fragments : Sending → ℕ
fragments s = piece_count s.connection.size (length s.report)

-- "on a Ready connection that has heard nothing of the message it expects": its number is one that may be used (at most 2^32 − 2), the
-- cutter cuts the report at the connection's fragment size, and the report buffer has room for it.
pub record Fair (s : Sending) : Type 0 where
  pub ready : s.connection.state ≡ 3
  pub unheard : s.connection.progress.heard ≡ none most
  pub number : s.connection.progress.expected < 4294967295
  pub cut : cut_refusal s.connection.size (length s.report) 0 ≡ 0
  pub room : length s.report ≤ length s.buffer

-- Fragment i: the cutter's piece.
abbrev pub fragment : Sending → ℕ → List ℕ
fragment s i = cut_piece s.connection.size s.report i

-- Its header: a Session message with the connection's expected number and SessionID, the report's channel, the cutter's count, and i. RequestID
-- and flags are as the sender likes.
abbrev pub header_for : Sending → ℕ → (request flags : ℕ) → Header
header_for s i request flags =
    record {
      kind = 4;
      flags = flags;
      sequence = s.connection.progress.expected;
      request = request;
      index = i;
      count = cut_count s.connection.size (length s.report) i;
      session = s.connection.session;
      channel = s.channel;
    }

-- A call whose message is fragment i of the report, "cut and sealed by the rules with the keys every step is given": what the writer writes of
-- it, with "any RequestID, acknowledge and wake flags and chain" (it writes a Session message only sealed, and takes no other flag);
-- "any contents of a working buffer that is long enough, any verdicts 0 or 1".
pub record Sent (s : Sending) (i : ℕ) (x : Call) : Type 0 where
  pub request : ℕ
  pub flags : ℕ
  pub chain : List ℕ
  pub written : Wrote (header_for s i request flags) chain (fragment s i) s.keys x.message
  pub keys : x.keys ≡ s.keys
  pub room : sealed_size (length (fragment s i)) ≤ length x.working
  pub verdict : x.verdict ≤ 1

-- "any course of messages, each one of the report's fragments or one whose step answers Refused or Again". The list of events says which.
pub data Course (s : Sending) : Standing → List Call → List Event → Type 0 where
  done : {p : Standing} → Course s p [] []
  brings : {p : Standing} {x : Call} {xs : List Call} {i : ℕ} {es : List Event} → i < fragments s → Sent s i x → Course s (after p x) xs es
      → Course s p (x ∷ xs) (piece i ∷ es)
  rests : {p : Standing} {x : Call} {xs : List Call} {es : List Event} → is_quiet (says p x) ≡ true → Course s (after p x) xs es
      → Course s p (x ∷ xs) (between ∷ es)

-- "Then connection and report buffer depend only on how they began and which fragments have come": after two courses that brought the same
-- fragments, in any order, each any number of times, with anything between them, they are the same.
abbrev pub OnlyWhatCame : Sending → Type 0
OnlyWhatCame s =
    (xs ys : List Call) (es ds : List Event) → Course s (began s) xs es → Course s (began s) ys ds
    → ((j : ℕ) → j < fragments s → came j es ≡ came j ds) → after_all (began s) xs ≡ after_all (began s) ys

-- After a course, a call brings fragment i.
module _ (s : Sending) (xs : List Call) (es : List Event) (i : ℕ) (x : Call) where
  -- "the report is handed out whole, exactly as sent": the answer is Complete with the report's length and the number of fragments, the report
  -- buffer begins with the report and is as long as it was, and the connection expects the next number, nothing of it heard, all else as it
  -- began.
  pub record HandedOut : Type 0 where
    pub answered : says (after_all (began s) xs) x ≡ complete (length s.report) (fragments s)
    pub whole : take (length s.report) (after (after_all (began s) xs) x).report ≡ s.report
    pub long : length (after (after_all (began s) xs) x).report ≡ length s.buffer
    pub next : (after (after_all (began s) xs) x).connection ≡ with_progress s.connection (expecting (s.connection.progress.expected + 1))

  -- What the call answers, by what has come before it.
  pub record Brought : Type 0 where
    -- "at the call that brings the last missing fragment",
    pub last : LastMissing (fragments s) i es → HandedOut
    -- "at no other": what is answered Complete was the last missing one.
    pub no_other : is_complete (says (after_all (began s) xs) x) ≡ true → LastMissing (fragments s) i es
    -- Taken where it is new and another is missing, Repeat where it has come: "each also tells how many different pieces of this message have
    -- come", this one with them;
    pub taken : came i es ≡ false → (j : ℕ) → j < fragments s → (j ≡ i → ⊥) → came j es ≡ false
        → says (after_all (began s) xs) x ≡ taken (how_many (fragments s) (piece i ∷ es))
    pub repeated : came i es ≡ true → (j : ℕ) → j < fragments s → came j es ≡ false
        → says (after_all (began s) xs) x ≡ repeated (how_many (fragments s) (piece i ∷ es))
    -- and Complete's number of fragments is that too.
    pub counted : LastMissing (fragments s) i es → fragments s ≡ how_many (fragments s) (piece i ∷ es)
    -- "later copies get 17".
    pub late : ((j : ℕ) → j < fragments s → came j es ≡ true) → says (after_all (began s) xs) x ≡ refused 17

-- A report, the keys, a connection with its fragment size, SessionID and expected number; any course of calls; and the call after it.
pub record Delivered (s : Sending) : Type 0 where
  pub only : OnlyWhatCame s
  pub each : (xs : List Call) (es : List Event) → Course s (began s) xs es → (i : ℕ) → i < fragments s → (x : Call) → Sent s i x
      → Brought s xs es i x

-- Demand 3: of every report on its way to a Ready connection.
abbrev pub DemandThree : Type 0
DemandThree = (s : Sending) → Fair s → Delivered s

-- What is Refused or Again hands nothing out.
abbrev pub NotBetween : Type 0
NotBetween = (s : Said) → is_quiet s ≡ true → is_complete s ≡ false
