-- SPDX-License-Identifier: MPL-2.0
-- No premise of the promises is one that cannot be met: every fragment of every report can be sent, with every choice that demand 3 leaves to the
-- sender, in any order and any number of times; and each of the three enrolment steps gets its reply.
use Rattle.std.specs.Prelude.{ℕ, ◌+◌, ◌*◌, ◌≤◌, ◌<◌, ◌≡◌, List, [], ◌∷◌, Bool, false, length}
use Rattle.laws.specs.Bytes.{AreBytes}
use Rattle.wire.specs.Chain.{bad_chain}
use Rattle.seal.specs.Padding.{sealed_size}
use Rattle.message.specs.Writing.{message_bytes}
use Rattle.joining.specs.Heard.{bit}
use Rattle.joining.specs.Cut.{bad_size}
use Rattle.hub.specs.Answers.{reply}
use Rattle.hub.specs.Opening.{blank}
use Rattle.promises.specs.Enrolment.{AskedAgain}
use Rattle.promises.specs.Reports.{Sending, fragments, fragment, header_for, Fair, Sent, Course}
use Rattle.joining.specs.Events.{Event, piece}
use Rattle.admission.specs.Calls.{Call}
use Rattle.hub.specs.Calls.{Standing, after, says}

-- What the types of the calls say of a report that is sent, and 64 key bytes.
pub record Typed (s : Sending) : Type 0 where
  pub session : s.connection.session < 18446744073709551616
  pub channel : s.channel < 18446744073709551616
  pub report : AreBytes s.report
  pub keys : AreBytes s.keys
  pub whole : length s.keys ≡ 64

-- "any RequestID, acknowledge and wake flags and chain on each fragment; any contents of a working buffer that is long enough, any verdicts 0 or 1".
pub record Choice : Type 0 where
  pub request : ℕ
  pub acknowledge : Bool
  pub wake : Bool
  pub chain : List ℕ
  pub working : List ℕ
  pub verdict : ℕ

-- What a choice must be: a RequestID of its width, a chain that is not refused, a long enough working buffer, a verdict of 0 or 1.
pub record Good (s : Sending) (d : Choice) : Type 0 where
  pub request : d.request < 18446744073709551616
  pub of-chain : AreBytes d.chain
  pub chained : bad_chain d.chain ≡ false
  pub room : (i : ℕ) → i < fragments s → sealed_size (length (fragment s i)) ≤ length d.working
  pub verdict : d.verdict ≤ 1

-- Flags 2 and 4, with 1 and 8 where they are chosen.
abbrev pub flags_of : Choice → ℕ
flags_of d = 6 + bit d.acknowledge + 8 * bit d.wake

-- The call that brings fragment i, written with this choice.
abbrev pub call_for : Sending → ℕ → Choice → Call
call_for s i d =
    record {
      message = message_bytes (header_for s i d.request (flags_of d)) d.chain (fragment s i) s.keys;
      keys = s.keys;
      working = d.working;
      verdict = d.verdict;
    }

-- Every fragment can be sent, with every choice.
abbrev pub CanBeSent : Sending → Type 0
CanBeSent s = Fair s → Typed s → (i : ℕ) → i < fragments s → (d : Choice) → Good s d → Sent s i (call_for s i d)

-- Fragments one after the other, each with a choice: the calls.
abbrev pub calls : Sending → List (ℕ × Choice) → List Call
calls s [] = []
calls s (d ∷ ds) = call_for s d.0 d.1 ∷ calls s ds

-- What they bring.
abbrev pub brought : List (ℕ × Choice) → List Event
brought [] = []
brought (d ∷ ds) = piece d.0 ∷ brought ds

-- Each is a fragment of the report, with a choice that is good for it.
abbrev pub AllGood : Sending → List (ℕ × Choice) → Type 0
AllGood s [] = Unit {0}
AllGood s (d ∷ ds) = ((d.0 < fragments s) × Good s d.1) × AllGood s ds

-- In any order, each any number of times, they are a course.
abbrev pub AnyOrder : Sending → Type 0
AnyOrder s = Fair s → Typed s → (ds : List (ℕ × Choice)) → AllGood s ds → (p : Standing) → Course s p (calls s ds) (brought ds)

-- A connection as it is opened, beside a report buffer.
abbrev pub opening : ℕ → List ℕ → Standing
opening F report = record { connection = blank F; report = report }

-- Another message that asks for the step of x again.
pub record Otherwise (x : Call) : Type 0 where
  pub call : Call
  pub asked : AskedAgain x call
  pub other : call.message ≡ x.message → ⊥

-- Three messages that enrol a gateway: each gets its reply, and each step can be asked for again in another message.
pub record Enrolled (F : ℕ) (keys report : List ℕ) : Type 0 where
  pub request : Call
  pub device : Call
  pub finish : Call
  pub first : says (opening F report) request ≡ reply 1
  pub second : says (after (opening F report) request) device ≡ reply 3
  pub third : says (after (after (opening F report) request) device) finish ≡ reply 7
  pub again : Otherwise request × Otherwise device × Otherwise finish

-- So the premises of `RepeatedStep` can be met for each reply, with any keys.
abbrev pub CanEnrol : Type 0
CanEnrol = (F : ℕ) (keys report : List ℕ) → bad_size F ≡ false → AreBytes keys → length keys ≡ 64 → Enrolled F keys report
