-- SPDX-License-Identifier: MPL-2.0
-- The premises of `RepeatedStep` can be met: three messages, as the writer writes them, enrol a gateway, and three others ask for the same steps.
use Rattle.laws.proofs.Kit.{ℕ, ◌≤◌, ◌<◌, ◌≡◌, refl, sym, ◌∙◌, ap, false, not, and-false, List, [], ◌∷◌, length, replicate, eqb, eqb-false}
use Rattle.laws.proofs.Kit.{arith}
use Rattle.laws.specs.Bytes.{AreBytes, bytes_at}
use Rattle.wire.specs.Fields.{bad_flags, is_sealed}
use Rattle.wire.specs.Chain.{entry_of, chain, most_entries, read_chain, bad_chain}
use Rattle.payloads.specs.Format.{◌and◌, write, ends_from, holds_from, read_from, accepts_from}
use Rattle.payloads.specs.Shapes.{connection_request, device_authentication, done_request, is_shaped, bad_payload}
use Rattle.payloads.specs.Reading.{read_request, certificate_of}
use Rattle.wire.specs.declared.header.Header.{Header}
use Rattle.sha256.specs.Digests.{digest}
use Rattle.seal.specs.Padding.{padding, sealed_size}
use Rattle.message.specs.Writing.{message_bytes}
use Rattle.joining.specs.Cut.{bad_size}
use Rattle.hub.specs.declared.Connection.{Connection}
use Rattle.hub.specs.declared.Stepped.{Stepped}
use Rattle.hub.specs.declared.Answer.TheVariants.{Reply}
use Rattle.hub.specs.Answers.{said, reply}
use Rattle.hub.specs.Opening.{blank}
use Rattle.hub.specs.Host.{host, stepped, requested, with_digest_and_state}
use Rattle.hub.specs.Hear.{certificate, connect, is_foreign, hear, report_heard}
use Rattle.promises.specs.Met.{Otherwise, Enrolled, CanEnrol}
use Rattle.promises.specs.Enrolment.{SameStep}
use Rattle.promises.specs.Written.{Wrote, ReadAs}
use Rattle.promises.proofs.ReadBack.{reads-back, steps-by-state}
use Rattle.promises.proofs.Letters.{connect_header, Carried, connect-written}
use Rattle.promises.proofs.Witness.{are-bytes, end-allowed}
use Rattle.admission.specs.Calls.{Call}
use Rattle.hub.specs.Calls.{Standing, after, says}

-- A Connect message of session 7.
abbrev header : (flags sequence request : ℕ) → Header
header flags sequence request = connect_header flags sequence request 7

-- A chain without entries, and one with an entry.
abbrev end : List ℕ
end = 0 ∷ 0 ∷ []

abbrev longer : List ℕ
longer = 1 ∷ 1 ∷ 0 ∷ end

longer-allowed : bad_chain longer ≡ false
unfolding bad_chain read_chain most_entries chain entry_of
longer-allowed = refl

-- A Connection Request, a Device Authentication Request with a certificate of one byte, and an Authentication Done Request, in this mode; the
-- second with this thumbprint.
abbrev request_bytes : ℕ → List ℕ
request_bytes mode = write connection_request (mode and replicate 8 1 and replicate 32 2 and replicate 32 3 and tt)

abbrev device_bytes : ℕ → List ℕ → List ℕ
device_bytes mode thumbprint = write device_authentication (mode and 2 and (5 ∷ []) and thumbprint and tt)

abbrev finish_bytes : ℕ → List ℕ
finish_bytes mode = write done_request (mode and tt)

-- The connection after each of them, opened at fragment size F.
abbrev waiting : ℕ → Connection
waiting F = requested (blank F) 7 (read_request (request_bytes 0))

abbrev passed : ℕ → Connection
passed F = with_digest_and_state (waiting F) (digest (certificate (device_bytes 0 []))) 2

abbrev ready : ℕ → Connection
ready F = with_digest_and_state (passed F) (passed F).digest 3

-- A message whose flags and payload are not refused, and which 96 bytes have room for.
pub record Allowed (flags : ℕ) (bytes : List ℕ) : Type 0 where
  pub carried : Carried flags bytes
  pub room : sealed_size (length bytes) ≤ 96

-- Numbers that are tested to differ.
unequal : {A : Type 0} (a b : ℕ) → eqb a b ≡ false → a ≡ b → A
unequal a b e p = absurd (eqb-false a b e p)

-- Of each step a message and another one: another mode, another thumbprint.
request-allowed : Allowed 0 (request_bytes 0) × Allowed 0 (request_bytes 1)
unfolding bad_flags is_sealed bad_payload is_shaped accepts_from holds_from ends_from write padding sealed_size
request-allowed = (
  record { carried = record { low = omega arith; of-bytes = are-bytes _ refl; flagged = refl; shaped = refl }; room = omega arith },
  record { carried = record { low = omega arith; of-bytes = are-bytes _ refl; flagged = refl; shaped = refl }; room = omega arith },
)

request-same : SameStep (request_bytes 0) (request_bytes 1)
unfolding read_request read_from write bytes_at
request-same = record { type = refl; nonce = λ e. refl; x = λ e. refl; y = λ e. refl; digested = unequal 0 2 refl }

device-allowed : Allowed 6 (device_bytes 0 []) × Allowed 6 (device_bytes 1 (7 ∷ []))
unfolding bad_flags is_sealed bad_payload is_shaped accepts_from holds_from ends_from write padding sealed_size
device-allowed = (
  record { carried = record { low = omega arith; of-bytes = are-bytes _ refl; flagged = refl; shaped = refl }; room = omega arith },
  record { carried = record { low = omega arith; of-bytes = are-bytes _ refl; flagged = refl; shaped = refl }; room = omega arith },
)

device-same : SameStep (device_bytes 0 []) (device_bytes 1 (7 ∷ []))
unfolding certificate_of write
device-same =
    let c : certificate (device_bytes 1 (7 ∷ [])) ≡ certificate (device_bytes 0 []) = refl in
    record { type = refl; nonce = unequal 2 0 refl; x = unequal 2 0 refl; y = unequal 2 0 refl; digested = λ e. ap digest c }

finish-allowed : Allowed 6 (finish_bytes 0) × Allowed 6 (finish_bytes 1)
unfolding bad_flags is_sealed bad_payload is_shaped accepts_from holds_from ends_from write padding sealed_size
finish-allowed = (
  record { carried = record { low = omega arith; of-bytes = are-bytes _ refl; flagged = refl; shaped = refl }; room = omega arith },
  record { carried = record { low = omega arith; of-bytes = are-bytes _ refl; flagged = refl; shaped = refl }; room = omega arith },
)

finish-same : SameStep (finish_bytes 0) (finish_bytes 1)
unfolding write
finish-same =
    record { type = refl; nonce = unequal 6 0 refl; x = unequal 6 0 refl; y = unequal 6 0 refl; digested = unequal 6 2 refl }

-- One message is read in one way.
one-reading : (h g : Header) (p q m keys w : List ℕ) → ReadAs h p m keys w → ReadAs g q m keys w → h ≡ g
one-reading h g p q m keys w r t = sym r.header ∙ t.header

module _ (F : ℕ) (keys report : List ℕ) (sized : bad_size F ≡ false) (of-keys : AreBytes keys) (whole : length keys ≡ 64) where
  abbrev call_with : Header → (chain bytes : List ℕ) → Call
  call_with h chain bytes = record { message = message_bytes h chain bytes keys; keys = keys; working = replicate 96 0; verdict = 1 }

  -- The first message of a step, and another one of the same step: another SequenceNumber, RequestID and chain.
  abbrev once : ℕ → List ℕ → Call
  once flags bytes = call_with (header flags 0 0) end bytes

  abbrev other : ℕ → List ℕ → Call
  other flags bytes = call_with (header flags 5 9) longer bytes

  abbrev at : Connection → Standing
  at c = record { connection = c; report = report }

  -- It is written, and read back.
  written : (flags sequence request : ℕ) (chain bytes : List ℕ) → sequence < 4294967296 → request < 18446744073709551616 → AreBytes chain
      → bad_chain chain ≡ false → Allowed flags bytes
      → Wrote (header flags sequence request) chain bytes keys (message_bytes (header flags sequence request) chain bytes keys)
  written flags sequence request chain bytes s r b c a =
      connect-written flags sequence request 7 chain bytes keys s r (omega arith) b c a.carried of-keys whole

  once-written : (flags : ℕ) (bytes : List ℕ) → Allowed flags bytes → Wrote (header flags 0 0) end bytes keys (once flags bytes).message
  once-written flags bytes a = written flags 0 0 end bytes (omega arith) (omega arith) (are-bytes end refl) end-allowed a

  other-written : (flags : ℕ) (bytes : List ℕ) → Allowed flags bytes → Wrote (header flags 5 9) longer bytes keys (other flags bytes).message
  other-written flags bytes a = written flags 5 9 longer bytes (omega arith) (omega arith) (are-bytes longer refl) longer-allowed a

  -- The message gets this reply and takes one connection to the other.
  abbrev Steps : Connection → Connection → ℕ → List ℕ → ℕ → Type 0
  Steps c d flags bytes t = (says (at c) (once flags bytes) ≡ reply t) × (after (at c) (once flags bytes) ≡ at d)

  -- What is heard is what the step does; the report buffer is left alone.
  steps : (c d : Connection) (flags : ℕ) (bytes : List ℕ) (t : ℕ) → bad_size c.size ≡ false → Allowed flags bytes
      → hear c (header flags 0 0) bytes report 1 ≡ stepped d (Reply t) → Steps c d flags bytes t
  unfolding report_heard
  steps c d flags bytes t z a e =
      let h = header flags 0 0 in
      let s =
      steps-by-state c h end bytes keys (once flags bytes).message (once-written flags bytes a) (replicate 96 0) report 1 (λ o. a.room)
      (omega arith) z in
      let q = s.0 ∙ e in
      let r : report_heard c h bytes report ≡ report = rw (and-false (not (is_foreign c h))) in
      (ap (λ (s : Stepped). said s.answer) q, λ i. record { connection = (q i).connection; report = (s.1 ∙ r) i })

  -- Another message of the same step.
  otherwise : (flags : ℕ) (p q : List ℕ) → Allowed flags p → Allowed flags q → SameStep p q → Otherwise (once flags p)
  otherwise flags p q a b s =
      let w = replicate {A = ℕ} 96 0 in
      let m = (once flags p).message in
      let n = (other flags q).message in
      let r = reads-back (header flags 0 0) end p keys m (once-written flags p a) w (λ o. a.room) in
      let t = reads-back (header flags 5 9) longer q keys n (other-written flags q b) w (λ o. b.room) in
      record {
        call = other flags q;
        asked = record {
          first = record { header = header flags 0 0; payload = p; reads = r };
          second = record { header = header flags 5 9; payload = q; reads = t };
          kind = refl;
          session = refl;
          same = s;
          verdict = omega arith;
        };
        other = λ e.
            unequal 0 9 refl (ap (λ (h : Header). h.request) (one-reading (header flags 0 0) (header flags 5 9) p q m keys w r (rw e at t)));
      }

  requests : Steps (blank F) (waiting F) 0 (request_bytes 0) 1
  unfolding hear connect host write
  requests = steps (blank F) (waiting F) 0 (request_bytes 0) 1 sized request-allowed.0 refl

  authenticates : Steps (waiting F) (passed F) 6 (device_bytes 0 []) 3
  unfolding hear connect host write
  authenticates = steps (waiting F) (passed F) 6 (device_bytes 0 []) 3 sized device-allowed.0 refl

  finishes : Steps (passed F) (ready F) 6 (finish_bytes 0) 7
  unfolding hear connect host write
  finishes = steps (passed F) (ready F) 6 (finish_bytes 0) 7 sized finish-allowed.0 refl

  enrolled : Enrolled F keys report
  enrolled =
      let y = once 6 (device_bytes 0 []) in
      let z = once 6 (finish_bytes 0) in
      record {
        request = once 0 (request_bytes 0);
        device = y;
        finish = z;
        first = requests.0;
        second = ap (λ (s : Standing). says s y) requests.1 ∙ authenticates.0;
        third = ap (λ (s : Standing). says (after s y) z) requests.1 ∙ ap (λ (s : Standing). says s z) authenticates.1 ∙ finishes.0;
        again = (
          otherwise 0 _ _ request-allowed.0 request-allowed.1 request-same,
          otherwise 6 _ _ device-allowed.0 device-allowed.1 device-same,
          otherwise 6 _ _ finish-allowed.0 finish-allowed.1 finish-same,
        );
      }

pub can-enrol : CanEnrol
can-enrol = enrolled
