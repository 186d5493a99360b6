-- SPDX-License-Identifier: MPL-2.0
-- A Discovery payload is accepted by one of two formats, which begin with different bytes. What was written of a Presence Response says the values
-- that were given (`values-back`), and lies where its format reads it from; what is accepted is what its writer writes (`write-back`).
use Rattle.laws.proofs.Kit.{ℕ, ◌+◌, ◌≤◌, ◌<◌, ◌≡◌, refl, sym, ◌∙◌, true, false, true≢false, not, ◌||◌, List, length, eqb, ltb, eqb-true}
use Rattle.laws.proofs.Kit.{eqb-false, eq-eqb, le-leb, lt-ltb, le-ltb, ltb-true, ltb-false, not-false, lit<, arith}
use Prim.Native.Nat.{zero-le}
use Rattle.std.specs.Prelude.{Ok}
use Rattle.laws.specs.Bytes.{AreBytes, be8, be16}
use Rattle.laws.specs.Rows.{refusal_in}
use Rattle.laws.proofs.Bools.{and-true, or-none}
use Rattle.laws.proofs.Cases.{on}
use Rattle.laws.proofs.Parts.{bytes_at-part}
use Rattle.payloads.specs.Format.{one, end, fixed, Format, fits, write, ends_from, holds_from, read_from, accepts_from, accepts, read}
use Rattle.payloads.specs.Shapes.{presence_request, presence_response, is_shaped, bad_payload}
use Rattle.payloads.specs.Discovery.{nothing_discovery, said_response, read_discovery}
use Rattle.payloads.proofs.Formats.{read_back, write-back}
use Rattle.payloads.proofs.Shaped.{shape-good}
use Rattle.writer.specs.Answers.{wrote}
use Rattle.writer.specs.Written.{put_refusal, written}
use Rattle.writer.specs.Payload.{payload_written}
use Rattle.writer.proofs.Payloads.{fits-presence, right-presence, length-presence}
use Rattle.promises.specs.Fields.{WrotePayload}
use Rattle.promises.specs.Presence.{Presence, values_of, WellFormed, WrittenByNumber, PresenceWritten, TakenApart, PresenceBack, DiscoveryLies}
use Rattle.promises.specs.Presence.{Discovery, is_request, is_response, AdmittedExactly, AdmitsPresence, PresenceExamples}
use Rattle.promises.proofs.FieldsBack.{holds, ends, fields_back, values-back}

module _ (r : Presence) where
  -- The values fit exactly where the response is well formed.
  formed : fits presence_response (values_of r) ≡ true → WellFormed r
  formed h =
      let k = right-presence r.mode r.name r.salt r.hash (fits-presence r.mode r.name r.salt r.hash r.device ∙ h) in
      record { mode = k.0; name = k.1; salt = k.2; hash = k.3 }

  pub fitting : WellFormed r → fits presence_response (values_of r) ≡ true
  fitting w =
      rw (← fits-presence r.mode r.name r.salt r.hash r.device, le-leb r.mode 2 w.mode, le-leb (length r.name) 64 w.name)
      (rw (eq-eqb (length r.salt) 4 w.salt, eq-eqb (length r.hash) 4 w.hash))

  -- What is written of it 14 does not refuse.
  pub good : WellFormed r → bad_payload 1 false (write presence_response (values_of r)) ≡ false
  good w = shape-good (write presence_response (values_of r)) 7 (lit< tt) (read_back presence_response (values_of r) (fitting w)).0

  long : WellFormed r → length (write presence_response (values_of r)) ≡ 15 + length r.name
  long w =
      length-presence r.mode r.name r.salt r.hash r.device
      (fits-presence r.mode r.name r.salt r.hash r.device ∙ fitting w)

  module _ (out : List ℕ) where
    -- The payload's writer gives this number.
    abbrev Gives : ℕ → Type 0
    Gives n = (wrote (payload_written presence_response (values_of r) out)).refusal ≡ n

    ill : (WellFormed r → ⊥) → Gives 14
    unfolding written put_refusal
    ill n = on (fits presence_response (values_of r)) (λ e. absurd (n (formed e))) (λ e. rw e)

    short : WellFormed r → length out < 15 + length r.name → Gives 22
    unfolding written put_refusal
    short w h = rw (fitting w, long w, lt-ltb (length out) (15 + length r.name) h)

    roomy : WellFormed r → 15 + length r.name ≤ length out → Gives 0
    unfolding written put_refusal
    roomy w h = rw (fitting w, long w, le-ltb (length out) (15 + length r.name) h)

    -- There is no fourth way.
    ways : (P : ℕ → Type 0) → ((WellFormed r → ⊥) → P 14) → (WellFormed r → length out < 15 + length r.name → P 22)
        → (WellFormed r → 15 + length r.name ≤ length out → P 0) → P (wrote (payload_written presence_response (values_of r) out)).refusal
    ways P a b c =
        on (fits presence_response (values_of r))
        (λ e.
        let w = formed e in
        on (ltb (length out) (15 + length r.name))
        (λ s. let h = ltb-true _ _ s in rw (short w h) (b w h))
        (λ s. let h = ltb-false _ _ s in rw (roomy w h) (c w h)))
        (λ e. let n : WellFormed r → ⊥ = λ w. true≢false (sym (fitting w) ∙ e) in rw (ill n) (a n))

    by_number : WrittenByNumber r out
    by_number =
        record {
          accepted = (
            ways (λ n. n ≡ 0 → WellFormed r × (15 + length r.name ≤ length out)) (λ n e. absurd (omega arith)) (λ w h e. absurd (omega arith))
                (λ w h e. (w, h)),
            λ k. roomy k.0 k.1,
          );
          ill-formed = (ways (λ n. n ≡ 14 → WellFormed r → ⊥) (λ n e. n) (λ w h e. absurd (omega arith)) (λ w h e. absurd (omega arith)), ill);
          no_room = (
            ways (λ n. n ≡ 22 → WellFormed r × (length out < 15 + length r.name)) (λ n e. absurd (omega arith)) (λ w h e. (w, h))
                (λ w h e. absurd (omega arith)),
            λ k. short k.0 k.1,
          );
        }

pub presence-written : PresenceWritten
presence-written = by_number

-- What begins with a fixed byte begins with that byte.
begins : (n : ℕ) (f : Format) (p : List ℕ) → accepts (fixed one n f) p ≡ true → be8 p 0 ≡ n
unfolding holds_from
begins n f p a = eqb-true (be8 p 0) n (and-true (eqb (be8 p 0) n) _ (holds (fixed one n f) p a)).0

-- A Presence Response that is accepted: its length, and that it is taken apart.
module _ (p : List ℕ) (a : accepts presence_response p ≡ true) where
  size : length p ≡ 7 + be16 p 5 + 4 + 4
  unfolding ends_from
  size = ends presence_response p a

  taken-apart : read_discovery p ≡ Ok (said_response (be16 p 1) (be16 p 3) (be16 p 5))
  unfolding read_discovery
  taken-apart = rw (shape-good p 7 (lit< tt) a, begins 1 _ p a)

request-back : (p : List ℕ) → WrotePayload presence_request tt p → read_discovery p ≡ Ok nothing_discovery
unfolding read_discovery
request-back p w = rw (fields_back.presence-request p w, begins 0 end p (values-back _ _ p w).0)

response-back : (r : Presence) (p : List ℕ) → WrotePayload presence_response (values_of r) p → TakenApart p (read_discovery p) r
unfolding read_from
response-back r p w =
    let v = values-back presence_response (values_of r) p w in
    let s = v.1 in
    let l = size p v.0 in
    let n = be16 p 5 in
    rw (taken-apart p v.0)
    (record {
      accepted = refl;
      discovery = refl;
      mode = λ i. (s i).0;
      device = λ i. (s i).1.0;
      name = sym (bytes_at-part p 7 n (omega arith)) ∙ (λ i. (s i).1.1.0);
      salt = sym (bytes_at-part p (7 + n) 4 (omega arith)) ∙ (λ i. (s i).1.1.1.0);
      hash = sym (bytes_at-part p (7 + n + 4) 4 (omega arith)) ∙ (λ i. (s i).1.1.1.1.0);
    })

pub presence-back : PresenceBack
presence-back = record { request = request-back; response = response-back }

-- 14 refuses what neither format accepts.
one_of_two : (p : List ℕ) → bad_payload 1 false p ≡ not (accepts presence_request p || accepts presence_response p)
unfolding bad_payload is_shaped
one_of_two p = rw (or-none (accepts presence_response p))

module _ (p : List ℕ) (e : bad_payload 1 false p ≡ false) where
  either : (accepts presence_request p || accepts presence_response p) ≡ true
  either = not-false _ (sym (one_of_two p) ∙ e)

  -- One that does not begin with 0 is a Presence Response.
  is-response : eqb (be8 p 0) 0 ≡ false → accepts presence_response p ≡ true
  is-response z =
      on (accepts presence_request p) (λ a. absurd (eqb-false (be8 p 0) 0 z (begins 0 end p a))) (λ n. rw n at either)

  is_one : AreBytes p → Discovery p
  unfolding write
  is_one bytes =
      on (accepts presence_request p) (λ a. is_request (sym (write-back presence_request p bytes a).1))
      (λ n.
      let k = write-back presence_response p bytes (rw n at either) in
      let v = read presence_response p in
      let r : Presence = record { mode = v.0; device = v.1.0; name = v.1.1.0; salt = v.1.1.1.0; hash = v.1.1.1.1.0 } in
      is_response r (formed r k.0) (sym k.1))

admitted : (p : List ℕ) → Discovery p → bad_payload 1 false p ≡ false
unfolding bad_payload is_shaped accepts_from holds_from ends_from
admitted p (is_request e) = rw e
admitted p (is_response r w e) = rw e (good r w)

-- What 14 does not refuse is taken apart, and nothing else.
module _ (p : List ℕ) where
  unrefused : bad_payload 1 false p ≡ false → refusal_in (read_discovery p) ≡ 0
  unfolding read_discovery
  unrefused e = rw e

  refused : bad_payload 1 false p ≡ true → refusal_in (read_discovery p) ≡ 14
  unfolding read_discovery
  refused e = rw e

  exactly : AreBytes p → AdmittedExactly p
  exactly bytes =
      on (bad_payload 1 false p)
      (λ e.
      let none : Discovery p → ⊥ = λ d. true≢false (sym e ∙ admitted p d) in
      record {
        admits = (λ z. absurd (true≢false (sym e ∙ z)), admitted p);
        reads = rw (refused e) (λ z. absurd (omega arith), λ d. absurd (none d));
        refuses = rw (refused e) (λ z. none, λ n. refl);
      })
      (λ e.
      let one = is_one p e bytes in
      record {
        admits = (λ z. one, admitted p);
        reads = rw (unrefused e) (λ z. one, λ d. refl);
        refuses = rw (unrefused e) (λ z. absurd (omega arith), λ n. absurd (n one));
      })

pub admits-presence : AdmitsPresence
admits-presence = exactly

pub discovery-lies : DiscoveryLies
unfolding read_discovery
discovery-lies p =
    on (bad_payload 1 false p)
    (λ e. rw e (record { name = zero-le; salt = zero-le; hash = zero-le }))
    (λ e.
    on (eqb (be8 p 0) 0)
    (λ z. rw (e, z) (record { name = zero-le; salt = zero-le; hash = zero-le }))
    (λ z.
    let l = size p (is-response p e z) in
    rw (e, z) (record { name = omega arith; salt = omega arith; hash = omega arith })))

-- By computation, and the bytes of the example are what was written of it.
pub presence-examples : PresenceExamples
unfolding bad_payload is_shaped accepts_from holds_from ends_from write read_discovery
presence-examples =
    record {
      table = refl;
      written = refl;
      said = record { accepted = refl; discovery = refl; mode = refl; device = refl; name = refl; salt = refl; hash = refl };
    }
