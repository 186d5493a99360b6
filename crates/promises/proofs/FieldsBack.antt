-- SPDX-License-Identifier: MPL-2.0
-- What a payload writer wrote is the bytes of its format, accepted, and it says the values that were given (`payload-back`, over any format). A
-- reader of a field that is free gives one of these values; of one that is fixed, a byte of the bytes.
use Rattle.laws.proofs.Kit.{ℕ, ◌+◌, ◌≤◌, ◌≡◌, refl, sym, ◌∙◌, ap, subst, Bool, true, false, true≢false, List, length, take-append_seam, eqb}
use Rattle.laws.proofs.Kit.{eqb-true, eqb-false, eq-eqb, not, le-ltb, lit<, arith}
use mathlib.Core.List.{flat_map}
use Rattle.laws.proofs.Cases.{on}
use Rattle.laws.specs.Bytes.{be16, bytes_at}
use Rattle.laws.proofs.Bools.{and-true}
use Rattle.laws.proofs.Parts.{bytes_at-part}
use Rattle.laws.specs.Runs.{gathered}
use Rattle.payloads.specs.Entries.{entry_at, each, all}
use Rattle.payloads.specs.Typed.{has_widths}
use Rattle.payloads.specs.Format.{Format, Values, ◌and◌, fits, write, ends_from, holds_from, read_from, accepts_from, accepts, read}
use Rattle.payloads.specs.Shapes.{presence_request, connection_request, device_authentication, done_request, done_response, bad_payload}
use Rattle.payloads.specs.Reading.{connection_mode, connect_type, code_of, read_request, sized_at, certificate_of, thumbprint_of}
use Rattle.payloads.specs.declared.reading.Request.{Request}
use Rattle.payloads.proofs.Formats.{write-back}
use Rattle.payloads.proofs.TypedBytes.{written-bytes, typed-read}
use Rattle.payloads.proofs.Shaped.{shape-good}
use Rattle.writer.specs.Answers.{wrote}
use Rattle.writer.specs.Written.{put_refusal, written, output}
use Rattle.writer.specs.Payload.{payload_written, exchange_values, response_format, response_values}
use Rattle.std.specs.Prelude.{Ok}
use Rattle.writer.proofs.PayloadBack.{payload-back}
use Rattle.promises.specs.Fields.{WrotePayload, span_of, FieldsBack, ValuesBack, CanBeWritten, OnlyWritten, OfBytes, CountedEntries}

module _ (f : Format) (v : Values f) (p : List ℕ) (w : WrotePayload f v p) where
  -- Nothing was refused.
  answered : payload_written f v w.output ≡ Ok (wrote (payload_written f v w.output)).size
  unfolding written
  answered =
      let n = put_refusal (not (fits f v)) (length (write f v)) (length w.output) in
      on (eqb n 0) (λ e. rw e) (λ e. absurd (eqb-false n 0 e (rw e at w.accepted)))

  back : (p ≡ write f v) × (accepts f (write f v) ≡ true) × (read f (write f v) ≡ v)
  back = let k = payload-back f v w.output _ answered in (w.bytes ∙ k.0, k.1, k.2)

  pub is : p ≡ write f v
  is = back.0

  accepted : accepts f p ≡ true
  accepted = rw is back.1

  says : read f p ≡ v
  says = rw is back.2

presence : (p : List ℕ) → WrotePayload presence_request tt p → bad_payload 1 false p ≡ false
presence p w = shape-good p 0 (lit< tt) (accepted _ _ p w)

request : (mode : ℕ) (r : Request) (p : List ℕ) → WrotePayload connection_request (exchange_values mode r) p
    → (bad_payload 2 false p ≡ false) × (connection_mode p ≡ mode) × (connect_type p ≡ 0) × (read_request p ≡ r)
unfolding write read_from read_request
request mode r p w =
    let s = says _ _ p w in (
      shape-good p 1 (lit< tt) (accepted _ _ p w),
      (λ i. (s i).0),
      ap connect_type (is _ _ p w),
      (λ i. record { nonce = (s i).1.0; x = (s i).1.1.0; y = (s i).1.1.1.0 }),
    )

response : (mode result : ℕ) (r : Request) (p : List ℕ) (t : Bool) → eqb result 1 ≡ t
    → WrotePayload (response_format t) (response_values t mode result r) p
    → (bad_payload 2 false p ≡ false) × (connection_mode p ≡ mode) × (connect_type p ≡ 1) × (code_of p ≡ result) × (result ≡ 1 → read_request p ≡ r)
unfolding write read_from read_request
response mode result r p true e w =
    let s = says _ _ p w in (
      shape-good p 2 (lit< tt) (accepted _ _ p w),
      (λ i. (s i).0),
      ap connect_type (is _ _ p w),
      ap code_of (is _ _ p w) ∙ sym (eqb-true result 1 e),
      (λ z i. record { nonce = (s i).1.0; x = (s i).1.1.0; y = (s i).1.1.1.0 }),
    )
response mode result r p false e w =
    let s = says _ _ p w in (
      shape-good p 3 (lit< tt) (accepted _ _ p w),
      (λ i. (s i).0),
      ap connect_type (is _ _ p w),
      ap code_of (is _ _ p w),
      (λ z. absurd (true≢false (sym (eq-eqb result 1 z) ∙ e))),
    )

-- Bytes after their number lie where `sized_at` says, if they lie in the payload.
sized-part : (p : List ℕ) (at : ℕ) → at + 2 + be16 p at ≤ length p → span_of p (sized_at p at) ≡ bytes_at p (at + 2) (be16 p at)
sized-part p at h = rw (le-ltb (length p) (at + 2 + be16 p at) h) (sym (bytes_at-part p (at + 2) (be16 p at) h))

-- A payload that is accepted is as its format says.
pub holds : (f : Format) (p : List ℕ) → accepts f p ≡ true → holds_from f p 0 ≡ true
unfolding accepts_from
holds f p h = (and-true (holds_from f p 0) _ h).0

-- A payload that is accepted ends where its format does.
pub ends : (f : Format) (p : List ℕ) → accepts f p ≡ true → length p ≡ ends_from f p 0
unfolding accepts_from
ends f p h = eqb-true (length p) (ends_from f p 0) (and-true (holds_from f p 0) _ h).1

device : (connect mode : ℕ) (certificate thumbprint p : List ℕ)
    → WrotePayload device_authentication (mode and connect and certificate and thumbprint and tt) p
    → (bad_payload 2 true p ≡ false) × (connection_mode p ≡ mode) × (connect_type p ≡ connect)
    × (span_of p (certificate_of p) ≡ certificate) × (span_of p (thumbprint_of p) ≡ thumbprint)
unfolding write read_from ends_from certificate_of thumbprint_of
device connect mode certificate thumbprint p w =
    let s = says _ _ p w in
    let a = accepted _ _ p w in
    let l = ends device_authentication p a in (
      shape-good p 4 (lit< tt) a,
      (λ i. (s i).0),
      ap connect_type (is _ _ p w),
      sized-part p 3 (omega arith) ∙ (λ i. (s i).1.1.0),
      sized-part p (5 + be16 p 3) (omega arith) ∙ (λ i. (s i).1.1.1.0),
    )

finish : (mode : ℕ) (p : List ℕ) → WrotePayload done_request (mode and tt) p
    → (bad_payload 2 true p ≡ false) × (connection_mode p ≡ mode) × (connect_type p ≡ 6)
unfolding write read_from
finish mode p w = (shape-good p 5 (lit< tt) (accepted _ _ p w), (λ i. (says _ _ p w i).0), ap connect_type (is _ _ p w))

finished : (mode status : ℕ) (p : List ℕ) → WrotePayload done_response (mode and status and tt) p
    → (bad_payload 2 true p ≡ false) × (connection_mode p ≡ mode) × (connect_type p ≡ 7) × (code_of p ≡ status)
unfolding write read_from
finished mode status p w =
    (shape-good p 6 (lit< tt) (accepted _ _ p w), (λ i. (says _ _ p w i).0), ap connect_type (is _ _ p w), ap code_of (is _ _ p w))

pub fields_back : FieldsBack
fields_back =
    record {
      presence-request = presence;
      presence-response = λ mode device name salt hash p w. shape-good p 7 (lit< tt) (accepted _ _ p w);
      connection-request = request;
      connection-response = λ mode result r p w. response mode result r p (eqb result 1) refl w;
      device-authentication = device;
      done-request = finish;
      done-response = finished;
    }

pub values-back : ValuesBack
values-back f v p w = (accepted f v p w, says f v p w)

pub can-be-written : CanBeWritten
unfolding written output put_refusal
can-be-written f v h =
    let n = length (write f v) in
    let roomy = le-ltb n n (omega arith) in
    record {
      output = write f v;
      accepted = rw (h, roomy);
      bytes = rw (h, roomy) (sym (take-append_seam (write f v) _));
    }

pub only-written : OnlyWritten
only-written f p bytes h =
    let k = write-back f p bytes h in
    subst (λ (q : List ℕ). WrotePayload f (read f p) q) k.1 (can-be-written f (read f p) k.0)

pub of-bytes : OfBytes
unfolding all has_widths
of-bytes = record { of-shapes = refl; of-written = written-bytes; of-read = λ f p bytes. typed-read p bytes f 0 }

-- By computation.
pub counted-entries : CountedEntries
unfolding write ends_from holds_from read_from accepts_from entry_at each gathered flat_map bytes_at
counted-entries = record { table = refl; said = refl; written = refl }
