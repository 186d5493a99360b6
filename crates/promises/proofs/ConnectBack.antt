-- SPDX-License-Identifier: MPL-2.0
-- A Connect payload taken apart. What was written is what the readers of fields read (`fields_back`), and it is not refused; the places of nonce,
-- X and Y are those from which a Connection Request's format reads them. What is accepted as a payload that has them has 86 bytes.
use Rattle.laws.proofs.Kit.{ℕ, ◌+◌, ◌≤◌, ◌<◌, ◌≡◌, refl, sym, ◌∙◌, ap, Bool, true, false, true≢false, not, ◌&&◌, List, [], ◌∷◌, length}
use Rattle.laws.proofs.Kit.{eqb, eqb-true, ne_eqb, leb, ltb, ltb-false, not-false, cond, arith}
use Rattle.laws.proofs.Kit.{and-false}
use Prim.Native.Nat.{zero-le}
use borrow.Author.Tests.{not-true}
use Rattle.laws.proofs.Bools.{and-true, or-none}
use Rattle.laws.proofs.Cases.{on}
use Rattle.laws.proofs.Lists.{get_d_any}
use Rattle.laws.proofs.Parts.{bytes_at-part}
use Rattle.laws.specs.Bytes.{be8, be16}
use Rattle.payloads.specs.Format.{Format, ◌and◌, ends_from, holds_from, read_from, accepts}
use Rattle.payloads.specs.Shapes.{Shape, shapes, sealed_as, has_shape, is_shaped, bad_payload, of_type}
use Rattle.payloads.specs.Shapes.{connection_request, pending_response, other_response, device_authentication, done_request, done_response}
use Rattle.payloads.specs.Reading.{connection_mode, connect_type, code_of, read_request, sized_at, certificate_of, thumbprint_of}
use Rattle.payloads.specs.Connect.{span_if, not_connect, has_exchange, has_certificate, has_code, read_connect, connect_told}
use Rattle.payloads.specs.declared.reading.Request.{Request}
use Rattle.payloads.specs.declared.reading.Span.{Span}
use Rattle.writer.specs.Payload.{exchange_values, response_format, response_values}
use Rattle.promises.specs.Fields.{WrotePayload, span_of}
use Rattle.promises.specs.Connects.{Names, NamesExchange, NoExchange, NoCertificate, ConnectBack, Lies, ConnectLies}
use Rattle.promises.proofs.FieldsBack.{holds, ends, fields_back, values-back}

-- Nonce, X and Y of a payload of 86 bytes lie where they are read from.
exchange-named : (p : List ℕ) (r : Request) → not_connect p ≡ false → has_exchange (connect_type p) (code_of p) ≡ true → length p ≡ 86 → read_request p ≡ r
    → NamesExchange p (connect_told (read_connect p)) r
unfolding read_connect read_request read_from
exchange-named p r good has l e =
    rw (good, has)
    (record {
      nonce = sym (bytes_at-part p 6 8 (omega arith)) ∙ ap (λ (r : Request). r.nonce) e;
      x = sym (bytes_at-part p 20 32 (omega arith)) ∙ ap (λ (r : Request). r.x) e;
      y = sym (bytes_at-part p 54 32 (omega arith)) ∙ ap (λ (r : Request). r.y) e;
    })

-- A payload that is not refused says its type, its mode and, where the type has one, its Result or Status.
named : (p : List ℕ) (t m s : ℕ) → not_connect p ≡ false → connect_type p ≡ t → connection_mode p ≡ m → cond (has_code t) (code_of p) 0 ≡ s
    → Names (read_connect p) t m s
unfolding read_connect
named p t m s good type mode code = rw good (record { accepted = refl; connect = type; mode = mode; code = rw type code })

-- 14 does not refuse it sealed.
sealed-good : (p : List ℕ) → bad_payload 2 true p ≡ false → not_connect p ≡ false
sealed-good p e = rw e (and-false (bad_payload 2 false p))

-- What its type has not is not named.
module _ (p : List ℕ) (good : not_connect p ≡ false) where
  no-exchange : has_exchange (connect_type p) (code_of p) ≡ false → NoExchange (connect_told (read_connect p))
  unfolding read_connect
  no-exchange e = rw (good, e) (record { nonce = refl; x = refl; y = refl })

  no-certificate : has_certificate (connect_type p) ≡ false → NoCertificate (connect_told (read_connect p))
  unfolding read_connect
  no-certificate e = rw (good, e) (record { certificate = refl; thumbprint = refl })

request : (mode : ℕ) (r : Request) (p : List ℕ) → WrotePayload connection_request (exchange_values mode r) p
    → Names (read_connect p) 0 mode 0 × NamesExchange p (connect_told (read_connect p)) r × NoCertificate (connect_told (read_connect p))
unfolding ends_from
request mode r p w =
    let b = fields_back.connection-request mode r p w in
    let good : not_connect p ≡ false = rw b.0 in (
      named p 0 mode 0 good b.2 b.1 refl,
      exchange-named p r good (rw b.2) (ends connection_request p (values-back _ _ p w).0) b.3,
      no-certificate p good (rw b.2),
    )

response : (mode result : ℕ) (r : Request) (p : List ℕ) → WrotePayload (response_format (eqb result 1)) (response_values (eqb result 1) mode result r) p
    → Names (read_connect p) 1 mode result × (result ≡ 1 → NamesExchange p (connect_told (read_connect p)) r)
    × ((result ≡ 1 → ⊥) → NoExchange (connect_told (read_connect p))) × NoCertificate (connect_told (read_connect p))
unfolding ends_from
response mode result r p w =
    let b = fields_back.connection-response mode result r p w in
    let good : not_connect p ≡ false = rw b.0 in (
      named p 1 mode result good b.2 b.1 b.3,
      (λ z. exchange-named p r good (rw (b.2, b.3, z)) (ends pending_response p (rw z at (values-back _ _ p w).0)) (b.4 z)),
      (λ z. no-exchange p good (rw (b.2, b.3) (ne_eqb result 1 z))),
      no-certificate p good (rw b.2),
    )

-- The type of a Device Authentication payload is 2 or 3.
device-type : (p : List ℕ) → accepts device_authentication p ≡ true → has_certificate (connect_type p) ≡ true
unfolding holds_from ends_from
device-type p h =
    let l = ends device_authentication p h in
    let t = (and-true (has_certificate (be8 p 2)) _ (and-true (leb (be16 p 0) 2) _ (holds device_authentication p h)).1).0 in
    rw (get_d_any p 2 255 0 (omega arith)) t

-- What holds of both holds of it: it has no Result and no Status, and no nonce, X and Y.
of-device : (P : ℕ → Type 0) (t : ℕ) → P 2 → P 3 → has_certificate t ≡ true → P t
of-device P t two three h = on (eqb t 2) (λ e. rw (eqb-true t 2 e) two) (λ e. rw (eqb-true t 3 (rw e at h)) three)

device-apart : (t c : ℕ) → has_certificate t ≡ true → has_exchange t c ≡ false
device-apart t c = of-device (λ t. has_exchange t c ≡ false) t refl refl

device : (connect mode : ℕ) (certificate thumbprint p : List ℕ)
    → WrotePayload device_authentication (mode and connect and certificate and thumbprint and tt) p
    → Names (read_connect p) connect mode 0 × (span_of p (connect_told (read_connect p)).certificate ≡ certificate)
    × (span_of p (connect_told (read_connect p)).thumbprint ≡ thumbprint) × NoExchange (connect_told (read_connect p))
unfolding read_connect
device connect mode certificate thumbprint p w =
    let b = fields_back.device-authentication connect mode certificate thumbprint p w in
    let good = sealed-good p b.0 in
    let shown = device-type p (values-back _ _ p w).0 in
    let uncoded = of-device (λ t. cond (has_code t) (code_of p) 0 ≡ 0) connect refl refl (rw b.2 at shown) in (
      named p connect mode 0 good b.2 b.1 uncoded,
      rw (good, shown) b.3,
      rw (good, shown) b.4,
      no-exchange p good (device-apart (connect_type p) (code_of p) shown),
    )

finish : (mode : ℕ) (p : List ℕ) → WrotePayload done_request (mode and tt) p
    → Names (read_connect p) 6 mode 0 × NoExchange (connect_told (read_connect p)) × NoCertificate (connect_told (read_connect p))
finish mode p w =
    let b = fields_back.done-request mode p w in
    let good = sealed-good p b.0 in
    (named p 6 mode 0 good b.2 b.1 refl, no-exchange p good (rw b.2), no-certificate p good (rw b.2))

finished : (mode status : ℕ) (p : List ℕ) → WrotePayload done_response (mode and status and tt) p
    → Names (read_connect p) 7 mode status × NoExchange (connect_told (read_connect p)) × NoCertificate (connect_told (read_connect p))
finished mode status p w =
    let b = fields_back.done-response mode status p w in
    let good = sealed-good p b.0 in
    (named p 7 mode status good b.2 b.1 b.3, no-exchange p good (rw b.2), no-certificate p good (rw b.2))

pub connect-back : ConnectBack
connect-back =
    record {
      connection-request = request;
      connection-response = response;
      device-authentication = device;
      done-request = finish;
      done-response = finished;
    }

-- What has one of the Connect shapes of a list has a property that each of those gives.
abbrev EachRow : List ℕ → Type 0 → List Shape → Type 0
EachRow p Q [] = Unit
EachRow p Q (row ∷ rows) = (eqb 2 row.0 ≡ true → accepts row.2 p ≡ true → Q) × EachRow p Q rows

by_row : (p : List ℕ) (Q : Type 0) (sealed : Bool) (rows : List Shape) → EachRow p Q rows → has_shape 2 sealed p rows ≡ true → Q
by_row p Q sealed [] q e = absurd (true≢false (sym e))
by_row p Q sealed (row ∷ rows) q e =
    on (has_shape 2 sealed p rows) (by_row p Q sealed rows q.1) λ r.
    let h = and-true (eqb 2 row.0 && sealed_as sealed row.1) _ (rw (r, or-none) at e) in
    q.0 (and-true (eqb 2 row.0) _ h.0).0 h.1

-- What is taken apart has one of the shapes.
some-shape : (p : List ℕ) (Q : Type 0) → EachRow p Q shapes → not_connect p ≡ false → Q
unfolding bad_payload is_shaped
some-shape p Q q e =
    on (has_shape 2 false p shapes) (by_row p Q false shapes q) (λ n. by_row p Q true shapes q (not-false _ (rw n at e)))

-- The type of a payload that begins with mode and type.
typed : (t : ℕ) (rest : Format) (p : List ℕ) → accepts (of_type t rest) p ≡ true → 2 < length p → connect_type p ≡ t
unfolding holds_from
typed t rest p h l =
    let k = (and-true (leb (be16 p 0) 2) _ (holds (of_type t rest) p h)).1 in
    get_d_any p 2 255 0 l ∙ eqb-true (be8 p 2) t (and-true (eqb (be8 p 2) t) _ k).0

-- A Connection Response that is not Pending.
other-apart : (p : List ℕ) → accepts other_response p ≡ true → has_exchange (connect_type p) (code_of p) ≡ false
unfolding holds_from ends_from
other-apart p h =
    let l = ends other_response p h in
    let k = (and-true (eqb (be8 p 2) 1) _ (and-true (leb (be16 p 0) 2) _ (holds other_response p h)).1).1 in
    let n = (and-true (leb (be8 p 3) 3) (not (eqb (be8 p 3) 1)) (and-true (leb (be8 p 3) 3 && not (eqb (be8 p 3) 1)) true k).0).1 in
    rw (typed 1 _ p h (omega arith), get_d_any p 3 255 0 (omega arith)) (not-true (eqb (be8 p 3) 1) n)

-- What is accepted as a payload that has nonce, X and Y has 86 bytes.
exchange-long : (p : List ℕ) → not_connect p ≡ false → has_exchange (connect_type p) (code_of p) ≡ true → length p ≡ 86
unfolding ends_from
exchange-long p =
    some-shape p (has_exchange (connect_type p) (code_of p) ≡ true → length p ≡ 86)
    ((λ k. absurd (true≢false (sym k)))
    and (λ k a h. ends connection_request p a)
    and (λ k a h. ends pending_response p a)
    and (λ k a. none (other-apart p a))
    and (λ k a. none (device-apart (connect_type p) (code_of p) (device-type p a)))
    and (λ k a. none (rw (typed 6 _ p a (omega (arith, ends done_request p a)))))
    and (λ k a. none (rw (typed 7 _ p a (omega (arith, ends done_response p a)))))
    and (λ k. absurd (true≢false (sym k)))
    and tt)
  where
    none : has_exchange (connect_type p) (code_of p) ≡ false → has_exchange (connect_type p) (code_of p) ≡ true → length p ≡ 86
    none f h = absurd (true≢false (sym h ∙ f))

-- A part that is there lies in the payload if what stands for it does; one that is not is empty.
span-lies : (p : List ℕ) (t : Bool) (s : Span) → (t ≡ true → Lies p s) → Lies p (span_if t s)
span-lies p true s h = h refl
span-lies p false s h = zero-le

-- Nonce, X and Y do, whose places end at 86 or before.
exchange-lies : (p : List ℕ) (s : Span) → not_connect p ≡ false → s.from + s.size ≤ 86 → Lies p (span_if (has_exchange (connect_type p) (code_of p)) s)
exchange-lies p s e l = span-lies p (has_exchange (connect_type p) (code_of p)) s (λ h. omega (arith, exchange-long p e h))

-- Bytes whose number stands before them lie in the payload, or their place is empty.
sized-lies : (p : List ℕ) (at : ℕ) → Lies p (sized_at p at)
sized-lies p at = on (ltb (length p) (at + 2 + be16 p at)) (λ e. rw e zero-le) (λ e. rw e (ltb-false (length p) _ e))

pub connect-lies : ConnectLies
unfolding read_connect certificate_of thumbprint_of
connect-lies p =
    on (not_connect p)
    (λ e. rw e (record { nonce = zero-le; x = zero-le; y = zero-le; certificate = zero-le; thumbprint = zero-le }))
    (λ e.
    rw e
    (record {
      nonce = exchange-lies p (record { from = 6; size = 8 }) e (omega arith);
      x = exchange-lies p (record { from = 20; size = 32 }) e (omega arith);
      y = exchange-lies p (record { from = 54; size = 32 }) e (omega arith);
      certificate = span-lies p (has_certificate (connect_type p)) (sized_at p 3) (λ h. sized-lies p 3);
      thumbprint = span-lies p (has_certificate (connect_type p)) (sized_at p (5 + be16 p 3)) (λ h. sized-lies p (5 + be16 p 3));
    }))
