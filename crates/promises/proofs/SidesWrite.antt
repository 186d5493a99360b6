-- SPDX-License-Identifier: MPL-2.0
-- The letters of two sides can be written: the request and the reply at each place.
use Rattle.laws.proofs.Kit.{ℕ, ◌<◌, ◌≡◌, refl, true, false, List, [], ◌∷◌, length}
use Rattle.laws.proofs.Kit.{le-leb, arith}
use Rattle.wire.specs.Fields.{bad_flags, is_sealed}
use Rattle.payloads.specs.Format.{Format, Values, ◌and◌, fits, write}
use Rattle.payloads.specs.Typed.{has_widths, Typed}
use Rattle.payloads.specs.Shapes.{bad_payload, connection_request, pending_response, device_authentication, done_request, done_response}
use Rattle.payloads.proofs.TypedBytes.{written-bytes}
use Rattle.writer.specs.Payload.{exchange_values}
use Rattle.message.specs.Writing.{message_bytes}
use Rattle.promises.specs.TwoSides.{Sides, Letter, connection-request, device-request, done-request, connection-response}
use Rattle.promises.specs.TwoSides.{device-response, done-response, IsRequest, IsReply}
use Rattle.promises.specs.TwoSides.{Writable, SidesExist}
use Rattle.promises.proofs.FieldsBack.{fields_back, can-be-written}
use Rattle.promises.proofs.Witness.{are-bytes, end-allowed}
use Rattle.promises.proofs.Letters.{connect_header, Carried, connect-written}
use Rattle.promises.proofs.SidesSay.{request_type, reply_type, three}

-- A letter with a property.
pub record Some (s : Sides) (P : Letter s → Type 0) : Type 0 where
  pub letter : Letter s
  pub is : P letter

module _ (s : Sides) (w : Writable s) where
  -- A payload that flags allow is carried by a letter.
  letter : (flags number : ℕ) → number < 4294967296 → (p : List ℕ) → Carried flags p → Letter s
  letter flags number l p c =
      record {
        header = connect_header flags number 0 s.session;
        chain = 0 ∷ 0 ∷ [];
        payload = p;
        message = message_bytes (connect_header flags number 0 s.session) (0 ∷ 0 ∷ []) p s.keys;
        kind = refl;
        written = connect-written flags number 0 s.session (0 ∷ 0 ∷ []) p s.keys l (omega arith) w.session (are-bytes _ refl)
            end-allowed c w.keys.0 w.keys.1;
      }

  -- A payload of a format, plain; and sealed, under a number: no two sealed letters of the two sides have one vector.
  plain : (f : Format) (v : Values f) → has_widths f ≡ true → fits f v ≡ true → Typed f v → bad_payload 2 false (write f v) ≡ false → Letter s
  unfolding bad_flags is_sealed
  plain f v h e t b =
      letter 0 0 (omega arith) (write f v) (record { low = omega arith; of-bytes = written-bytes f v h e t; flagged = refl; shaped = b })

  sealed : (number : ℕ) → number < 4294967296 → (f : Format) (v : Values f) → has_widths f ≡ true → fits f v ≡ true → Typed f v
      → bad_payload 2 true (write f v) ≡ false → Letter s
  unfolding bad_flags is_sealed
  sealed number l f v h e t b =
      letter 6 number l (write f v) (record { low = omega arith; of-bytes = written-bytes f v h e t; flagged = refl; shaped = b })

  -- Nonce, X and Y in a request and in a response; a certificate.
  exchange-fits : (fits connection_request (exchange_values 0 s.exchange) ≡ true) × (fits pending_response (exchange_values 0 s.exchange) ≡ true)
  unfolding fits
  exchange-fits = rw (w.nonce.1, w.x.1, w.y.1) (refl, refl)

  exchange-typed : Typed connection_request (exchange_values 0 s.exchange) × Typed pending_response (exchange_values 0 s.exchange)
  unfolding Typed
  exchange-typed =
      ((omega arith and w.nonce.0 and w.x.0 and w.y.0 and tt), (omega arith and w.nonce.0 and w.x.0 and w.y.0 and tt))

  abbrev shown : ℕ → Values device_authentication
  shown type = 0 and type and s.certificate and [] and tt

  shown-fits : (fits device_authentication (shown 2) ≡ true) × (fits device_authentication (shown 3) ≡ true)
  unfolding fits
  shown-fits =
      let n = length s.certificate in
      rw (le-leb 1 n w.certificate.1.0, le-leb n 2048 w.certificate.1.1) (refl, refl)

  shown_typed : (type : ℕ) → type < 256 → Typed device_authentication (shown type)
  unfolding Typed
  shown_typed type l = omega arith and l and w.certificate.0 and are-bytes [] refl and tt

  -- The request at each place can be written, and the reply.
  pub request : (k : ℕ) → k < 3 → Some s (IsRequest s (request_type k))
  unfolding has_widths fits Typed plain letter sealed
  request =
      let e = exchange-fits.0 in
      let a = can-be-written connection_request (exchange_values 0 s.exchange) e in
      let c = can-be-written device_authentication (shown 2) shown-fits.0 in
      let d = can-be-written done_request (0 and tt) refl in
      three (λ k. Some s (IsRequest s (request_type k)))
      (record {
        letter = plain connection_request (exchange_values 0 s.exchange) refl e exchange-typed.0
            (fields_back.connection-request 0 s.exchange _ a).0;
        is = (refl, connection-request refl 0 a);
      })
      (record {
        letter = sealed 0x80000000 (omega arith) device_authentication (shown 2) refl shown-fits.0 (shown_typed 2 (omega arith))
            (fields_back.device-authentication 2 0 s.certificate [] _ c).0;
        is = (refl, device-request refl 0 [] c);
      })
      (record {
        letter = sealed 0x80000001 (omega arith) done_request (0 and tt) refl refl (omega arith and tt) (fields_back.done-request 0 _ d).0;
        is = (refl, done-request refl 0 d);
      })

  pub reply : (k : ℕ) → k < 3 → Some s (IsReply s s.session (reply_type k))
  unfolding has_widths fits Typed plain letter sealed
  reply =
      let e = exchange-fits.1 in
      let a = can-be-written pending_response (exchange_values 0 s.exchange) e in
      let c = can-be-written device_authentication (shown 3) shown-fits.1 in
      let d = can-be-written done_response (0 and 0 and tt) refl in
      three (λ k. Some s (IsReply s s.session (reply_type k)))
      (record {
        letter = plain pending_response (exchange_values 0 s.exchange) refl e exchange-typed.1
            (fields_back.connection-response 0 1 s.exchange _ a).0;
        is = (refl, connection-response refl 0 s.exchange a);
      })
      (record {
        letter = sealed 0xC0000000 (omega arith) device_authentication (shown 3) refl shown-fits.1 (shown_typed 3 (omega arith))
            (fields_back.device-authentication 3 0 s.certificate [] _ c).0;
        is = (refl, device-response refl 0 s.certificate [] c);
      })
      (record {
        letter = sealed 0xC0000001 (omega arith) done_response (0 and 0 and tt) refl refl (omega arith and omega arith and tt)
            (fields_back.done-response 0 0 _ d).0;
        is = (refl, done-response refl 0 d);
      })

pub sides-exist : SidesExist
sides-exist = (
  record {
    session = omega arith;
    nonce = (are-bytes _ refl, refl);
    x = (are-bytes _ refl, refl);
    y = (are-bytes _ refl, refl);
    certificate = (are-bytes _ refl, (omega arith, omega arith));
    keys = (are-bytes _ refl, refl);
  },
  (refl, refl),
)
