-- SPDX-License-Identifier: MPL-2.0
-- A2: "Show that this side and a freshly opened hub, each hearing only messages the other wrote, repeated and lost at will, and with verdict 1
-- always, never stand with two different SessionIDs for one request."
use Rattle.std.specs.Prelude.{ℕ, ◌+◌, ◌≤◌, ◌<◌, ◌≡◌, List, [], ◌∷◌, ◌++◌, true, false, cond, ◌||◌, ◌⊎◌, length, replicate, eqb}
use Rattle.laws.specs.Bytes.{AreBytes}
use Rattle.wire.specs.Fields.{is_sealed}
use Rattle.wire.specs.declared.header.Header.{Header}
use Rattle.sha256.specs.Digests.{digest}
use Rattle.payloads.specs.Reading.{connect_type}
use Rattle.payloads.specs.Format.{◌and◌}
use Rattle.payloads.specs.Shapes.{connection_request, pending_response, device_authentication, done_request, done_response}
use Rattle.payloads.specs.declared.reading.Request.{Request}
use Rattle.writer.specs.Payload.{exchange_values}
use Rattle.joining.specs.declared.answer.Said.{Said}
use Rattle.joining.specs.Cut.{bad_size}
use Rattle.admission.specs.Calls.{Call}
use Rattle.hub.specs.Opening.{opened}
use Rattle.hub.specs.Calls.{Standing, after, says}
use Rattle.gateway.specs.declared.Gateway.{Gateway}
use Rattle.gateway.specs.Answers.{due_in, due_number}
use Rattle.gateway.specs.Opening as opening
use Rattle.gateway.specs.Calls as gateway
use Rattle.promises.specs.Written.{Wrote, LongEnough}
use Rattle.promises.specs.Fields.{WrotePayload}

-- What is fixed of two sides: the fragment size that each is opened with; "the SessionID its request carries", its nonce, X and Y, and the
-- certificate that the gateway shows; the keys of both.
pub record Sides : Type 0 where
  pub hub_size : ℕ
  pub gateway_size : ℕ
  pub session : ℕ
  pub exchange : Request
  pub certificate : List ℕ
  pub keys : List ℕ

-- A Connect message that a side has written, by the writer, with any RequestID, numbers, flags and chain.
pub record Letter (s : Sides) : Type 0 where
  pub header : Header
  pub chain : List ℕ
  pub payload : List ℕ
  pub message : List ℕ
  pub kind : header.kind ≡ 2
  pub written : Wrote header chain payload s.keys message

-- The payload of the gateway's request of a type: the same nonce, X and Y each time, the same certificate; mode and thumbprint are any.
pub data Asks (s : Sides) (type : ℕ) (p : List ℕ) : Type 0 where
  connection-request : type ≡ 0 → (mode : ℕ) → WrotePayload connection_request (exchange_values mode s.exchange) p → Asks s type p
  device-request : type ≡ 2 → (mode : ℕ) (thumbprint : List ℕ)
      → WrotePayload device_authentication (mode and 2 and s.certificate and thumbprint and tt) p → Asks s type p
  done-request : type ≡ 6 → (mode : ℕ) → WrotePayload done_request (mode and tt) p → Asks s type p

-- The payload of the hub's reply of a type: Result Pending, Status 0; nonce, X and Y, certificate, mode and thumbprint are any.
pub data Replies (type : ℕ) (p : List ℕ) : Type 0 where
  connection-response : type ≡ 1 → (mode : ℕ) (own : Request) → WrotePayload pending_response (exchange_values mode own) p → Replies type p
  device-response : type ≡ 3 → (mode : ℕ) (certificate thumbprint : List ℕ)
      → WrotePayload device_authentication (mode and 3 and certificate and thumbprint and tt) p → Replies type p
  done-response : type ≡ 7 → (mode : ℕ) → WrotePayload done_response (mode and 0 and tt) p → Replies type p

-- A letter is the gateway's request of a type, with its SessionID; or the hub's reply of a type, with this SessionID.
abbrev pub IsRequest : (s : Sides) → ℕ → Letter s → Type 0
IsRequest s type l = (l.header.session ≡ s.session) × Asks s type l.payload

abbrev pub IsReply : (s : Sides) → (session type : ℕ) → Letter s → Type 0
IsReply s session type l = (l.header.session ≡ session) × Replies type l.payload

-- For each type a letter of that type.
abbrev pub Each : {s : Sides} → (ℕ → Letter s → Type 0) → List ℕ → List (Letter s) → Type 0
Each is [] [] = Unit {0}
Each is [] (l ∷ ls) = ⊥
Each is (t ∷ ts) [] = ⊥
Each is (t ∷ ts) (l ∷ ls) = is t l × Each is ts ls

-- The type of the reply that the hub's answer names: Reply, kind 1, and Again, kind 2.
abbrev pub named : Said → List ℕ
named a = cond (eqb a.kind 1 || eqb a.kind 2) (a.value ∷ []) []

-- The type of a request that is due, by its number; 256 is none.
abbrev pub due_types : ℕ → List ℕ
due_types n = cond (eqb n 256) [] (n ∷ [])

-- The type of the request that the gateway's answer names: next, kind 7, and Again, kind 2, unless nothing is to be sent.
abbrev pub asked : Said → List ℕ
asked a = cond (eqb a.kind 7 || eqb a.kind 2) (due_types a.value) []

-- Where the two sides stand, and what each has written so far.
pub record Moment (s : Sides) : Type 0 where
  pub hub : Standing
  pub gateway : Gateway
  pub requests : List (Letter s)
  pub replies : List (Letter s)

-- "a freshly opened hub", and a gateway opened with its F and SessionID; the request that is due is written, and no reply.
pub record Begins (s : Sides) (p : Moment s) : Type 0 where
  pub hub : opened s.hub_size ≡ record { refusal = 0; connection = p.hub.connection }
  pub gateway : opening.opened s.gateway_size s.session ≡ record { refusal = 0; gateway = p.gateway }
  pub requests : Each (IsRequest s) (due_types (due_number (due_in p.gateway.state))) p.requests
  pub replies : p.replies ≡ []

-- A letter is one of a list.
abbrev pub OneOf : {s : Sides} → Letter s → List (Letter s) → Type 0
OneOf l [] = ⊥
OneOf l (k ∷ ks) = (k ≡ l) ⊎ OneOf l ks

-- A call that gives a step the message of a letter and a working buffer that is long enough; the keys, if the letter is sealed (a plain one looks at
-- none, and none need be agreed on yet); "and with verdict 1 always" on a certificate that is shown, types 2 and 3 (no other letter looks at it).
pub record Given (s : Sides) (l : Letter s) (x : Call) : Type 0 where
  pub message : x.message ≡ l.message
  pub room : LongEnough l.header l.payload x.working
  pub keys : is_sealed l.header.flags ≡ true → x.keys ≡ s.keys
  pub verdict : x.verdict ≤ 1
  pub accepted : (connect_type l.payload ≡ 2) ⊎ (connect_type l.payload ≡ 3) → x.verdict ≡ 1

-- What happens: one side hears a letter that the other has written so far, old or new, and writes what its answer names; or the gateway's side
-- writes the request that is due once more. A letter that is not heard is lost, one that is heard twice is repeated.
pub data Happens (s : Sides) : Moment s → Moment s → Type 0 where
  hub-hears : {p : Moment s} (l : Letter s) (x : Call) (new : List (Letter s)) → OneOf l p.requests → Given s l x
      → Each (IsReply s (after p.hub x).connection.session) (named (says p.hub x)) new
      → Happens s p (record { hub = after p.hub x; gateway = p.gateway; requests = p.requests; replies = new ++ p.replies })
  gateway-hears : {p : Moment s} (l : Letter s) (x : Call) (new : List (Letter s)) → OneOf l p.replies → Given s l x
      → Each (IsRequest s) (asked (gateway.says p.gateway x)) new
      → Happens s p (record { hub = p.hub; gateway = gateway.after p.gateway x; requests = new ++ p.requests; replies = p.replies })
  gateway-writes : {p : Moment s} (new : List (Letter s)) → Each (IsRequest s) (due_types (due_number (due_in p.gateway.state))) new
      → Happens s p (record { hub = p.hub; gateway = p.gateway; requests = new ++ p.requests; replies = p.replies })

-- n events, one after the other.
pub data Run (s : Sides) : ℕ → Moment s → Moment s → Type 0 where
  stays : {p : Moment s} → Run s 0 p p
  goes : {n : ℕ} {p q r : Moment s} → Happens s p q → Run s n q r → Run s (n + 1) p r

-- What holds at a moment.
pub record Agreed (s : Sides) (p : Moment s) : Type 0 where
  -- "never stand with two different SessionIDs for one request": the hub waits for a request, or remembers the gateway's SessionID,
  pub one-session : (p.hub.connection.state ≡ 0) ⊎ (p.hub.connection.session ≡ p.gateway.session)
  -- which is the one that it was opened with.
  pub keeps : p.gateway.session ≡ s.session
  -- From state 1 on nonce, X and Y are the gateway's: the hub takes no second request for a stranger.
  pub no-stranger : 1 ≤ p.hub.connection.state
      → (p.hub.connection.nonce ≡ s.exchange.nonce) × (p.hub.connection.x ≡ s.exchange.x) × (p.hub.connection.y ≡ s.exchange.y)
  -- From state 2 on the certificate's digest is that of the gateway's.
  pub certified : 2 ≤ p.hub.connection.state → p.hub.connection.digest ≡ digest s.certificate
  -- Neither side is Failed,
  pub going : (p.hub.connection.state ≤ 3) × (p.gateway.state ≤ 3)
  -- and neither would refuse anything that the other has written.
  pub hub-takes : (l : Letter s) (x : Call) → OneOf l p.requests → Given s l x → (says p.hub x).refusal ≡ 0
  pub gateway-takes : (l : Letter s) (x : Call) → OneOf l p.replies → Given s l x → (gateway.says p.gateway x).refusal ≡ 0

-- At every moment of every run.
abbrev pub OneSession : Type 0
OneSession = (s : Sides) (n : ℕ) (p q : Moment s) → Begins s p → Run s n p q → Agreed s q

-- What the types of the calls say of the two sides; 64 key bytes, and a certificate that document 01 lets a message carry.
pub record Writable (s : Sides) : Type 0 where
  pub session : s.session < 18446744073709551616
  pub nonce : AreBytes s.exchange.nonce × (length s.exchange.nonce ≡ 8)
  pub x : AreBytes s.exchange.x × (length s.exchange.x ≡ 32)
  pub y : AreBytes s.exchange.y × (length s.exchange.y ≡ 32)
  pub certificate : AreBytes s.certificate × ((1 ≤ length s.certificate) × (length s.certificate ≤ 2048))
  pub keys : AreBytes s.keys × (length s.keys ≡ 64)

-- A run of at most `most` events after which both are Ready.
pub record EndsReady (s : Sides) (most : ℕ) (p : Moment s) : Type 0 where
  pub events : ℕ
  pub few : events ≤ most
  pub last : Moment s
  pub run : Run s events p last
  pub ready : (last.hub.connection.state ≡ 3) × (last.gateway.state ≡ 3)

-- Losses cannot wedge them: from every moment of every run there is such a run of at most six.
abbrev pub NeverWedged : Type 0
NeverWedged = (s : Sides) → Writable s → (n : ℕ) (p q : Moment s) → Begins s p → Run s n p q → EndsReady s 6 q

-- A moment at which the two sides begin.
pub record Beginning (s : Sides) (report : List ℕ) : Type 0 where
  pub moment : Moment s
  pub begins : Begins s moment
  pub lent : moment.hub.report ≡ report

-- There is one, for all sides that can be written, with any report buffer.
abbrev pub CanBegin : Type 0
CanBegin =
    (s : Sides) → Writable s → bad_size s.hub_size ≡ false → bad_size s.gateway_size ≡ false → (report : List ℕ) → Beginning s report

-- There are such sides: a SessionID of 7, zeros as nonce, X, Y and keys, a certificate of one byte, the least F and the largest.
abbrev pub plain_sides : Sides
plain_sides =
    record {
      hub_size = 1;
      gateway_size = 16384;
      session = 7;
      exchange = record { nonce = replicate 8 0; x = replicate 32 0; y = replicate 32 0 };
      certificate = 5 ∷ [];
      keys = replicate 64 0;
    }

abbrev pub SidesExist : Type 0
SidesExist = Writable plain_sides × ((bad_size plain_sides.hub_size ≡ false) × (bad_size plain_sides.gateway_size ≡ false))
