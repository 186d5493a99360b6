-- SPDX-License-Identifier: MPL-2.0
-- Demand 2, a Connect payload taken apart: what a writer wrote reads back, and what is named lies in the payload.
use Rattle.std.specs.Prelude.{ℕ, ◌+◌, ◌≤◌, ◌≡◌, List, length, eqb, Result}
use Rattle.laws.specs.Rows.{refusal_in}
use Rattle.payloads.specs.Format.{◌and◌}
use Rattle.payloads.specs.Shapes.{connection_request, device_authentication, done_request, done_response}
use Rattle.payloads.specs.Connect.{nowhere, read_connect, connect_told}
use Rattle.payloads.specs.declared.connect.FoundConnect.{FoundConnect}
use Rattle.payloads.specs.declared.reading.Request.{Request}
use Rattle.payloads.specs.declared.reading.Span.{Span}
use Rattle.writer.specs.Payload.{exchange_values, response_format, response_values}
use Rattle.promises.specs.Fields.{WrotePayload, span_of}

-- It is a Connect payload of type t, with mode m and Result or Status s.
pub record Names (answer : Result FoundConnect ℕ) (t m s : ℕ) : Type 0 where
  pub accepted : refusal_in answer ≡ 0
  pub connect : (connect_told answer).connect ≡ t
  pub mode : (connect_told answer).mode ≡ m
  pub code : (connect_told answer).code ≡ s

-- The parts that it names are nonce, X and Y.
pub record NamesExchange (p : List ℕ) (f : FoundConnect) (r : Request) : Type 0 where
  pub nonce : span_of p f.nonce ≡ r.nonce
  pub x : span_of p f.x ≡ r.x
  pub y : span_of p f.y ≡ r.y

-- It names no nonce, X and Y.
pub record NoExchange (f : FoundConnect) : Type 0 where
  pub nonce : f.nonce ≡ nowhere
  pub x : f.x ≡ nowhere
  pub y : f.y ≡ nowhere

-- It names no certificate and no thumbprint.
pub record NoCertificate (f : FoundConnect) : Type 0 where
  pub certificate : f.certificate ≡ nowhere
  pub thumbprint : f.thumbprint ≡ nowhere

-- "What is written reads back": what each payload writer wrote is taken apart into what it was given and nothing more, one row a payload.
pub record ConnectBack : Type 0 where
  -- "0 Connection Request"
  pub connection-request : (mode : ℕ) (r : Request) (p : List ℕ) → WrotePayload connection_request (exchange_values mode r) p
      → Names (read_connect p) 0 mode 0 × NamesExchange p (connect_told (read_connect p)) r × NoCertificate (connect_told (read_connect p))
  -- "1 Connection Response", with nonce, X and Y "if Result is 1 (Pending)"
  pub connection-response : (mode result : ℕ) (r : Request) (p : List ℕ)
      → WrotePayload (response_format (eqb result 1)) (response_values (eqb result 1) mode result r) p
      → Names (read_connect p) 1 mode result × (result ≡ 1 → NamesExchange p (connect_told (read_connect p)) r)
      × ((result ≡ 1 → ⊥) → NoExchange (connect_told (read_connect p))) × NoCertificate (connect_told (read_connect p))
  -- "2 and 3 Device Authentication Request and Response"
  pub device-authentication : (connect mode : ℕ) (certificate thumbprint p : List ℕ)
      → WrotePayload device_authentication (mode and connect and certificate and thumbprint and tt) p
      → Names (read_connect p) connect mode 0 × (span_of p (connect_told (read_connect p)).certificate ≡ certificate)
      × (span_of p (connect_told (read_connect p)).thumbprint ≡ thumbprint) × NoExchange (connect_told (read_connect p))
  -- "6 Authentication Done Request"
  pub done-request : (mode : ℕ) (p : List ℕ) → WrotePayload done_request (mode and tt) p
      → Names (read_connect p) 6 mode 0 × NoExchange (connect_told (read_connect p)) × NoCertificate (connect_told (read_connect p))
  -- "7 Authentication Done Response"
  pub done-response : (mode status : ℕ) (p : List ℕ) → WrotePayload done_response (mode and status and tt) p
      → Names (read_connect p) 7 mode status × NoExchange (connect_told (read_connect p)) × NoCertificate (connect_told (read_connect p))

-- A part lies in a payload.
abbrev pub Lies : List ℕ → Span → Type 0
Lies p s = s.from + s.size ≤ length p

-- Each part that is named lies in the payload.
pub record PartsLie (p : List ℕ) (f : FoundConnect) : Type 0 where
  pub nonce : Lies p f.nonce
  pub x : Lies p f.x
  pub y : Lies p f.y
  pub certificate : Lies p f.certificate
  pub thumbprint : Lies p f.thumbprint

-- So it is whatever the payload: whoever looks at a part reads nothing but the payload.
abbrev pub ConnectLies : Type 0
ConnectLies = (p : List ℕ) → PartsLie p (connect_told (read_connect p))
