-- SPDX-License-Identifier: MPL-2.0
-- A Connect payload taken apart: which of the six it is, and where in it what it says stands.
use Rattle.std.specs.Result.{result_unwrap_or}
use Rattle.std.specs.Prelude.{ℕ, List, Bool, true, false, cond, ◌&&◌, ◌||◌, eqb, Result, Ok, Err}
use Rattle.wire.specs.Refusals.{wrong_payload}
use Rattle.payloads.specs.Shapes.{either, bad_payload}
use Rattle.payloads.specs.Reading.{connection_mode, connect_type, code_of, certificate_of, thumbprint_of}
use Rattle.payloads.specs.declared.reading.Span.{Span}
use Rattle.payloads.specs.declared.connect.FoundConnect.{FoundConnect}

-- The empty place at the payload's start.
abbrev pub nowhere : Span
nowhere = record { from = 0; size = 0 }

-- A place where there is one.
abbrev pub span_if : Bool → Span → Span
span_if there span = cond there span nowhere

-- What stands beside a refusal: every number is 0, and every part the empty one at the payload's start.
abbrev pub nothing_connect : FoundConnect
nothing_connect =
    record {
      connect = 0;
      mode = 0;
      code = 0;
      nonce = nowhere;
      x = nowhere;
      y = nowhere;
      certificate = nowhere;
      thumbprint = nowhere;
    }

-- 14: "Discovery or Connect payload not as above", of a Connect payload whether its message is plain or sealed.
abbrev pub not_connect : List ℕ → Bool
not_connect p = bad_payload 2 false p && bad_payload 2 true p

-- Nonce, X and Y stand in a Connection Request (0), and in a Connection Response (1) "if Result is 1 (Pending)".
abbrev pub has_exchange : (connect code : ℕ) → Bool
has_exchange connect code = eqb connect 0 || (eqb connect 1 && eqb code 1)

-- Certificate and thumbprint stand in a Device Authentication Request (2) and Response (3).
abbrev pub has_certificate : ℕ → Bool
has_certificate connect = either 2 3 connect

-- A Result stands in a Connection Response (1), a Status in an Authentication Done Response (7).
abbrev pub has_code : ℕ → Bool
has_code connect = either 1 7 connect

-- What a Connect payload of this type says: only what the type has. The places of nonce, X and Y are those of the format (`ConnectBack`,
-- promises).
abbrev pub said_connect : (connect mode code : ℕ) → (certificate thumbprint : Span) → FoundConnect
said_connect connect mode code certificate thumbprint =
    record {
      connect = connect;
      mode = mode;
      code = cond (has_code connect) code 0;
      nonce = span_if (has_exchange connect code) (record { from = 6; size = 8 });
      x = span_if (has_exchange connect code) (record { from = 20; size = 32 });
      y = span_if (has_exchange connect code) (record { from = 54; size = 32 });
      certificate = span_if (has_certificate connect) certificate;
      thumbprint = span_if (has_certificate connect) thumbprint;
    }

-- A Connect payload taken apart, or refused with 14.
unfoldable pub read_connect : List ℕ → Result FoundConnect ℕ
read_connect p =
    cond (not_connect p) (Err wrong_payload)
    (Ok (said_connect (connect_type p) (connection_mode p) (code_of p) (certificate_of p) (thumbprint_of p)))

-- What an answer says: a refusal says nothing.
abbrev pub connect_told : Result FoundConnect ℕ → FoundConnect
connect_told answer = result_unwrap_or answer nothing_connect
