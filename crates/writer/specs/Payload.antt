-- SPDX-License-Identifier: MPL-2.0
-- What the writer of a payload answers and leaves, by its format and the values that it is given; and the values of a Connection Request and
-- of a Connection Response.
use Rattle.std.specs.Prelude.{ℕ, List, [], ◌∷◌, ◌++◌, Bool, true, false, not, length, Result}
use Rattle.payloads.specs.declared.reading.Request.{Request}
use Rattle.payloads.specs.Format.{Format, Values, ◌and◌, fits, write}
use Rattle.payloads.specs.Shapes.{exchange, connection_request, pending_response, other_response}
use Rattle.payloads.specs.Types.{connect_number}
use Rattle.laws.specs.Bytes.{bytes16}
use Rattle.writer.specs.declared.payload.Start.{Start}
use Rattle.writer.specs.Written.{written, output}

-- Values that do not fit their format are refused with 14.
abbrev pub payload_written : (f : Format) → Values f → (out : List ℕ) → Result ℕ ℕ
payload_written f v out = written (not (fits f v)) (length (write f v)) out

-- What the output then holds: the bytes of the format, and after them what stood there.
abbrev pub payload_output : (f : Format) → Values f → (out : List ℕ) → List ℕ
payload_output f v out = output (not (fits f v)) (length (write f v)) (write f v) out

-- Nonce, X and Y.
abbrev pub request_values : Request → Values exchange
request_values r = r.nonce and r.x and r.y and tt

-- Mode, nonce, X and Y.
abbrev pub exchange_values : ℕ → Request → Values connection_request
exchange_values mode r = mode and request_values r

-- The bytes of mode, type and the byte after it.
abbrev pub start_bytes : Start → List ℕ
start_bytes s = bytes16 s.mode ++ (connect_number s.connect ∷ s.code ∷ [])

-- The format of a Connection Response, by whether it is Pending.
abbrev pub response_format : (pending : Bool) → Format
response_format true = pending_response
response_format false = other_response

-- What a Connection Response says: nonce, X and Y only if it is Pending, else its Result.
abbrev pub response_values : (pending : Bool) → (mode result : ℕ) → Request → Values (response_format pending)
response_values true mode result r = exchange_values mode r
response_values false mode result r = mode and result and tt
