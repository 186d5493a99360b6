-- SPDX-License-Identifier: MPL-2.0
-- What is read out of a Connect payload, each at its place.
use Rattle.std.specs.Prelude.{ℕ, ◌+◌, List, cond, length, get_or, ltb}
use Rattle.laws.specs.Bytes.{be16}
use Rattle.payloads.specs.Format.{read}
use Rattle.payloads.specs.Shapes.{connection_request}
use Rattle.payloads.specs.declared.reading.Request.{Request}
use Rattle.payloads.specs.declared.reading.Span.{Span}

-- The ConnectionMode of a Connect payload.
abbrev pub connection_mode : List ℕ → ℕ
connection_mode p = be16 p 0

-- The type byte of a Connect payload; 255 where there is none.
abbrev pub connect_type : List ℕ → ℕ
connect_type p = get_or p 2 255

-- The Result of a Connection Response, the Status of an Authentication Done Response; 255 where there is none.
abbrev pub code_of : List ℕ → ℕ
code_of p = get_or p 3 255

-- Nonce, X and Y: what a Connection Request says after its mode. A Connection Response that is Pending has them at the same places.
unfoldable pub read_request : List ℕ → Request
read_request p =
    let said = (read connection_request p).1 in
    record { nonce = said.0; x = said.1.0; y = said.1.1.0 }

-- The place of the bytes whose number stands before them, at a place; where they do not lie in the payload, the empty place at its start.
abbrev pub sized_at : List ℕ → ℕ → Span
sized_at p at =
    cond (ltb (length p) (at + 2 + be16 p at)) (record { from = 0; size = 0 }) (record { from = at + 2; size = be16 p at })

-- The certificate's place; where it does not lie in the payload, the empty place at its start.
unfoldable pub certificate_of : List ℕ → Span
certificate_of p = sized_at p 3

-- The thumbprint's place, after the certificate; where it does not lie in the payload, the empty place at its start.
unfoldable pub thumbprint_of : List ℕ → Span
thumbprint_of p = sized_at p (5 + be16 p 3)
