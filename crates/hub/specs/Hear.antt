-- SPDX-License-Identifier: MPL-2.0
-- A message that the reader read: what it does to a connection of any kind, and to the report buffer.
use Rattle.std.specs.Prelude.{ℕ, List, [], ◌∷◌, Bool, not, cond, ◌&&◌, eqb}
use Rattle.wire.specs.Refusals.{not_allowed, other_session}
use Rattle.payloads.specs.Reading.{connect_type, read_request, certificate_of}
use Rattle.wire.specs.declared.header.Header.{Header}
use Rattle.sha256.specs.Digests.{digest}
use Rattle.joining.specs.declared.Piece.{Piece}
use Rattle.joining.specs.declared.Joined.{Joined}
use Rattle.joining.specs.declared.Progress.{Progress}
use Rattle.laws.specs.Parts.{part}
use Rattle.laws.specs.Rows.{first_row}
use Rattle.admission.specs.Admission.{another_session}
use Rattle.joining.specs.Join.{join, report_after}
use Rattle.hub.specs.declared.Connection.{Connection}
use Rattle.hub.specs.declared.Stepped.{Stepped}
use Rattle.hub.specs.Answers.{answer_of}
use Rattle.hub.specs.Host.{stepped, refuse, host}

-- The bytes of the certificate of a Device Authentication Request.
abbrev pub certificate : List ℕ → List ℕ
certificate payload = part payload (certificate_of payload).from (certificate_of payload).size

-- A Connect message: what its type does in this state, with the nonce, X and Y or the certificate's SHA-256 that its payload brings.
unfoldable pub connect : Connection → ℕ → List ℕ → ℕ → Stepped
connect c session payload verdict = host c (connect_type payload) session (read_request payload) (digest (certificate payload)) verdict

-- What the header of a Session message says of the piece that it brings.
abbrev pub piece_in : Header → Piece
piece_in h = record { sequence = h.sequence; channel = h.channel; count = h.count; index = h.index }

-- The connection with this progress, all else as it was.
abbrev pub with_progress : Connection → Progress → Connection
with_progress c p =
    record {
      size = c.size;
      state = c.state;
      session = c.session;
      nonce = c.nonce;
      x = c.x;
      y = c.y;
      digest = c.digest;
      progress = p;
    }

-- "State 3, Session: join".
abbrev pub joined : Connection → Joined → Stepped
joined c j = stepped (with_progress c j.progress) (answer_of j.answer)

-- 16: "state not 0 and another SessionID".
abbrev pub is_foreign : Connection → Header → Bool
is_foreign c h = not (eqb c.state 0) && another_session h c.session

-- A Session message in state 3.
abbrev pub joins : Connection → Header → Bool
joins c h = eqb h.kind 4 && eqb c.state 3

-- A message that the reader read: 16, then what its type does, "all else … refusal 15".
unfoldable pub hear : Connection → Header → List ℕ → List ℕ → ℕ → Stepped
hear c h payload report verdict =
    first_row
    ((is_foreign c h, refuse c other_session)
    ∷ (eqb h.kind 2, connect c h.session payload verdict)
    ∷ (joins c h, joined c (join c.size c.progress (piece_in h) payload report))
    ∷ [])
    (refuse c not_allowed)

-- The report buffer after it: only joining writes there.
unfoldable pub report_heard : Connection → Header → List ℕ → List ℕ → List ℕ
report_heard c h payload report =
    cond (not (is_foreign c h) && joins c h) (report_after c.size c.progress (piece_in h) payload report) report
