-- SPDX-License-Identifier: MPL-2.0
-- The gateway's step: one message, the keys, the working buffer and a verdict, on any connection. "A step of the gateway checks 25; 24; 1 to 9; for
-- sealed messages 10 to 13; 14; 16; 15".
use Rattle.std.specs.Prelude.{ℕ, List, [], ◌∷◌, Bool, eqb}
use Rattle.laws.specs.Rows.{first_row}
use Rattle.wire.specs.Refusals.{not_allowed, other_session}
use Rattle.wire.specs.declared.header.Header.{Header}
use Rattle.payloads.specs.Reading.{connect_type, code_of}
use Rattle.admission.specs.Admission.{another_session, step_by}
use Rattle.gateway.specs.declared.Gateway.{Gateway}
use Rattle.gateway.specs.declared.Stepped.{Stepped}
use Rattle.gateway.specs.Client.{refuse, client}

-- A message that the reader read: 16, "in every state on this side"; then what its type does;
abbrev pub hear_rows : Gateway → Header → List ℕ → ℕ → List (Bool × Stepped)
hear_rows g h payload verdict =
    (another_session h g.session, refuse g other_session)
    ∷ (eqb h.kind 2, client g (connect_type payload) (code_of payload) verdict)
    ∷ []

-- "a Session message is 15 on this side", and so is Discovery.
unfoldable pub hear : Gateway → Header → List ℕ → ℕ → Stepped
hear g h payload verdict = first_row (hear_rows g h payload verdict) (refuse g not_allowed)

-- The next connection and the answer.
unfoldable pub step : Gateway → List ℕ → List ℕ → List ℕ → ℕ → Stepped
step g message keys working verdict = step_by (refuse g) (λ h payload. hear g h payload verdict) g.size verdict message keys working
