-- SPDX-License-Identifier: MPL-2.0
-- The gateway's states: 0 waiting for the Connection Response, 1 and 2 waiting for authentication (1 for type 3, 2 for type 7), 3 Ready, 4 Failed;
-- and what a Connect message does in each.
use Rattle.std.specs.Prelude.{ℕ, ◌+◌, List, [], ◌∷◌, Bool, not, ◌&&◌, ◌||◌, eqb, ltb, Option, Some, None}
use Rattle.laws.specs.Rows.{first_row}
use Rattle.wire.specs.Refusals.{not_allowed}
use Rattle.gateway.specs.declared.Gateway.{Gateway}
use Rattle.gateway.specs.declared.Stepped.{Stepped}
use Rattle.gateway.specs.declared.Answer.{Answer}
use Rattle.gateway.specs.declared.Answer.TheVariants.{Refused, Next, Ready, Failed, Again}

-- A step's connection and answer.
abbrev pub stepped : Gateway → Answer → Stepped
stepped g a = record { gateway = g; answer = a }

-- "Every refusal leaves connection … alone."
abbrev pub refuse : Gateway → ℕ → Stepped
refuse g n = stepped g (Refused n)

-- F and SessionID are kept.
abbrev pub in_state : Gateway → ℕ → Gateway
in_state g state = record { size = g.size; state = state; session = g.session }

-- "Type 1 with another Result than Pending, type 7 with another Status than 0, type 3 with verdict 0"
abbrev pub fails : (type code verdict : ℕ) → Bool
fails type code verdict = (eqb type 1 && not (eqb code 1)) || (eqb type 7 && not (eqb code 0)) || (eqb type 3 && eqb verdict 0)

-- A reply that is awaited in one state: "It takes" it there; "else a type already taken gives Again, another order 15".
abbrev pub replied_rows : Gateway → (awaited : ℕ) → Answer → Option ℕ → List (Bool × Stepped)
replied_rows g awaited answer due =
    (eqb g.state awaited, stepped (in_state g (awaited + 1)) answer)
    ∷ (ltb awaited g.state, stepped g (Again due))
    ∷ []

abbrev pub replied : Gateway → (awaited : ℕ) → Answer → Option ℕ → Stepped
replied g awaited answer due = first_row (replied_rows g awaited answer due) (refuse g not_allowed)

-- A reply by which the enrolment does not fail:
abbrev pub take_rows : Gateway → ℕ → List (Bool × Stepped)
take_rows g type =
    -- State 0, type 1: go to 1, next 2. States 1 to 3, type 1: Again, 2.
    (eqb type 1, replied g 0 (Next 2) (Some 2))
    -- State 1, type 3: go to 2, next 6. States 2 and 3, type 3: Again, 6.
    ∷ (eqb type 3, replied g 1 (Next 6) (Some 6))
    -- State 2, type 7: go to 3, answer Ready. State 3, type 7: Again, nothing to send.
    ∷ (eqb type 7, replied g 2 Ready None)
    ∷ []

-- All else: refusal 15.
unfoldable pub take : Gateway → ℕ → Stepped
take g type = first_row (take_rows g type) (refuse g not_allowed)

-- What a Connect message does, by its type, its Result or Status and the verdict:
abbrev pub client_rows : Gateway → (type code verdict : ℕ) → List (Bool × Stepped)
client_rows g type code verdict =
    -- State 4, and a number that is no state: refusal 15.
    (ltb 3 g.state, refuse g not_allowed)
    -- Type 1 with another Result than Pending, type 7 with another Status than 0, type 3 with verdict 0: go to 4, answer Failed.
    ∷ (fails type code verdict, stepped (in_state g 4) Failed)
    ∷ []

unfoldable pub client : Gateway → (type code verdict : ℕ) → Stepped
client g type code verdict = first_row (client_rows g type code verdict) (take g type)
