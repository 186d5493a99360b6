-- SPDX-License-Identifier: MPL-2.0
-- The host's states: 0 waiting for a request, 1 waiting for authentication, 2 passed, 3 Ready, 4 Failed; and what a Connect message does in each.
use Rattle.std.specs.Prelude.{ℕ, List, [], ◌∷◌, ◌++◌, Bool, ◌&&◌, eqb, leb}
use Rattle.laws.specs.Rows.{first_row}
use Rattle.laws.specs.Same.{same}
use Rattle.wire.specs.Refusals.{not_allowed}
use Rattle.payloads.specs.declared.reading.Request.{Request}
use Rattle.hub.specs.declared.Connection.{Connection}
use Rattle.hub.specs.declared.Stepped.{Stepped}
use Rattle.hub.specs.declared.Answer.{Answer}
use Rattle.hub.specs.declared.Answer.TheVariants.{Refused, Reply, Again, Failure}

-- A step's connection and answer.
abbrev pub stepped : Connection → Answer → Stepped
stepped c a = record { connection = c; answer = a }

-- "Every refusal leaves connection … alone."
abbrev pub refuse : Connection → ℕ → Stepped
refuse c n = stepped c (Refused n)

-- "remember SessionID, nonce, X, Y; go to 1"
abbrev pub requested : Connection → ℕ → Request → Connection
requested c session r =
    record {
      size = c.size;
      state = 1;
      session = session;
      nonce = r.nonce;
      x = r.x;
      y = r.y;
      digest = c.digest;
      progress = c.progress;
    }

-- "remember the SHA-256 of the certificate", and go to a state
abbrev pub with_digest_and_state : Connection → List ℕ → ℕ → Connection
with_digest_and_state c digest state =
    record {
      size = c.size;
      state = state;
      session = c.session;
      nonce = c.nonce;
      x = c.x;
      y = c.y;
      digest = digest;
      progress = c.progress;
    }

-- "with the same nonce, X and Y"
abbrev pub knows : Connection → Request → Bool
knows c r = same c.nonce r.nonce && same c.x r.x && same c.y r.y

-- One of the states from a to b.
abbrev pub in_states : ℕ → ℕ → Connection → Bool
in_states a b c = leb a c.state && leb c.state b

-- What a Connect message does, sentence by sentence of "Host states"; the rows exclude each other. A Connection Request, type 0:
abbrev pub request_rows : Connection → ℕ → Request → List (Bool × Stepped)
request_rows c session r =
    -- State 0, type 0: remember SessionID, nonce, X, Y; go to 1; reply Connection Response.
    (eqb c.state 0, stepped (requested c session r) (Reply 1))
    -- States 1 to 3, type 0 with the same nonce, X and Y: Again, same reply.
    ∷ (in_states 1 3 c && knows c r, stepped c (Again 1))
    ∷ []

-- A Device Authentication Request, type 2:
abbrev pub device_rows : Connection → List ℕ → ℕ → List (Bool × Stepped)
device_rows c digest verdict =
    -- State 1, type 2: remember the SHA-256 of the certificate; verdict 1 goes to 2 and replies type 3,
    (eqb c.state 1 && eqb verdict 1, stepped (with_digest_and_state c digest 2) (Reply 3))
    -- verdict 0 goes to 4 and names Failure.
    ∷ (eqb c.state 1 && eqb verdict 0, stepped (with_digest_and_state c digest 4) Failure)
    -- States 2 and 3, type 2 with the same certificate digest: Again, reply type 3, whatever the verdict.
    ∷ (in_states 2 3 c && same c.digest digest, stepped c (Again 3))
    ∷ []

-- An Authentication Done Request, type 6:
abbrev pub done_rows : Connection → List (Bool × Stepped)
done_rows c =
    -- State 2, type 6: go to 3, reply type 7 with Status 0.
    (eqb c.state 2, stepped (with_digest_and_state c c.digest 3) (Reply 7))
    -- State 3, type 6: Again, same reply.
    ∷ (eqb c.state 3, stepped c (Again 7))
    ∷ []

-- Rows of one Connect type, which apply to a message of that type alone.
abbrev pub rows_of_type : ℕ → ℕ → List (Bool × Stepped) → List (Bool × Stepped)
rows_of_type type own [] = []
rows_of_type type own (row ∷ rows) = (eqb type own && row.0, row.1) ∷ rows_of_type type own rows

-- All of them.
abbrev pub host_rows : Connection → ℕ → ℕ → Request → List ℕ → ℕ → List (Bool × Stepped)
host_rows c type session r digest verdict =
    rows_of_type type 0 (request_rows c session r) ++ (rows_of_type type 2 (device_rows c digest verdict) ++ rows_of_type type 6 (done_rows c))

-- What rows of this connection do, the first that applies; "All else, and all of state 4: refusal 15."
abbrev pub hosted : Connection → List (Bool × Stepped) → Stepped
hosted c rows = first_row rows (refuse c not_allowed)

-- What a Connect message does.
unfoldable pub host : Connection → ℕ → ℕ → Request → List ℕ → ℕ → Stepped
host c type session r digest verdict = hosted c (host_rows c type session r digest verdict)
