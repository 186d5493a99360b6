-- SPDX-License-Identifier: MPL-2.0
-- Demand 2, "each step's answer and next connection by state": "Host states" of document 01, sentence by sentence, in its numbers and values, of
-- the step that runs.
use Rattle.std.specs.Prelude.{ℕ, ◌≤◌, ◌≡◌, false}
use Rattle.payloads.specs.Reading.{read_request}
use Rattle.sha256.specs.Digests.{digest}
use Rattle.joining.specs.declared.answer.Said.{Said}
use Rattle.joining.specs.Answers.{refused, arrived}
use Rattle.joining.specs.Cut.{bad_size}
use Rattle.joining.specs.Join.{join}
use Rattle.hub.specs.declared.Connection.{Connection}
use Rattle.hub.specs.Answers.{reply, again, failure}
use Rattle.hub.specs.Host.{requested, with_digest_and_state}
use Rattle.hub.specs.Hear.{certificate, piece_in, with_progress, is_foreign}
use Rattle.admission.specs.Calls.{Call}
use Rattle.hub.specs.Calls.{Standing, says, after}
use Rattle.promises.specs.Enrolment.{Content, IsConnect}

-- A call that comes as far as the states: the reader reads its message, and neither 25 nor 24 nor 16 applies.
pub record Admitted (p : Standing) (x : Call) : Type 0 where
  pub content : Content x
  pub verdict : x.verdict ≤ 1
  pub size : bad_size p.connection.size ≡ false
  pub own : is_foreign p.connection content.header ≡ false

-- The step says this, and leaves this connection.
abbrev pub Does : Standing → Call → Said → Connection → Type 0
Does p x s c = (says p x ≡ s) × ((after p x).connection ≡ c)

-- What the step does, one field a sentence.
pub record HostStates (p : Standing) (x : Call) (k : Content x) : Type 0 where
  -- "State 0, type 0: remember SessionID, nonce, X, Y; go to 1; reply Connection Response."
  pub request : IsConnect k 0 → p.connection.state ≡ 0
      → Does p x (reply 1) (requested p.connection k.header.session (read_request k.payload))
  -- "States 1 to 3, type 0 with the same nonce, X and Y: Again, same reply."
  pub request-again : IsConnect k 0 → 1 ≤ p.connection.state → p.connection.state ≤ 3 → p.connection.nonce ≡ (read_request k.payload).nonce
      → p.connection.x ≡ (read_request k.payload).x → p.connection.y ≡ (read_request k.payload).y → Does p x (again 1) p.connection
  -- "State 1, type 2: remember the SHA-256 of the certificate; verdict 1 goes to 2 and replies type 3,"
  pub passed : IsConnect k 2 → p.connection.state ≡ 1 → x.verdict ≡ 1
      → Does p x (reply 3) (with_digest_and_state p.connection (digest (certificate k.payload)) 2)
  -- "verdict 0 goes to 4 and names Failure"
  pub failed : IsConnect k 2 → p.connection.state ≡ 1 → x.verdict ≡ 0
      → Does p x failure (with_digest_and_state p.connection (digest (certificate k.payload)) 4)
  -- "States 2 and 3, type 2 with the same certificate digest: Again, reply type 3, whatever the verdict."
  pub passed-again : IsConnect k 2 → 2 ≤ p.connection.state → p.connection.state ≤ 3
      → p.connection.digest ≡ digest (certificate k.payload) → Does p x (again 3) p.connection
  -- "State 2, type 6: go to 3, reply type 7 with Status 0."
  pub done : IsConnect k 6 → p.connection.state ≡ 2 → Does p x (reply 7) (with_digest_and_state p.connection p.connection.digest 3)
  -- "State 3, type 6: Again, same reply."
  pub done-again : IsConnect k 6 → p.connection.state ≡ 3 → Does p x (again 7) p.connection
  -- "State 3, Session: join, below."
  pub session : k.header.kind ≡ 4 → p.connection.state ≡ 3
      → let j = join p.connection.size p.connection.progress (piece_in k.header) k.payload p.report in
      Does p x (arrived j.answer) (with_progress p.connection j.progress)
  -- "All else, and all of state 4: refusal 15." Another Connection Request, another certificate;
  pub another-request : IsConnect k 0 → 1 ≤ p.connection.state
      → ((p.connection.nonce ≡ (read_request k.payload).nonce) × (p.connection.x ≡ (read_request k.payload).x)
      × (p.connection.y ≡ (read_request k.payload).y) → ⊥)
      → Does p x (refused 15) p.connection
  pub another-certificate : IsConnect k 2 → 2 ≤ p.connection.state → (p.connection.digest ≡ digest (certificate k.payload) → ⊥)
      → Does p x (refused 15) p.connection
  -- types 2 and 6 and Session before their states;
  pub device-early : IsConnect k 2 → p.connection.state ≡ 0 → Does p x (refused 15) p.connection
  pub done-early : IsConnect k 6 → p.connection.state ≤ 1 → Does p x (refused 15) p.connection
  pub session-early : k.header.kind ≡ 4 → p.connection.state ≤ 2 → Does p x (refused 15) p.connection
  -- every other Connect type, the replies among them, and Discovery;
  pub other-type : (t : ℕ) → IsConnect k t → (t ≡ 0 → ⊥) → (t ≡ 2 → ⊥) → (t ≡ 6 → ⊥) → Does p x (refused 15) p.connection
  pub discovery : k.header.kind ≡ 1 → Does p x (refused 15) p.connection
  -- state 4, and a number that is no state.
  pub ended : 4 ≤ p.connection.state → Does p x (refused 15) p.connection

-- Of every call that comes so far.
abbrev pub ByHostStates : Type 0
ByHostStates = (p : Standing) (x : Call) (h : Admitted p x) → HostStates p x h.content
