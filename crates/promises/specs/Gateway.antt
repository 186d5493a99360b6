-- SPDX-License-Identifier: MPL-2.0
-- A2, "The gateway's side": opening, refusals, and "Gateway states" of document 01, sentence by sentence, of the step that runs; the request that is
-- due; and that equal fields make equal bytes.
use Rattle.std.specs.Prelude.{ℕ, ◌≤◌, ◌≡◌, List, [], ◌∷◌, ◌++◌, Bool, false, not, ◌&&◌, ◌||◌, ◌⊎◌, length, eqb, leb, Option, Some, None}
use Rattle.laws.specs.Bytes.{AreBytes}
use Rattle.laws.specs.Rows.{leads, quiet}
use Rattle.wire.specs.Reader.{header_of}
use Rattle.wire.specs.declared.header.Header.{Header}
use Rattle.payloads.specs.Format.{Format, Values}
use Rattle.payloads.specs.Reading.{connect_type, code_of}
use Rattle.joining.specs.declared.answer.Said.{Said}
use Rattle.joining.specs.Answers.{refused}
use Rattle.joining.specs.Cut.{bad_size}
use Rattle.admission.specs.Admission.{another_session}
use Rattle.admission.specs.Calls.{Call}
use Rattle.gateway.specs.declared.Gateway.{Gateway}
use Rattle.gateway.specs.declared.Opened.{Opened}
use Rattle.gateway.specs.Answers.{due_in, next, now_ready, now_failed, again, said}
use Rattle.gateway.specs.Opening.{waiting, opened}
use Rattle.gateway.specs.Client.{in_state, fails}
use Rattle.gateway.specs.Step.{step}
use Rattle.gateway.specs.Calls.{after, says}
use Rattle.promises.specs.Refusals.{◌⇔◌, open_table, ready_table, reader_table, handed_out}
use Rattle.promises.specs.Written.{Wrote}
use Rattle.promises.specs.Fields.{WrotePayload}
use Rattle.promises.specs.Enrolment.{Content, IsConnect}

-- What the opener answers where it refuses with n: "the connection answered is then all zero, F too, on the gateway's side also the SessionID (A2)".
abbrev pub not_opened : ℕ → Opened
not_opened n = record { refusal = n; gateway = waiting 0 0 }

-- "It is opened with F and the SessionID its request carries, and keeps both": 24 exactly when, and else state 0, whatever the SessionID.
pub record GatewayOpens (F session : ℕ) : Type 0 where
  pub exact : (n : ℕ) → (opened F session ≡ not_opened n) ⇔ leads n (open_table F)
  pub keeps : quiet (open_table F) → opened F session ≡ record { refusal = 0; gateway = record { size = F; state = 0; session = session } }

-- The reply of this type is awaited, or taken before: type 1 in every state, 3 from state 1 on, 7 from state 2 on.
abbrev pub has_come : Gateway → ℕ → Bool
has_come g type = eqb type 1 || (eqb type 3 && leb 1 g.state) || (eqb type 7 && leb 2 g.state)

module _ (g : Gateway) (h : Header) (payload : List ℕ) (verdict : ℕ) where
  -- A line of "Gateway states" takes the message: it is Connect, the state none after 3, and by the reply the enrolment fails, or the reply has come.
  abbrev pub replies : Bool
  replies =
      eqb h.kind 2 && leb g.state 3 && (fails (connect_type payload) (code_of payload) verdict || has_come g (connect_type payload))

  -- What follows 14 in a step of the gateway: "16; 15". "16 in every state on this side"; "Discovery skips 16."
  abbrev pub client_table : List (ℕ × Bool)
  client_table =
      -- on the gateway's side another SessionID in every state
      (16, another_session h g.session)
      -- message not allowed in this state, by role
      ∷ (15, not replies)
      ∷ []

module _ (g : Gateway) (m keys working : List ℕ) (verdict : ℕ) where
  -- "A step of the gateway checks 25; 24; 1 to 9; for sealed messages 10 to 13; 14; 16; 15"
  abbrev pub gateway_table : List (ℕ × Bool)
  gateway_table =
      ready_table g.size verdict ++ (reader_table m keys (length working) ++ client_table g (header_of m) (handed_out m keys working) verdict)

  -- The gateway's step: "Given exactly when". What the working buffer then holds is `WorkingBuffer`, in both roles.
  abbrev pub GatewayExact : Type 0
  GatewayExact = (n : ℕ) → AreBytes m → (said (step g m keys working verdict).answer ≡ refused n) ⇔ leads n gateway_table

-- A call that comes as far as the states: the reader reads its message, and neither 25 nor 24 nor 16 applies.
pub record Admitted (g : Gateway) (x : Call) : Type 0 where
  pub content : Content x
  pub verdict : x.verdict ≤ 1
  pub size : bad_size g.size ≡ false
  pub own : another_session content.header g.session ≡ false

-- The step says this, and leaves this connection.
abbrev pub Does : Gateway → Call → Said → Gateway → Type 0
Does g x s next = (says g x ≡ s) × (after g x ≡ next)

-- The message is a Connect message of this type and Result or Status.
abbrev pub IsCoded : {x : Call} → Content x → (type code : ℕ) → Type 0
IsCoded k type code = IsConnect k type × (code_of k.payload ≡ code)

-- The replies by which an enrolment goes on: "type 1 (Pending …)", "3" with verdict 1, "7 (Status 0 …)".
abbrev pub Pending : {x : Call} → Content x → Type 0
Pending k = IsCoded k 1 1

abbrev pub Accepted : {x : Call} → Content x → Type 0
Accepted {x} k = IsConnect k 3 × (x.verdict ≡ 1)

abbrev pub Done : {x : Call} → Content x → Type 0
Done k = IsCoded k 7 0

-- What the step does, one field a sentence.
pub record GatewayStates (g : Gateway) (x : Call) (k : Content x) : Type 0 where
  -- "Failed, where all is 15", and what is no state.
  pub failed : 4 ≤ g.state → Does g x (refused 15) g
  -- "Another Result … gives Failed",
  pub other_result : (r : ℕ) → IsCoded k 1 r → (r ≡ 1 → ⊥) → g.state ≤ 3 → Does g x now_failed (in_state g 4)
  -- "or Status",
  pub other-status : (s : ℕ) → IsCoded k 7 s → (s ≡ 0 → ⊥) → g.state ≤ 3 → Does g x now_failed (in_state g 4)
  -- "or verdict 0 on type 3".
  pub not-accepted : IsConnect k 3 → x.verdict ≡ 0 → g.state ≤ 3 → Does g x now_failed (in_state g 4)
  -- "It takes type 1 (Pending: next 2),"
  pub response : Pending k → g.state ≡ 0 → Does g x (next 2) (in_state g 1)
  -- "then 3 (next 6),"
  pub device : Accepted k → g.state ≡ 1 → Does g x (next 6) (in_state g 2)
  -- "then 7 (Status 0: Ready)."
  pub finish : Done k → g.state ≡ 2 → Does g x now_ready (in_state g 3)
  -- "else a type already taken gives Again",
  pub response-again : Pending k → 1 ≤ g.state → g.state ≤ 3 → Does g x (again (Some 2)) g
  pub device-again : Accepted k → 2 ≤ g.state → g.state ≤ 3 → Does g x (again (Some 6)) g
  pub finish-again : Done k → g.state ≡ 3 → Does g x (again None) g
  -- "another order 15".
  pub device-early : Accepted k → g.state ≡ 0 → Does g x (refused 15) g
  pub finish-early : Done k → g.state ≤ 1 → Does g x (refused 15) g
  -- Requests, and every other Connect type, are 15;
  pub other-type : (t : ℕ) → IsConnect k t → (t ≡ 1 → ⊥) → (t ≡ 3 → ⊥) → (t ≡ 7 → ⊥) → Does g x (refused 15) g
  -- "a Session message is 15 on this side", and so is Discovery.
  pub other-kind : (k.header.kind ≡ 2 → ⊥) → Does g x (refused 15) g

-- Of every call that comes so far.
abbrev pub ByGatewayStates : Type 0
ByGatewayStates = (g : Gateway) (x : Call) (h : Admitted g x) → GatewayStates g x h.content

-- "Every refusal leaves connection … alone", and so does Again, whatever number it says.
abbrev pub GatewayLeavesAlone : Type 0
GatewayLeavesAlone =
    (g : Gateway) (x : Call) → ((n : ℕ) → says g x ≡ refused n → after g x ≡ g) × ((d : Option ℕ) → says g x ≡ again d → after g x ≡ g)

-- "and keeps both": no call changes F or the SessionID.
abbrev pub GatewayKeeps : Type 0
GatewayKeeps = (g : Gateway) (x : Call) → ((after g x).size ≡ g.size) × ((after g x).session ≡ g.session)

-- The request that is due: type 0 in state 0, 2 in state 1, 6 in state 2, none in any other. It is the same until its reply is taken, or all has
-- failed; and what an answer names next is then due.
pub record DueNames : Type 0 where
  pub first : due_in 0 ≡ Some 0
  pub second : due_in 1 ≡ Some 2
  pub third : due_in 2 ≡ Some 6
  pub none : (state : ℕ) → 3 ≤ state → due_in state ≡ None
  pub same : (g : Gateway) (x : Call) → (due_in (after g x).state ≡ due_in g.state)
      ⊎ ((says g x ≡ now_failed) ⊎ ((says g x ≡ now_ready) ⊎ ((says g x ≡ next 2) ⊎ (says g x ≡ next 6))))
  pub named : (g : Gateway) (x : Call) (t : ℕ) → says g x ≡ next t → due_in (after g x).state ≡ Some t

-- "A lost reply makes it send the same request bytes again, nonce included": payloads of the same values, nonce, X and Y among them, are the same
-- bytes, and so are messages of the same fields, chain, payload and keys.
pub record SameBytes : Type 0 where
  pub payloads : (f : Format) (v : Values f) (p q : List ℕ) → WrotePayload f v p → WrotePayload f v q → p ≡ q
  pub messages : (h : Header) (chain payload keys m n : List ℕ) → Wrote h chain payload keys m → Wrote h chain payload keys n → m ≡ n
