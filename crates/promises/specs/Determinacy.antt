-- SPDX-License-Identifier: MPL-2.0
-- "Every public call's contract determines answer, state and each byte of lent memory, on refusal too. Show that any two results allowed by it
-- agree": every public contract is made of clauses `result ≡ f(inputs)`, or one for each field of the result, and `x.new ≡ g(inputs)` for each
-- lent buffer. tests/contracts tests that; docs/PROMISES.md, "One result", lists the exceptions.
use Rattle.std.specs.Prelude.{◌≡◌}
use Rattle.hub.specs.declared.Answer.{Answer}
use Rattle.hub.specs.Answers.{said}
use Rattle.gateway.specs.declared.Answer as client
use Rattle.gateway.specs.Answers as gateway

-- Any two results that a clause allows agree.
abbrev pub Determined : (A : Type 0) → (A → Type 0) → Type 0
Determined A allows = (r s : A) → allows r → allows s → r ≡ s

-- One law for every clause of that form.
abbrev pub OneResult : Type 1
OneResult = (A : Type 0) (value : A) → Determined A (λ r. r ≡ value)

-- And for all of them together: a result and what a lent buffer holds.
abbrev pub OneOutcome : Type 1
OneOutcome = (A B : Type 0) (value : A) (held : B) → Determined (A × B) (λ r. (r.0 ≡ value) × (r.1 ≡ held))

-- "a definition specifies this paper's number and values for each of its cases": by them a step's answer is known, no two say the same.
abbrev pub ToldApart : Type 0
ToldApart = (a b : Answer) → said a ≡ said b → a ≡ b

-- So is an answer of the gateway's step, in which a request's type is a byte.
abbrev pub ToldApartByGateway : Type 0
ToldApartByGateway = (a b : client.Answer) → gateway.HasTypeByte a → gateway.HasTypeByte b → gateway.said a ≡ gateway.said b → a ≡ b
