-- SPDX-License-Identifier: MPL-2.0
-- A property of what a step of the gateway answers and leaves, by the way that it went: a law of all its steps is one of these cases. What Again
-- names is the number of a type, or nothing.
use Rattle.laws.proofs.Kit.{ℕ, ◌+◌, ◌≡◌, List, eqb-true}
use Rattle.laws.proofs.Firsts.{◌also◌, first-row}
use Rattle.wire.specs.declared.header.Header.{Header}
use Rattle.payloads.specs.Reading.{connect_type, code_of}
use Rattle.message.specs.Reading.{working_after}
use Rattle.message.specs.Handed.{payload}
use Rattle.std.specs.Prelude.{Ok, Option, Some, None}
use Rattle.std.specs.Option.{option_map}
use Rattle.payloads.specs.Types.{connect_number}
use Rattle.payloads.specs.declared.types.ConnectType.{ConnectType}
use Rattle.payloads.specs.declared.types.ConnectType.TheVariants.{DeviceRequest, DoneRequest}
use Rattle.admission.specs.Admission.{on_read}
use Rattle.admission.proofs.Ways.{admit-cases}
use Rattle.gateway.specs.declared.Gateway.{Gateway}
use Rattle.gateway.specs.declared.Stepped.{Stepped}
use Rattle.gateway.specs.declared.Answer.{Answer}
use Rattle.gateway.specs.declared.Answer.TheVariants.{Next, Ready, Failed, Again}
use Rattle.gateway.specs.Client.{stepped, refuse, in_state, replied_rows, replied, take_rows, take, client_rows, client}
use Rattle.gateway.specs.Step.{hear_rows, hear, step}

module _ (g : Gateway) (G : Stepped → Type 0) (not-allowed : G (refuse g 15))
    (again : (d : Option ConnectType) → G (stepped g (Again (option_map connect_number d))))
    (fails : G (stepped (in_state g 4) Failed)) (first : g.state ≡ 0 → G (stepped (in_state g 1) (Next 2)))
    (second : g.state ≡ 1 → G (stepped (in_state g 2) (Next 6))) (third : g.state ≡ 2 → G (stepped (in_state g 3) Ready)) where
  -- A reply where it is awaited, later, and before.
  replied-has : (awaited : ℕ) (a : Answer) (d : Option ℕ) → G (stepped g (Again d)) → (g.state ≡ awaited → G (stepped (in_state g (awaited + 1)) a))
      → G (replied g awaited a d)
  replied-has awaited a d known taken =
      first-row G (replied_rows g awaited a d) (refuse g 15) ((λ e. taken (eqb-true g.state awaited e)) also (λ e. known) also tt) not-allowed

  take-has : (type : ℕ) → G (take g type)
  unfolding take
  take-has type =
      first-row G (take_rows g type) (refuse g 15)
      ((λ e. replied-has 0 _ _ (again (Some DeviceRequest)) first)
      also (λ e. replied-has 1 _ _ (again (Some DoneRequest)) second)
      also (λ e. replied-has 2 _ _ (again None) third)
      also tt)
      not-allowed

  client-has : (type code v : ℕ) → G (client g type code v)
  unfolding client
  client-has type code v =
      first-row G (client_rows g type code v) (take g type) ((λ e. not-allowed) also (λ e. fails) also tt) (take-has type)

  pub hear-has : G (refuse g 16) → (h : Header) (p : List ℕ) (v : ℕ) → G (hear g h p v)
  unfolding hear
  hear-has other h p v =
      first-row G (hear_rows g h p v) (refuse g 15) ((λ e. other) also (λ e. client-has (connect_type p) (code_of p) v) also tt) not-allowed

  pub step-has : ((n : ℕ) → G (refuse g n)) → (m k w : List ℕ) (v : ℕ) → G (step g m k w v)
  unfolding step
  step-has refused m k w v =
      admit-cases g.size v m k w (λ w' r. G (on_read (refuse g) (λ h p. hear g h p v) m w' r)) (λ w' n. refused n)
      (λ z f e. hear-has (refused 16) f.header (payload m (working_after m k w) (Ok f)) v)
