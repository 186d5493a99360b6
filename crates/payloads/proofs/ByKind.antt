-- SPDX-License-Identifier: MPL-2.0
-- The shapes by message type, plain or sealed: the code asks only for those of the message's own.
use Rattle.laws.proofs.Kit.{ℕ, ◌≡◌, refl, Bool, true, false, ◌||◌, List, ne_eqb}
use Rattle.laws.proofs.Bools.{or_assoc, or-none}
use Rattle.payloads.specs.Format.{accepts}
use Rattle.payloads.specs.Shapes.{is_shaped, presence_request, presence_response, connection_request, pending_response, other_response}
use Rattle.payloads.specs.Shapes.{device_authentication, done_request, done_response}

module _ (p : List ℕ) where
  pub discovery_shapes : is_shaped 1 false p ≡ (accepts presence_request p || accepts presence_response p)
  unfolding is_shaped
  discovery_shapes = simp or-none

  pub plain_shapes : is_shaped 2 false p ≡ (accepts connection_request p || (accepts pending_response p || accepts other_response p))
  unfolding is_shaped
  plain_shapes = simp or-none

  pub sealed_shapes : is_shaped 2 true p ≡ ((accepts device_authentication p || accepts done_request p) || accepts done_response p)
  unfolding is_shaped
  sealed_shapes = simp (or_assoc, or-none)

  pub no_sealed_discovery : is_shaped 1 true p ≡ false
  unfolding is_shaped
  no_sealed_discovery = refl

  pub no_others : (kind : ℕ) (sealed : Bool) → (kind ≡ 1 → ⊥) → (kind ≡ 2 → ⊥) → is_shaped kind sealed p ≡ false
  unfolding is_shaped
  no_others kind sealed one two = rw (ne_eqb kind 1 one, ne_eqb kind 2 two)
