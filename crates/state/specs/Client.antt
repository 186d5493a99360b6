-- SPDX-License-Identifier: MPL-2.0
-- A gateway's connection in bytes: the first parts of the hub's, at the same places.
use Rattle.std.specs.Prelude.{ℕ, ◌+◌, ◌≡◌, List, [], ◌∷◌, length}
use Rattle.laws.specs.Bytes.{AreBytes, be8, be64, bytes64}
use Rattle.gateway.specs.declared.Gateway.{Gateway}
use Rattle.state.specs.Layout.{size_place, state_place, session_place}
use Rattle.state.specs.State.{joined}

-- The bytes of a gateway's connection: 17.
abbrev pub gateway_size : ℕ
gateway_size = session_place + 8

-- The gateway's connection that stands in these bytes.
unfoldable pub gateway_at : List ℕ → Gateway
gateway_at s = record { size = be64 s size_place; state = be8 s state_place; session = be64 s session_place }

-- The parts of a gateway's connection, and its bytes.
abbrev pub gateway_parts : Gateway → List (List ℕ)
gateway_parts g = bytes64 g.size ∷ (g.state ∷ []) ∷ bytes64 g.session ∷ []

unfoldable pub gateway_bytes : Gateway → List ℕ
gateway_bytes g = joined (gateway_parts g)

-- Every gateway's connection is `gateway_size` bytes and is read back from them; any so many bytes are one, and they are its state.
pub record GatewayStored : Type 0 where
  pub back : (g : Gateway) → (length (gateway_bytes g) ≡ gateway_size) × (gateway_at (gateway_bytes g) ≡ g)
  pub whole : (s : List ℕ) → length s ≡ gateway_size → AreBytes s → gateway_bytes (gateway_at s) ≡ s
