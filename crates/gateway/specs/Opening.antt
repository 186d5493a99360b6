-- SPDX-License-Identifier: MPL-2.0
-- Opening a gateway's connection.
use Rattle.std.specs.Prelude.{ℕ, cond}
use Rattle.wire.specs.Refusals.{wrong_fragment_size}
use Rattle.joining.specs.Cut.{bad_size}
use Rattle.gateway.specs.declared.Gateway.{Gateway}
use Rattle.gateway.specs.declared.Opened.{Opened}

-- "it gives state 0 and keeps both"
abbrev pub waiting : (F session : ℕ) → Gateway
waiting F session = record { size = F; state = 0; session = session }

-- 24: "F outside 1 to 16,384 at opening (the connection answered is then all zero, F too, on the gateway's side also the SessionID (A2))"; 0
-- is no refusal.
unfoldable pub opened : (F session : ℕ) → Opened
opened F session =
    cond (bad_size F) (record { refusal = wrong_fragment_size; gateway = waiting 0 0 }) (record { refusal = 0; gateway = waiting F session })
