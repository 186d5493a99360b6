-- SPDX-License-Identifier: MPL-2.0
-- A type of Connect is read back from its number.
use Rattle.laws.proofs.Kit.{ℕ, ◌≡◌, refl, cond, eqb}
use Rattle.payloads.specs.Types.{connect_number}
use Rattle.payloads.specs.declared.types.ConnectType.{ConnectType}
use Rattle.payloads.specs.declared.types.ConnectType.TheVariants.{ConnectionRequest, ConnectionResponse, DeviceRequest, DeviceResponse}
use Rattle.payloads.specs.declared.types.ConnectType.TheVariants.{DoneRequest, DoneResponse}

-- The type that has this number; of a number that no type has, the last.
abbrev pub connect_of : ℕ → ConnectType
connect_of n =
    cond (eqb n 0) ConnectionRequest
    (cond (eqb n 1) ConnectionResponse
    (cond (eqb n 2) DeviceRequest
    (cond (eqb n 3) DeviceResponse (cond (eqb n 6) DoneRequest DoneResponse))))

pub connect_of-number : (t : ConnectType) → connect_of (connect_number t) ≡ t
connect_of-number ConnectionRequest = refl
connect_of-number ConnectionResponse = refl
connect_of-number DeviceRequest = refl
connect_of-number DeviceResponse = refl
connect_of-number DoneRequest = refl
connect_of-number DoneResponse = refl
