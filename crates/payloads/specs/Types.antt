-- SPDX-License-Identifier: MPL-2.0
-- The numbers of the types of Discovery and Connect payloads.
use Rattle.std.specs.Prelude.{◌≡◌, ◌≢◌, ◌<◌, ℕ, Result, MatchResult}
use Rattle.payloads.specs.declared.types.DiscoveryType.{DiscoveryType}
use Rattle.payloads.specs.declared.types.DiscoveryType.TheVariants.{PresenceRequest, PresenceResponse}
use Rattle.payloads.specs.declared.types.ConnectType.{ConnectType}
use Rattle.payloads.specs.declared.types.ConnectType.TheVariants.{ConnectionRequest, ConnectionResponse, DeviceRequest, DeviceResponse}
use Rattle.payloads.specs.declared.types.ConnectType.TheVariants.{DoneRequest, DoneResponse}
use Rattle.payloads.specs.declared.types.UnknownType.{UnknownType}

-- "the single byte 0", "DiscoveryType 1"
abbrev pub discovery_number : DiscoveryType → ℕ
discovery_number PresenceRequest = 0
discovery_number PresenceResponse = 1

-- "0 Connection Request", "1 Connection Response", "2 and 3 Device Authentication Request and Response", "6 Authentication Done Request", "7
-- Authentication Done Response"
abbrev pub connect_number : ConnectType → ℕ
connect_number ConnectionRequest = 0
connect_number ConnectionResponse = 1
connect_number DeviceRequest = 2
connect_number DeviceResponse = 3
connect_number DoneRequest = 6
connect_number DoneResponse = 7

-- The type that has a number, or the number itself where no type has it: 4, 5, or above 7.
abbrev pub ConnectOf : ℕ → Result ConnectType UnknownType → Type 0
ConnectOf n r = MatchResult r (λ type. connect_number type ≡ n) (λ e. (e.0 ≡ n) × (3 < n) × (n ≢ 6) × (n ≢ 7))
