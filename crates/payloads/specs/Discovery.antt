-- SPDX-License-Identifier: MPL-2.0
-- A Discovery payload taken apart: which of the two it is, and where in it what it says stands.
use Rattle.std.specs.Result.{result_unwrap_or}
use Rattle.std.specs.Prelude.{ℕ, ◌+◌, List, false, cond, eqb, Result, Ok, Err}
use Rattle.laws.specs.Bytes.{be8, be16}
use Rattle.wire.specs.Refusals.{wrong_payload}
use Rattle.payloads.specs.Shapes.{bad_payload}
use Rattle.payloads.specs.Connect.{nowhere}
use Rattle.payloads.specs.declared.discovery.FoundDiscovery.{FoundDiscovery}

-- What stands beside a refusal: every number is 0, and every part the empty one at the payload's start. The same is read of a Presence Request: it
-- says its DiscoveryType, 0, and nothing more.
abbrev pub nothing_discovery : FoundDiscovery
nothing_discovery =
    record {
      discovery = 0;
      mode = 0;
      device = 0;
      name = nowhere;
      salt = nowhere;
      hash = nowhere;
    }

-- What a Presence Response says whose name has n bytes: "name, salt (4), hash (4)". The places are those of the format (`PresenceBack`, promises).
abbrev pub said_response : (mode device n : ℕ) → FoundDiscovery
said_response mode device n =
    record {
      discovery = 1;
      mode = mode;
      device = device;
      name = record { from = 7; size = n };
      salt = record { from = 7 + n; size = 4 };
      hash = record { from = 7 + n + 4; size = 4 };
    }

-- A Discovery payload taken apart, or refused with 14.
unfoldable pub read_discovery : List ℕ → Result FoundDiscovery ℕ
read_discovery p =
    cond (bad_payload 1 false p) (Err wrong_payload)
    (Ok (cond (eqb (be8 p 0) 0) nothing_discovery (said_response (be16 p 1) (be16 p 3) (be16 p 5))))

-- What an answer says: a refusal says nothing.
abbrev pub discovery_told : Result FoundDiscovery ℕ → FoundDiscovery
discovery_told answer = result_unwrap_or answer nothing_discovery
