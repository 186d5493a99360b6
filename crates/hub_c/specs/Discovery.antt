-- SPDX-License-Identifier: MPL-2.0
-- What a Discovery payload says, in words.
use Rattle.std.specs.Prelude.{ℕ, List, [], ◌∷◌, ◌++◌}
use Rattle.payloads.specs.declared.discovery.FoundDiscovery.{FoundDiscovery}
use Rattle.hub_c.specs.Connect.{parts_words}

-- Type, mode and device type; then the parts: name, salt, hash.
abbrev pub discovery_words : FoundDiscovery → List ℕ
discovery_words f = (f.discovery ∷ f.mode ∷ f.device ∷ []) ++ parts_words f.name f.salt f.hash
