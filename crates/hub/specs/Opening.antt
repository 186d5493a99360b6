-- SPDX-License-Identifier: MPL-2.0
-- Opening a connection.
use Rattle.std.specs.Prelude.{ℕ, cond, replicate}
use Rattle.wire.specs.Refusals.{wrong_fragment_size}
use Rattle.joining.specs.Cut.{bad_size}
use Rattle.joining.specs.Join.{expecting}
use Rattle.hub.specs.declared.Connection.{Connection}
use Rattle.hub.specs.declared.Opened.{Opened}

-- "state 0 expecting Session number 0, all else that it remembers being zero"
abbrev pub blank : ℕ → Connection
blank F =
    record {
      size = F;
      state = 0;
      session = 0;
      nonce = replicate 8 0;
      x = replicate 32 0;
      y = replicate 32 0;
      digest = replicate 32 0;
      progress = expecting 0;
    }

-- 24: "F outside 1 to 16,384 at opening (the connection answered is then all zero, F too)"; 0 is no refusal.
unfoldable pub opened : ℕ → Opened
opened F = cond (bad_size F) (record { refusal = wrong_fragment_size; connection = blank 0 }) (record { refusal = 0; connection = blank F })
