-- SPDX-License-Identifier: MPL-2.0
-- A message given in three parts.
use Rattle.std.specs.Prelude.{ℕ, List, ◌++◌}
use Rattle.sha256.specs.declared.message.Message.{Message}

-- The parts one after the other, as if they stood so in memory.
abbrev pub joined : Message → List ℕ
joined m = m.first.now ++ (m.second.now ++ m.third.now)
