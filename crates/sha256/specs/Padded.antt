-- SPDX-License-Identifier: MPL-2.0
-- A message with its padding.
use Rattle.std.specs.Prelude.{ℕ, List, ◌++◌}
use Rattle.sha256.specs.declared.parts.Padded.{Padded}
use Rattle.sha256.specs.Parts.{joined}

-- The message and then the padding.
abbrev pub whole : Padded → List ℕ
whole p = joined p.message ++ p.padding.now
