-- SPDX-License-Identifier: MPL-2.0
-- The report buffer: a piece written into it.
use Rattle.std.specs.Prelude.{ℕ, ◌+◌, List, ◌++◌, length, take, drop}

-- "written into the report buffer from place … on; no other byte changes".
abbrev pub put : List ℕ → ℕ → List ℕ → List ℕ
put report at bytes = take at report ++ (bytes ++ drop (at + length bytes) report)
