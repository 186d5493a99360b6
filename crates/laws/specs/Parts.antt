-- SPDX-License-Identifier: MPL-2.0
-- A part of a list of bytes.
use Rattle.std.specs.Prelude.{ℕ, List, take, drop}

-- The n bytes from a place on; past the end there are none.
abbrev pub part : List ℕ → ℕ → ℕ → List ℕ
part m at n = take n (drop at m)
