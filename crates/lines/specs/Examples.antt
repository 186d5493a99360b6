-- SPDX-License-Identifier: MPL-2.0
-- Document 01's example of the listing.
use Rattle.std.specs.Prelude.{ℕ, List, [], ◌∷◌}

-- "`1 0 0 1 43` and a newline", in ASCII.
abbrev pub p1_line : List ℕ
p1_line = 49 ∷ 32 ∷ 48 ∷ 32 ∷ 48 ∷ 32 ∷ 49 ∷ 32 ∷ 52 ∷ 51 ∷ 10 ∷ []
