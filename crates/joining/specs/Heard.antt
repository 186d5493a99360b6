-- SPDX-License-Identifier: MPL-2.0
-- The heard set: one Boolean for each index that a piece may have. Nothing below names their number but `most`, and no law looks at it.
use Rattle.std.specs.Prelude.{ℕ, ◌+◌, List, [], ◌∷◌, Bool, true, false, get_or, set, take, replicate}
use Rattle.wire.specs.Fields.{most_pieces}

-- The largest number of pieces that a report has.
abbrev pub most : ℕ
most = most_pieces

-- One place of the set as a number.
abbrev pub bit : Bool → ℕ
bit true = 1
bit false = 0

-- How many indexes are heard.
abbrev pub tally : List Bool → ℕ
tally [] = 0
tally (b ∷ bs) = bit b + tally bs

-- How many of the first `count` indexes are heard.
abbrev pub come : ℕ → List Bool → ℕ
come count heard = tally (take count heard)

-- Index i is heard.
abbrev pub has : List Bool → ℕ → Bool
has heard i = get_or heard i false

-- The set with index i heard.
abbrev pub mark : List Bool → ℕ → List Bool
mark heard i = set heard i true

-- The empty set, for n indexes.
abbrev pub none : ℕ → List Bool
none n = replicate n false
