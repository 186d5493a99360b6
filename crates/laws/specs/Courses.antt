-- SPDX-License-Identifier: MPL-2.0
-- A machine that is given inputs one after the other.
use Rattle.std.specs.Prelude.{List, [], ◌∷◌}

-- The state after a list of inputs: each takes one state to the next.
abbrev pub final : {C X : Type 0} → (C → X → C) → C → List X → C
final next c [] = c
final next c (x ∷ xs) = final next (next c x) xs
