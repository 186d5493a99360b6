-- SPDX-License-Identifier: MPL-2.0
-- The message of document 01's numbered examples P1 to P7.
use Rattle.std.specs.Prelude.{ℕ, List, [], ◌∷◌, ◌++◌, replicate}

-- "the 43 bytes 30 30 00 2B 03 01 00 00, twelve zeros, 00 00 00 01, nineteen zeros"
abbrev pub p1 : List ℕ
p1 = (0x30 ∷ 0x30 ∷ 0x00 ∷ 0x2B ∷ 0x03 ∷ 0x01 ∷ 0x00 ∷ 0x00 ∷ []) ++ replicate 12 0 ++ (0 ∷ 0 ∷ 0 ∷ 1 ∷ []) ++ replicate 19 0
