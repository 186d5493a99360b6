-- SPDX-License-Identifier: MPL-2.0
-- The comparison of two tags.
use Rattle.std.specs.Prelude.{ℕ, List}
use Rattle.std.specs.Int.Bits.{bit_or, bit_xor}
use Rattle.std.specs.List.{fold, zip}

-- The bits in which the bytes of two lists differ, place by place, all or-ed together.
unfoldable pub differing : List ℕ → List ℕ → ℕ
differing xs ys = fold (λ bits pair. bit_or bits (bit_xor pair.0 pair.1)) 0 (zip xs ys)
