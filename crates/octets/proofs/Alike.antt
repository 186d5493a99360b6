-- SPDX-License-Identifier: MPL-2.0
-- Bytes of one length are the same where each is, one after the other.
use Rattle.laws.proofs.Kit.{ℕ, ◌≡◌, sym, ◌∙◌, Bool, true, ◌&&◌, List, [], ◌∷◌, length, eqb, arith}
use Rattle.std.specs.List.{fold, zip}
use Rattle.laws.specs.Same.{same}
use Rattle.laws.proofs.Bools.{and_one, and_assoc}

-- from what was found so far on
same-on : (xs ys : List ℕ) (are : Bool) → length xs ≡ length ys
    → fold (λ are pair. are && eqb pair.0 pair.1) are (zip xs ys) ≡ (are && same xs ys)
same-on [] [] are l = sym (and_one are)
same-on [] (y ∷ ys) are l = absurd (omega arith)
same-on (x ∷ xs) [] are l = absurd (omega arith)
same-on (x ∷ xs) (y ∷ ys) are l = same-on xs ys (are && eqb x y) (omega arith) ∙ sym (and_assoc are (eqb x y) (same xs ys))

pub all_same : (xs ys : List ℕ) → length xs ≡ length ys → fold (λ are pair. are && eqb pair.0 pair.1) true (zip xs ys) ≡ same xs ys
all_same xs ys l = same-on xs ys true l
