-- SPDX-License-Identifier: MPL-2.0
-- `same` decides equality of lists of bytes, both ways; how it goes over lists that end in a byte each.
use Rattle.laws.proofs.Kit.{ℕ, ◌≡◌, refl, sym, ap, ap₂, Bool, true, false, true≢false, ◌&&◌, List, [], ◌∷◌, ◌++◌, length, eqb, eq-eqb}
use Rattle.laws.proofs.Kit.{eqb-true, arith}
use Rattle.laws.proofs.Bools.{and-true, and_one, and_assoc}
use Rattle.laws.specs.Same.{same}

pub same_refl : (xs : List ℕ) → same xs xs ≡ true
same_refl [] = refl
same_refl (x ∷ xs) = rw (eq-eqb x x refl) (same_refl xs)

pub same→eq : (xs ys : List ℕ) → same xs ys ≡ true → xs ≡ ys
same→eq [] [] e = refl
same→eq [] (y ∷ ys) e = absurd (true≢false (sym e))
same→eq (x ∷ xs) [] e = absurd (true≢false (sym e))
same→eq (x ∷ xs) (y ∷ ys) e =
    let both = and-true (eqb x y) (same xs ys) e in
    ap₂ (λ (z : ℕ) (zs : List ℕ). z ∷ zs) (eqb-true x y both.0) (same→eq xs ys both.1)

ne→same : (xs ys : List ℕ) → (xs ≡ ys → ⊥) → same xs ys ≡ false
ne→same xs ys n = go (same xs ys) refl
  where
    go : (t : Bool) → same xs ys ≡ t → t ≡ false
    go true e = absurd (n (same→eq xs ys e))
    go false e = refl

-- lists of different lengths are not the same
pub same_length : (xs ys : List ℕ) → (length xs ≡ length ys → ⊥) → same xs ys ≡ false
same_length xs ys h = ne→same xs ys (λ e. h (ap length e))

-- a byte more on both
pub same-snoc : (xs ys : List ℕ) (x y : ℕ) → length xs ≡ length ys → same (xs ++ (x ∷ [])) (ys ++ (y ∷ [])) ≡ (same xs ys && eqb x y)
same-snoc [] [] x y e = and_one (eqb x y)
same-snoc [] (b ∷ ys) x y e = absurd (omega arith)
same-snoc (a ∷ xs) [] x y e = absurd (omega arith)
same-snoc (a ∷ xs) (b ∷ ys) x y e = rw (same-snoc xs ys x y (omega arith)) (and_assoc (eqb a b) (same xs ys) (eqb x y))
