-- SPDX-License-Identifier: MPL-2.0
-- Differences or-ed together are 0 exactly where there are none.
use Rattle.laws.proofs.Kit.{ℕ, ◌≡◌, sym, ◌&&◌, List, [], ◌∷◌, length, eqb, eq-eqb, ne_eqb, eqb-true, eqb-false, bit_xor, arith}
use Rattle.std.specs.List.{fold, zip}
use lib.Bits.{bit_or, xor_self}
use Rattle.laws.specs.Same.{same}
use Rattle.sha256.specs.Tags.{differing}
use Rattle.laws.proofs.Cases.{on}
use Rattle.laws.proofs.Bools.{and_one, and_assoc}
use Rattle.laws.proofs.Xor.{or-zero, xor-zero}

or-differ : (d x y : ℕ) → eqb (bit_or d (bit_xor x y)) 0 ≡ (eqb d 0 && eqb x y)
or-differ d x y =
    on (eqb d 0)
    (λ p. on (eqb x y) (λ q. rw (p, q) (eq-eqb (bit_or d (bit_xor x y)) 0 (rw (eqb-true d 0 p, eqb-true x y q, xor_self y))))
    λ q. rw (p, q) (ne_eqb (bit_or d (bit_xor x y)) 0 λ e. eqb-false x y q (xor-zero x y (or-zero d (bit_xor x y) e).1)))
    λ p. rw p (ne_eqb (bit_or d (bit_xor x y)) 0 λ e. eqb-false d 0 p (or-zero d (bit_xor x y) e).0)

-- from the bits d on
differ-on : (xs ys : List ℕ) (d : ℕ) → length xs ≡ length ys
    → eqb (fold (λ bits pair. bit_or bits (bit_xor pair.0 pair.1)) d (zip xs ys)) 0 ≡ (eqb d 0 && same xs ys)
differ-on [] [] d l = sym (and_one (eqb d 0))
differ-on [] (y ∷ ys) d l = absurd (omega arith)
differ-on (x ∷ xs) [] d l = absurd (omega arith)
differ-on (x ∷ xs) (y ∷ ys) d l = rw (differ-on xs ys (bit_or d (bit_xor x y)) (omega arith), or-differ d x y) (sym (and_assoc (eqb d 0) (eqb x y) (same xs ys)))

pub differ_by : (xs ys : List ℕ) → length xs ≡ length ys → eqb (differing xs ys) 0 ≡ same xs ys
unfolding differing
differ_by xs ys l = differ-on xs ys 0 l
