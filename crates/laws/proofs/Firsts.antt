-- SPDX-License-Identifier: MPL-2.0
-- What a table's answer says, for every table: a number other than 0 is that of the first row whose test holds, and 0 says that no
-- test holds. Of two tables one after the other the second is asked where no row of the first applies.
use Rattle.laws.proofs.Kit.{ℕ, ◌≤◌, ◌≡◌, refl, sym, Bool, true, false, true≢false, not, ◌&&◌, cond, List, [], ◌∷◌, ◌++◌, eqb, leb, eqb-true}
use Rattle.laws.proofs.Kit.{eqb-false, leb-true, inl, inr, arith}
use Rattle.laws.proofs.Bools.{and-true}
use Rattle.laws.proofs.Cases.{on}
use Rattle.laws.specs.Rows.{first, or_else, numbered, quiet, test_of, leads, up_to, first_row, any_of}

both : (a b : Bool) → (not a && b) ≡ true → (a ≡ false) × (b ≡ true)
both true b e = absurd (true≢false (sym e))
both false b e = (refl, e)

pub numbered-both : (row : ℕ × Bool) (rows : List (ℕ × Bool)) → numbered (row ∷ rows) ≡ true → (eqb row.0 0 ≡ false) × (numbered rows ≡ true)
numbered-both row rows e = both (eqb row.0 0) (numbered rows) e

one-row : (t : Bool) (n x y z : ℕ) → eqb n 0 ≡ false → x ≡ or_else y z → cond t n x ≡ or_else (cond t n y) z
one-row true n x y z e p = rw e
one-row false n x y z e p = p

pub first-append : (a b : List (ℕ × Bool)) → numbered a ≡ true → first (a ++ b) ≡ or_else (first a) (first b)
first-append [] b e = refl
first-append (r ∷ a) b e =
    let k = numbered-both r a e in
    one-row r.1 r.0 (first (a ++ b)) (first a) (first b) k.0 (first-append a b k.1)

-- Of two tables one after the other neither refuses.
pub neither : (n m : ℕ) → or_else n m ≡ 0 → (n ≡ 0) × (m ≡ 0)
neither n m e = on (eqb n 0) (λ z. (eqb-true n 0 z, rw z at e)) (λ z. absurd (eqb-false n 0 z (rw z at e)))

module _ (n : ℕ) (applies : n ≡ 0 → ⊥) where
  leads-row : (row : ℕ × Bool) (rows : List (ℕ × Bool)) → (first rows ≡ n → leads n rows) → first (row ∷ rows) ≡ n → leads n (row ∷ rows)
  leads-row (k, true) rows next e = inl (refl, e)
  leads-row (k, false) rows next e = inr (refl, next e)

  pub first-leads : (rows : List (ℕ × Bool)) → first rows ≡ n → leads n rows
  first-leads [] e = absurd (applies (sym e))
  first-leads (row ∷ rows) e = leads-row row rows (first-leads rows) e

pub leads-first : (n : ℕ) (rows : List (ℕ × Bool)) → leads n rows → first rows ≡ n
leads-first n [] w = absurd w
leads-first n (row ∷ rows) (inl w) = rw w.0 w.1
leads-first n (row ∷ rows) (inr w) = rw w.0 (leads-first n rows w.1)

quiet_row : (row : ℕ × Bool) (rows : List (ℕ × Bool)) → eqb row.0 0 ≡ false → (first rows ≡ 0 → quiet rows) → first (row ∷ rows) ≡ 0
    → quiet (row ∷ rows)
quiet_row (k, true) rows e next p = absurd (eqb-false k 0 e p)
quiet_row (k, false) rows e next p = (refl, next p)

pub first-quiet : (rows : List (ℕ × Bool)) → numbered rows ≡ true → first rows ≡ 0 → quiet rows
first-quiet [] e p = tt
first-quiet (row ∷ rows) e p =
    let k = numbered-both row rows e in
    quiet_row row rows k.0 (first-quiet rows k.1) p

-- Where nothing is refused the test of each row is false; a row is named by its number, not by its place.
test_of-row : (t b x : Bool) → b ≡ false → x ≡ false → cond t b x ≡ false
test_of-row true b x p q = p
test_of-row false b x p q = q

test_of-quiet : (n : ℕ) (rows : List (ℕ × Bool)) → quiet rows → test_of n rows ≡ false
test_of-quiet n [] w = refl
test_of-quiet n (row ∷ rows) w = test_of-row (eqb row.0 n) row.1 (test_of n rows) w.0 (test_of-quiet n rows w.1)

pub row-false : (n : ℕ) (rows : List (ℕ × Bool)) → numbered rows ≡ true → first rows ≡ 0 → test_of n rows ≡ false
row-false n rows e p = test_of-quiet n rows (first-quiet rows e p)

pub quiet-first : (rows : List (ℕ × Bool)) → quiet rows → first rows ≡ 0
quiet-first [] w = refl
quiet-first (row ∷ rows) w = rw w.0 (quiet-first rows w.1)

up_to-row : (k : ℕ) (row : ℕ × Bool) (rows : List (ℕ × Bool)) → row.0 ≤ k → first rows ≤ k → first (row ∷ rows) ≤ k
up_to-row k (n, true) rows p q = p
up_to-row k (n, false) rows p q = q

pub first-up_to : (k : ℕ) (rows : List (ℕ × Bool)) → up_to k rows ≡ true → first rows ≤ k
first-up_to k [] e = omega arith
first-up_to k (row ∷ rows) e =
    let b = and-true (leb row.0 k) (up_to k rows) e in
    up_to-row k row rows (leb-true row.0 k b.0) (first-up_to k rows b.1)

-- Cases one after the other, a line each as the rows.
infixr 5 ◌also◌
pub ◌also◌ : {A B : Type 0} → A → B → A × B
p also q = (p, q)

-- A property of what a table of ways does is one of each row, where its test holds.
module _ {A : Type 0} (G : A → Type 0) where
  abbrev pub Ways : List (Bool × A) → Type 0
  Ways [] = Unit {0}
  Ways (row ∷ rows) = (row.0 ≡ true → G row.1) × Ways rows

  pub first-row : (rows : List (Bool × A)) (other : A) → Ways rows → G other → G (first_row rows other)
  first-row [] other p q = q
  first-row (row ∷ rows) other p q = on row.0 (λ e. rw e (p.0 e)) (λ e. rw e (first-row rows other p.1 q))

-- Rows of which none refuses, by the number of a refusal: what they refuse is what stands after them, where none applies.
module _ {A : Type 0} (number : A → ℕ) where
  abbrev pub loud : List (Bool × A) → Bool
  loud [] = true
  loud (row ∷ rows) = eqb (number row.1) 0 && loud rows

  pub loud-first : (rows : List (Bool × A)) (other : A) → loud rows ≡ true
      → number (first_row rows other) ≡ cond (not (any_of rows)) (number other) 0
  loud-first [] other l = refl
  loud-first (row ∷ rows) other l =
      let a = and-true (eqb (number row.1) 0) (loud rows) l in
      on row.0 (λ e. rw e (eqb-true (number row.1) 0 a.0)) (λ e. rw e (loud-first rows other a.1))
