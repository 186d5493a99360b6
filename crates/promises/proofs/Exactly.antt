-- SPDX-License-Identifier: MPL-2.0
-- A call that refuses by a table is exact: no row has the number 0, so a row with the number n leads the table exactly where n is the table's
-- number and not 0.
use Rattle.laws.proofs.Kit.{ℕ, ◌≡◌, ◌∙◌, true, cond, List, [], ◌∷◌, eqb, ne_eqb, eqb-false, inl, inr}
use mathlib.Core.Bool.{Bool}
use Rattle.laws.specs.Rows.{first, numbered, leads}
use Rattle.laws.proofs.Cases.{on}
use Rattle.laws.proofs.Firsts.{numbered-both, first-leads, leads-first}
use Rattle.promises.specs.Refusals.{◌⇔◌}

-- No row with the number 0 leads.
pub leads-numbered : (n : ℕ) (rows : List (ℕ × Bool)) → numbered rows ≡ true → leads n rows → n ≡ 0 → ⊥
leads-numbered n [] e w z = absurd w
leads-numbered n (row ∷ rows) e (inl w) z = eqb-false row.0 0 (numbered-both row rows e).0 (w.1 ∙ z)
leads-numbered n (row ∷ rows) e (inr w) z = leads-numbered n rows (numbered-both row rows e).1 w.1 z

-- What holds exactly where the table's number is n, and not 0.
pub exactly : (P : Type 0) (n : ℕ) (rows : List (ℕ × Bool)) → numbered rows ≡ true → (P → (n ≡ 0 → ⊥) × (first rows ≡ n))
    → ((n ≡ 0 → ⊥) → first rows ≡ n → P) → P ⇔ leads n rows
exactly P n rows e told made = (
  λ p. let k = told p in first-leads n k.0 rows k.1,
  λ l. made (leads-numbered n rows e l) (leads-first n rows l),
)

-- An answer that refuses with the table's number, unless that is 0.
module _ {A : Type 0} (n : ℕ) (done : A) (refuse : ℕ → A) (apart : done ≡ refuse n → ⊥) (same : (m : ℕ) → refuse m ≡ refuse n → m ≡ n) where
  refused-by : (k : ℕ) → cond (eqb k 0) done (refuse k) ≡ refuse n → (n ≡ 0 → ⊥) × (k ≡ n)
  refused-by k e = on (eqb k 0) (λ z. absurd (apart (rw z at e))) (λ z. let q = same k (rw z at e) in (λ o. eqb-false k 0 z (q ∙ o), q))

  pub answered-exactly : (rows : List (ℕ × Bool)) → numbered rows ≡ true
      → (cond (eqb (first rows) 0) done (refuse (first rows)) ≡ refuse n) ⇔ leads n rows
  answered-exactly rows e = exactly _ n rows e (refused-by (first rows)) (λ z q. rw (q, ne_eqb n 0 z))
