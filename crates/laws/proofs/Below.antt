-- SPDX-License-Identifier: MPL-2.0
-- What holds of each number below n, by one test that is computed, one number after the other.
use Rattle.laws.proofs.Kit.{ℕ, zero, suc, ◌<◌, ◌≡◌, Bool, true, ◌&&◌, eqb, ltb, eqb-true, ltb-true, le_of_suc-le-suc, not-suc-le-zero}
use Rattle.laws.proofs.Bools.{and-true}

-- the test f passes at each number below n
abbrev pub every : (ℕ → Bool) → ℕ → Bool
every f zero = true
every f (suc n) = f zero && every (λ k. f (suc k)) n

pub below : (f : ℕ → Bool) (n : ℕ) → every f n ≡ true → (k : ℕ) → k < n → f k ≡ true
below f zero t k h = absurd (not-suc-le-zero h)
below f (suc n) t zero h = (and-true (f zero) _ t).0
below f (suc n) t (suc k) h = below (λ k. f (suc k)) n (and-true (f zero) _ t).1 k (le_of_suc-le-suc h)

-- two functions agree below n; one is below b there
module _ (f g : ℕ → ℕ) (n : ℕ) where
  pub agree : every (λ k. eqb (f k) (g k)) n ≡ true → (k : ℕ) → k < n → f k ≡ g k
  agree t k h = eqb-true (f k) (g k) (below (λ k. eqb (f k) (g k)) n t k h)

pub bounded : (f : ℕ → ℕ) (b n : ℕ) → every (λ k. ltb (f k) b) n ≡ true → (k : ℕ) → k < n → f k < b
bounded f b n t k h = ltb-true (f k) b (below (λ k. ltb (f k) b) n t k h)
