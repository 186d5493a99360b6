-- SPDX-License-Identifier: MPL-2.0
-- A list given by its elements has them; a list that has them is that list, also where a loop filled them in one by one.
use Rattle.laws.proofs.Kit.{ℕ, zero, suc, ◌+◌, ◌≤◌, ◌<◌, ◌≡◌, refl, sym, ◌∙◌, ap, List, length, get_or, set, length-append, length-set}
use Rattle.laws.proofs.Kit.{get_or-set_same, get_or-set_other, add-zero, le_of_suc-le-suc, not-suc-le-zero, zero-add, arith}
use native.Mathlib.Decide.{ℕ_discrete}
use lib.Seq.{ext_get_or}
use Rattle.laws.specs.Runs.{run, gathered, table}

pub run_length {ℓ} : {A : Type ℓ} (f : ℕ → A) (i n : ℕ) → length (run f i n) ≡ n
unfolding run
run_length f i zero = refl
run_length f i (suc n) = ap suc (run_length f (suc i) n)

run_at {ℓ} : {A : Type ℓ} (f : ℕ → A) (i n k m : ℕ) (d : A) → k < n → i + k ≡ m → get_or (run f i n) k d ≡ f m
unfolding run
run_at f i zero k m d h e = absurd (not-suc-le-zero h)
run_at f i (suc n) zero m d h e = ap f (sym (add-zero i) ∙ e)
run_at f i (suc n) (suc k) m d h e = run_at f (suc i) n k m d (le_of_suc-le-suc h) (omega arith)

pub run-from-zero {ℓ} : {A : Type ℓ} (f : ℕ → A) (n k : ℕ) (d : A) → k < n → get_or (run f 0 n) k d ≡ f k
run-from-zero f n k d h = run_at f 0 n k k d h (zero-add k)

pub run_is : {A : Type 0} (d : A) (f : ℕ → A) (n : ℕ) (l : List A) → length l ≡ n → ((k : ℕ) → k < n → get_or l k d ≡ f k) → l ≡ run f 0 n
run_is d f n l e h =
    ext_get_or d l (run f 0 n) (e ∙ sym (run_length f 0 n)) (λ k g. let b : k < n = omega arith in h k b ∙ sym (run-from-zero f n k d b))

pub length-gathered : {A : Type 0} (f : ℕ → A) (n : ℕ) → length (gathered f n) ≡ n
unfolding gathered
length-gathered f zero = refl
length-gathered f (suc n) = rw length-append (omega (arith, length-gathered f n))

pub table_at : (f : ℕ → ℕ) (x : ℕ) → x < 256 → get_or (table f) x 0 ≡ f x
unfolding table
table_at f x h = run-from-zero f 256 x 0 h

pub table_same : (f g : ℕ → ℕ) → ((x : ℕ) → x < 256 → f x ≡ g x) → table f ≡ table g
unfolding table
table_same f g h = run_is 0 g 256 (run f 0 256) (run_length f 0 256) (λ k b. run-from-zero f 256 k 0 b ∙ h k b)

-- ---- a list that a loop fills element by element

-- of the n elements of r, P holds of each of the first i, by its place
module _ {A : Type 0} (n : ℕ) (d : A) (P : ℕ → A → Type 0) where
  pub record Filled (r : List A) (i : ℕ) : Type 0 where
    pub len : length r ≡ n
    pub done : (k : ℕ) → k < i → P k (get_or r k d)

  pub fill_more : (r : List A) (i : ℕ) (v : A) → Filled r i → i < n → P i v → Filled (set r i v) (i + 1)
  fill_more r i v b h p = record { len = length-set r i v ∙ b.len; done = λ k g. here k g (ℕ_discrete k i) }
    where
      here : (k : ℕ) → k < i + 1 → Dec (k ≡ i) → P k (get_or (set r i v) k d)
      here k g (yes e) = rw (e, get_or-set_same r i v d (omega (arith, b.len))) p
      here k g (no q) = rw (get_or-set_other r i k v d q) (b.done k (omega (arith, q)))

-- where it has all that f gives, it is the list of them
pub fill-all : {A : Type 0} (n : ℕ) (d : A) (f : ℕ → A) (r : List A) (i : ℕ) → Filled n d (λ k x. x ≡ f k) r i → n ≤ i → r ≡ run f 0 n
fill-all n d f r i b h = run_is d f n r b.len (λ k g. b.done k (omega arith))
