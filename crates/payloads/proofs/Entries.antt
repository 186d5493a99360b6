-- SPDX-License-Identifier: MPL-2.0
-- What holds of an entry holds of entries that stand one after the other: what was written for each is read back from where it stands, and what is
-- read from each is what the writer writes.
use Rattle.laws.proofs.Kit.{ℕ, zero, suc, ◌+◌, ◌*◌, ◌≤◌, ◌≡◌, refl, sym, Bool, true, ◌&&◌, List, [], ◌∷◌, ◌++◌, append-nil, append_assoc, length}
use Rattle.laws.proofs.Kit.{drop, length-append, arith}
use mathlib.Core.List.{flat_map}
use Rattle.std.proofs.lemmas.Grind.{flat_map-append}
use Rattle.laws.proofs.Bools.{and_one, and_assoc, and-true}
use Rattle.laws.specs.Runs.{gathered}
use Rattle.payloads.specs.Entries.{entry_at, each, all}

-- Something that begins at a place was written for a value: it passes its test, it ends after the bytes that were written, and it says the value.
pub record Back {A : Type 0} (passes : Bool) (ends : ℕ) (says : A) (at : ℕ) (bytes : List ℕ) (v : A) : Type 0 where
  pub holds : passes ≡ true
  pub place : ends ≡ at + length bytes
  pub value : says ≡ v

-- So it does with a field before it, and what the field says beside the value.
pub after-field : {A B : Type 0} (with : A → B) {passes : Bool} {ends at s : ℕ} {says v : A} (x y : List ℕ) → length x ≡ s
    → Back passes ends says (at + s) y v → Back passes ends (with says) at (x ++ y) (with v)
after-field with x y e r = record { holds = r.holds; place = rw length-append (omega (arith, r.place)); value = λ i. with (r.value i) }

-- Entries from the first on: the others are entries too, from where the first ends.
module _ (ends : ℕ → ℕ) where
  entry_next : (first i : ℕ) → entry_at ends first (suc i) ≡ entry_at ends (ends first) i
  unfolding entry_at
  entry_next first zero = refl
  entry_next first (suc i) = rw (entry_next first i)

  each_next : (holds : ℕ → Bool) (first n : ℕ)
      → each (λ i. holds (entry_at ends first i)) (suc n) ≡ (holds first && each (λ i. holds (entry_at ends (ends first) i)) n)
  unfolding each entry_at
  each_next holds first zero = sym (and_one (holds first))
  each_next holds first (suc n) = rw (each_next holds first n, entry_next first n) (sym (and_assoc (holds first) _ _))

  gathered_next : {A : Type 0} (says : ℕ → A) (first n : ℕ)
      → gathered (λ i. says (entry_at ends first i)) (suc n) ≡ says first ∷ gathered (λ i. says (entry_at ends (ends first) i)) n
  unfolding gathered entry_at
  gathered_next says first zero = refl
  gathered_next says first (suc n) = rw (gathered_next says first n, entry_next first n)

-- What was written for values one after the other, between any front and any back, if this holds of one value.
module _ {A : Type 0} (write : A → List ℕ) (fits : A → Bool) (holds : List ℕ → ℕ → Bool) (ends : List ℕ → ℕ → ℕ) (says : List ℕ → ℕ → A)
    (single : (v : A) (a b : List ℕ) (at : ℕ) → length a ≡ at → fits v ≡ true → let p = (a ++ write v) ++ b in
    Back (holds p at) (ends p at) (says p at) at (write v) v) where
  abbrev AllBack : List A → List ℕ → ℕ → Type 0
  AllBack vs p at = let place = entry_at (ends p) at in
      Back (each (λ i. holds p (place i)) (length vs)) (place (length vs)) (gathered (λ i. says p (place i)) (length vs)) at (flat_map write vs) vs

  pub entries-back : (vs : List A) (a b : List ℕ) (at : ℕ) → length a ≡ at → all fits vs ≡ true → AllBack vs ((a ++ flat_map write vs) ++ b) at
  unfolding all flat_map
  entries-back [] a b at e h = unfold each gathered entry_at in record { holds = refl; place = omega arith; value = refl }
  entries-back (v ∷ vs) a b at e h =
      let k = and-true (fits v) (all fits vs) h in
      let x = write v in
      let y = flat_map write vs in
      let p = ((a ++ x) ++ y) ++ b in
      let first = rw (← append_assoc (a ++ x) y b) at (single v a (y ++ b) at e k.0) in
      let rest = entries-back vs (a ++ x) b (at + length x) (rw (length-append, e)) k.1 in
      let here : ends p at ≡ at + length x = first.place in
      rw (← append_assoc a x y)
      (rw (each_next (ends p) (holds p) at (length vs), gathered_next (ends p) (says p) at (length vs), entry_next (ends p) at (length vs))
      (rw (here, first.holds, first.value) (after-field (λ (l : List A). v ∷ l) x y refl rest)))

module _ (holds : ℕ → Bool) (ends : ℕ → ℕ) where
  -- No entry begins before the first.
  pub entries-onward : ((at : ℕ) → at ≤ ends at) → (first n : ℕ) → first ≤ entry_at ends first n
  unfolding entry_at
  entries-onward on first zero = omega arith
  entries-onward on first (suc n) = omega (arith, entries-onward on first n, on (entry_at ends first n))

  -- Entries of at most l bytes each.
  pub entries-short : (l : ℕ) → ((at : ℕ) → holds at ≡ true → ends at ≤ at + l) → (first n : ℕ)
      → each (λ i. holds (entry_at ends first i)) n ≡ true → entry_at ends first n ≤ first + n * l
  unfolding each entry_at
  entries-short l short first zero h = omega arith
  entries-short l short first (suc n) h =
      let place = entry_at ends first in
      let k = and-true (each (λ i. holds (place i)) n) (holds (place n)) h in
      omega (arith, entries-short l short first n k.0, short (place n) k.1)

module _ {A : Type 0} where
  all_append : (test : A → Bool) (vs : List A) (v : A) → all test (vs ++ (v ∷ [])) ≡ (all test vs && test v)
  unfolding all
  all_append test [] v = and_one (test v)
  all_append test (u ∷ vs) v = rw (all_append test vs v) (and_assoc (test u) (all test vs) (test v))

  module _ (holds : ℕ → Bool) (says : ℕ → A) where
    -- What is said where a test holds passes another.
    pub all-gathered : (test : A → Bool) → ((at : ℕ) → holds at ≡ true → test (says at) ≡ true) → (place : ℕ → ℕ) (n : ℕ)
        → each (λ i. holds (place i)) n ≡ true → all test (gathered (λ i. says (place i)) n) ≡ true
    unfolding each gathered all
    all-gathered test passes place zero h = refl
    all-gathered test passes place (suc n) h =
        let k = and-true (each (λ i. holds (place i)) n) (holds (place n)) h in
        rw (all_append test (gathered (λ i. says (place i)) n) (says (place n)), all-gathered test passes place n k.0) (passes (place n) k.1)

    -- The bytes of a list from the first entry on are those that the writer writes for what each says, and then the others.
    pub entries-then : (p : List ℕ) (write : A → List ℕ) (ends : ℕ → ℕ) → ((at : ℕ) → at ≤ ends at)
        → ((at : ℕ) → holds at ≡ true → ends at ≤ length p → write (says at) ++ drop (ends at) p ≡ drop at p) → (first n : ℕ)
        → each (λ i. holds (entry_at ends first i)) n ≡ true → entry_at ends first n ≤ length p
        → flat_map write (gathered (λ i. says (entry_at ends first i)) n) ++ drop (entry_at ends first n) p ≡ drop first p
    unfolding each gathered entry_at flat_map
    entries-then p write ends onward single first zero h l = refl
    entries-then p write ends onward single first (suc n) h l =
        let place = entry_at ends first in
        let vs = gathered (λ i. says (place i)) n in
        let k = and-true (each (λ i. holds (place i)) n) (holds (place n)) h in
        rw (flat_map-append write vs (says (place n) ∷ []), append-nil, append_assoc, single (place n) k.1 l)
        (entries-then p write ends onward single first n k.0 (omega (arith, onward (place n))))
