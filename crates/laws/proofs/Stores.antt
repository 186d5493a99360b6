-- SPDX-License-Identifier: MPL-2.0
-- Runs of stores: two, the second where the first ends, are one; what is stored past the end is dropped.
use Rattle.laws.proofs.Kit.{ℕ, zero, suc, ◌+◌, ◌≤◌, ◌≡◌, refl, sym, ◌∙◌, ap, List, [], ◌∷◌, ◌++◌, length, take, drop, set, length-append}
use Rattle.laws.proofs.Kit.{append-nil, length-set, drop-length, sets, add-zero, zero-add, arith}
use lib.Seq.{sets-eq, set_out}

pub sets-sets : (a b l : List ℕ) (i j : ℕ) → j ≡ i + length a → sets (sets l i a) j b ≡ sets l i (a ++ b)
sets-sets [] b l i j e = ap (λ (k : ℕ). sets l k b) (e ∙ add-zero i)
sets-sets (x ∷ a) b l i j e = sets-sets a b (set l i x) (suc i) j (omega arith)

-- The same, as what two calls leave.
pub stored-twice : (a b l : List ℕ) {m n : List ℕ} (i j : ℕ) → m ≡ sets l i a → n ≡ sets m j b → j ≡ i + length a → n ≡ sets l i (a ++ b)
stored-twice a b l i j p q e = rw (q, p) (sets-sets a b l i j e)

-- A run from the start that the list has room for.
pub sets-start : (a l : List ℕ) → length a ≤ length l → sets l 0 a ≡ a ++ drop (length a) l
sets-start a l h = sets-eq a l 0 (omega arith) ∙ ap (λ (k : ℕ). a ++ drop k l) (zero-add (length a))

-- Bytes that are put after a front of the output.
pub put-after : (front bytes out : List ℕ) (k : ℕ) {m n : List ℕ} → length front ≡ k → k + length bytes ≤ length out
    → m ≡ front ++ drop k out → n ≡ sets m k bytes → n ≡ (front ++ bytes) ++ drop (k + length bytes) out
put-after front bytes out k l fits p q =
    let whole : length (front ++ bytes) ≡ k + length bytes = rw (length-append, l) in
    stored-twice front bytes out 0 k (p ∙ rw (sets-start front out (omega arith), l)) q (omega arith)
    ∙ rw (sets-start (front ++ bytes) out (omega arith), whole)

-- A run that begins past the end.
pub sets-past : (s l : List ℕ) (at : ℕ) → length l ≤ at → sets l at s ≡ l
sets-past [] l at h = refl
sets-past (x ∷ s) l at h = rw (set_out l at x h) (sets-past s l (suc at) (omega arith))

-- A run that is cut at the end of the list.
pub sets-cut : (s l : List ℕ) (at n : ℕ) → length l ≤ at + n → sets l at (take n s) ≡ sets l at s
sets-cut s l at zero h = sym (sets-past s l at (omega arith))
sets-cut [] l at (suc n) h = refl
sets-cut (x ∷ s) l at (suc n) h = sets-cut s (set l at x) (suc at) n (rw length-set (omega arith))

-- `m` is `l` with `bs` stored from place i on. A store after them makes the run longer.
pub record Run (i : ℕ) (l bs m : List ℕ) : Type 0 where
  pub is : m ≡ sets l i bs

pub run : (i : ℕ) (l : List ℕ) → Run i l [] l
run i l = record { is = refl }

pub then : (b : List ℕ) (j : ℕ) {i : ℕ} {l bs m n : List ℕ} → Run i l bs m → n ≡ sets m j b → j ≡ i + length bs → Run i l (bs ++ b) n
then b j {i} {l} {bs} r q e = record { is = stored-twice bs b l i j r.is q e }

-- Stores from the start over the whole of a list.
pub sets-whole : (a l : List ℕ) → length l ≡ length a → sets l 0 a ≡ a
sets-whole a l e =
    let k : length a ≤ length l = omega arith in
    rw (sets-start a l k, ← e, drop-length l, append-nil)
