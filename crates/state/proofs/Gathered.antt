-- SPDX-License-Identifier: MPL-2.0
-- The first values of a function as a list: its elements, and the calls that make an array of them.
use Rattle.laws.proofs.Kit.{ℕ, zero, suc, ◌+◌, ◌≤◌, ◌<◌, ◌≡◌, refl, sym, ◌∙◌, ap, List, [], ◌∷◌, get_or}
use Rattle.laws.proofs.Kit.{add-zero, zero-add, ⊎_elim, arith}
use lib.ListN.{get_or-append}
use lib.Seq.{ext_get_or, get_or_at}
use denote.Param.Members.{Mut, Called}
use Rattle.std.specs.Array.{IsFromFnResultFrom, IsFromFnResult}
use Rattle.laws.specs.Bytes.{be8, bytes_at}
use Rattle.laws.proofs.Order.{lt-or-ge}
use Rattle.laws.specs.Runs.{gathered}
use Rattle.laws.proofs.Runs.{length-gathered}

module _ {A : Type 0} (f : ℕ → A) where
  pub gathered-at : (d : A) (n i : ℕ) → i < n → get_or (gathered f n) i d ≡ f i
  unfolding gathered
  gathered-at d zero i l = absurd (omega arith)
  gathered-at d (suc n) i l =
      ⊎_elim (λ p. get_or-append (gathered f n) (f n ∷ []) d i (rw (length-gathered f n) p) ∙ gathered-at d n i p)
      (λ (p : n ≤ i). let k : n ≡ i = omega arith in get_or_at (gathered f n) (f n) [] d i (length-gathered f n ∙ k) ∙ ap f k) (lt-or-ge i n)

-- What calls of a closure made that stays as it is, at each index in turn, is such a list.
module _ {F B : Type 0} (g : Mut F (ℕ × Unit {0}) B) (h : ℕ → B) (f : F) (n : ℕ) (ys : List B)
    (step : (i : ℕ) (y : B) (q : F) → i < n → Called g f (i, tt) y q → (q ≡ f) × (y ≡ h i)) where
  made-at : (p : F) (i m k : ℕ) (d : B) → p ≡ f → i + m ≤ n → IsFromFnResultFrom g p ys i m → k < m → get_or ys (i + k) d ≡ h (i + k)
  made-at p i zero k d e b r l = absurd (omega arith)
  made-at p i (suc m) zero d e b (q, y, at, call, rest) l = rw add-zero (at.1 d ∙ (step i y q (omega arith) (rw e at call)).1)
  made-at p i (suc m) (suc k) d e b (q, y, at, call, rest) l =
      let j : i + suc k ≡ i + 1 + k = omega arith in
      rw j (made-at q (i + 1) m k d (step i y q (omega arith) (rw e at call)).0 (omega arith) rest (omega arith))

  pub made : B → IsFromFnResult g f ys n → ys ≡ gathered h n
  made d r =
      ext_get_or d ys (gathered h n) (r.long ∙ sym (length-gathered h n))
      (λ k l. let b : k < n = rw r.long at l in rw zero-add at (made-at f 0 n k d refl (omega arith) r.each b) ∙ sym (gathered-at h d n k b))

-- The bytes at a place are such a list.
pub bytes_at-gathered : (s : List ℕ) (at n : ℕ) → bytes_at s at n ≡ gathered (λ (i : ℕ). be8 s (at + i)) n
unfolding bytes_at gathered
bytes_at-gathered s at zero = refl
bytes_at-gathered s at (suc n) = rw (bytes_at-gathered s at n)

-- Two such lists are the same where the values are.
pub gathered-same : {A : Type 0} (f g : ℕ → A) (n : ℕ) → ((i : ℕ) → i < n → f i ≡ g i) → gathered f n ≡ gathered g n
unfolding gathered
gathered-same f g zero h = refl
gathered-same f g (suc n) h = rw (gathered-same f g n (λ i l. h i (omega arith)), h n (omega arith))
