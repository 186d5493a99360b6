-- SPDX-License-Identifier: MPL-2.0
-- Parts one after the other: as they are stored, and as they stand in a list, each at its place.
use Rattle.laws.proofs.Kit.{ℕ, ◌+◌, ◌-◌, ◌≤◌, ◌≡◌, refl, ◌∙◌, subst, List, [], ◌∷◌, ◌++◌, append_assoc, length, take, drop}
use Rattle.laws.proofs.Kit.{add-sub_cancel_left, length-append, sets}
use Rattle.laws.specs.Bytes.{bytes_at}
use Rattle.laws.proofs.Parts.{part-back, bytes_at-part, bytes_at-append}
use Rattle.laws.proofs.Stores.{sets-sets}
use Rattle.state.specs.State.{joined}

-- Stored from place i on, each where the one before it ends, they are one run.
abbrev pub stored : List ℕ → ℕ → List (List ℕ) → List ℕ
stored l i [] = l
stored l i (x ∷ xs) = stored (sets l i x) (i + length x) xs

pub stored-joined : (l : List ℕ) (i : ℕ) (xs : List (List ℕ)) → stored l i xs ≡ sets l i (joined xs)
stored-joined l i [] = refl
stored-joined l i (x ∷ xs) = stored-joined (sets l i x) (i + length x) xs ∙ sets-sets x (joined xs) l i (i + length x) refl

-- They stand in s from place p on.
abbrev pub Stand : List ℕ → ℕ → List (List ℕ) → Type 0
Stand s p [] = Unit
Stand s p (x ∷ xs) = (bytes_at s p (length x) ≡ x) × Stand s (p + length x) xs

-- So they do in a list that is joined from them, after a front of that length.
pub joined-stand : (a : List ℕ) (xs : List (List ℕ)) → Stand (a ++ joined xs) (length a) xs
joined-stand a [] = tt
joined-stand a (x ∷ xs) =
    let rest : Stand ((a ++ x) ++ joined xs) (length a + length x) xs =
    subst (λ (n : ℕ). Stand ((a ++ x) ++ joined xs) n xs) (length-append a x) (joined-stand (a ++ x) xs) in (
      part-back a x (joined xs) (length a) (length x) refl refl,
      subst (λ (l : List ℕ). Stand l (length a + length x) xs) (append_assoc a x (joined xs)) rest,
    )

-- And where they stand, they are the bytes there.
pub stand-joined : (s : List ℕ) (p : ℕ) (xs : List (List ℕ)) → Stand s p xs → joined xs ≡ bytes_at s p (length (joined xs))
unfolding bytes_at
stand-joined s p [] w = refl
stand-joined s p (x ∷ xs) w =
    rw (length-append x (joined xs), bytes_at-append s p (length x) (length (joined xs)), w.0, ← stand-joined s (p + length x) xs w.1)

-- A copy of the part `&s[p..p + n]` holds the bytes there.
pub copied-bytes : (n p : ℕ) (s r : List ℕ) → p + n ≤ length s → r ≡ take (p + n - p) (drop p s) → r ≡ bytes_at s p n
copied-bytes n p s r h e = rw (bytes_at-part s p n h, ← add-sub_cancel_left p n) e
