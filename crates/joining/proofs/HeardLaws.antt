-- SPDX-License-Identifier: MPL-2.0
-- Laws of the heard set, over any number of indexes.
use Rattle.laws.proofs.Kit.{ℕ, zero, suc, ◌+◌, ◌≤◌, ◌<◌, ◌≡◌, refl, sym, ◌∙◌, ap, Bool, true, false, true≢false, not, ◌||◌, List, [], ◌∷◌, length, set}
use Rattle.laws.proofs.Kit.{get_or-set_same, get_or-set_other, eqb, eq-eqb, ne_eqb, eqb-true, eqb-false, zero-add, arith}
use Prim.Native.Nat.{zero-le}
use mir.Val.{bool_byte}
use mathlib.Core.Bool.{beq}
use Rattle.std.specs.List.{list_any}
use lib.Seq.{set-get_or, take-nil}
use Rattle.laws.proofs.Bools.{or-true, or-none}
use Rattle.laws.proofs.Cases.{on}
use Rattle.joining.specs.Heard.{bit, tally, come, has, mark, none}

-- A bool read as a number.
pub bit_byte : (b : Bool) → (bool_byte b ≡ bit b) × (bit b ≤ 1)
bit_byte true = (refl, omega arith)
bit_byte false = (refl, omega arith)

pub bit_le : (b : Bool) → bit b ≤ 1
bit_le b = (bit_byte b).1

-- One index more, in order.
pub come-suc : (h : List Bool) (i : ℕ) → come (suc i) h ≡ come i h + bit (has h i)
come-suc [] i = simp take-nil
come-suc (b ∷ bs) zero = omega arith
come-suc (b ∷ bs) (suc i) = omega (arith, come-suc bs i)

pub come-le : (n : ℕ) (h : List Bool) → come n h ≤ n
come-le zero h = zero-le
come-le (suc n) h = omega (arith, come-suc h n, bit_le (has h n), come-le n h)

-- Those under n are some of all.
pub come-tally : (n : ℕ) (h : List Bool) → come n h ≤ tally h
come-tally zero h = zero-le
come-tally (suc n) [] = zero-le
come-tally (suc n) (b ∷ bs) = omega (arith, come-tally n bs)

-- What is heard is counted.
pub tally-some : (h : List Bool) (i : ℕ) → has h i ≡ true → 0 < tally h
tally-some h i e = let b : bit (has h i) ≡ 1 = ap bit e in omega (arith, come-suc h i, come-tally (suc i) h)

-- Nothing stands in a set after its first n indexes: they are all that is counted.
pub tally-come : (n : ℕ) (h : List Bool) → ((i : ℕ) → n ≤ i → has h i ≡ false) → tally h ≡ come n h
tally-come n [] f = simp take-nil
tally-come zero (b ∷ bs) f =
    let z : bit b ≡ 0 = ap bit (f 0 (omega arith)) in
    omega (arith, tally-come zero bs (λ i l. f (suc i) (omega arith)))
tally-come (suc n) (b ∷ bs) f = omega (arith, tally-come n bs (λ i l. f (suc i) (omega arith)))

-- To mark what is heard changes nothing.
pub mark-known : (h : List Bool) (i : ℕ) → has h i ≡ true → mark h i ≡ h
mark-known h i e = ap (λ (b : Bool). set h i b) (sym e) ∙ set-get_or h i false

-- Some index is heard where the count is not 0.
pub any-tally : (h : List Bool) → list_any (λ b. beq b true) h ≡ not (eqb (tally h) 0)
any-tally [] = refl
any-tally (true ∷ bs) = sym (ap not (ne_eqb (1 + tally bs) 0 (λ z. omega arith)))
any-tally (false ∷ bs) = any-tally bs ∙ ap (λ (n : ℕ). not (eqb n 0)) (sym (zero-add (tally bs)))

pub mark-has : (h : List Bool) (i j : ℕ) → i < length h → has (mark h i) j ≡ (has h j || eqb j i)
mark-has h i j l =
    on (eqb j i) (λ e. rw (e, eqb-true j i e, or-true (has h i)) (get_or-set_same h i true false l))
    (λ e. rw (e, or-none (has h j)) (get_or-set_other h i j true false (eqb-false j i e)))

pub has-none : (N i : ℕ) → has (none N) i ≡ false
has-none zero i = refl
has-none (suc N) zero = refl
has-none (suc N) (suc i) = has-none N i

pub tally-none : (N : ℕ) → tally (none N) ≡ 0
tally-none N = tally-come 0 (none N) (λ i l. has-none N i)

-- All indexes below n are heard: the test, and what it says.
abbrev pub full : ℕ → List Bool → Bool
full n h = eqb (come n h) n

come-few : (n : ℕ) (h : List Bool) (i : ℕ) → i < n → has h i ≡ false → come n h < n
come-few zero h i l e = absurd (omega arith)
come-few (suc n) [] i l e = omega arith
come-few (suc n) (b ∷ bs) zero l e = let z : bit b ≡ 0 = ap bit e in omega (arith, come-le n bs)
come-few (suc n) (b ∷ bs) (suc i) l e = omega (arith, bit_le b, come-few n bs i (omega arith) e)

pub not_full : (n : ℕ) (h : List Bool) (i : ℕ) → i < n → has h i ≡ false → full n h ≡ false
not_full n h i l e = ne_eqb (come n h) n (λ z. omega (arith, come-few n h i l e))

pub full-has : (n : ℕ) (h : List Bool) → full n h ≡ true → (i : ℕ) → i < n → has h i ≡ true
full-has n h e i l = on (has h i) (λ t. t) (λ z. absurd (true≢false (sym e ∙ not_full n h i l z)))

has-come : (n : ℕ) (h : List Bool) → ((i : ℕ) → i < n → has h i ≡ true) → come n h ≡ n
has-come zero h f = refl
has-come (suc n) h f =
    let b : bit (has h n) ≡ 1 = ap bit (f n (omega arith)) in
    omega (arith, come-suc h n, has-come n h (λ i l. f i (omega arith)))

pub has-full : (n : ℕ) (h : List Bool) → ((i : ℕ) → i < n → has h i ≡ true) → full n h ≡ true
has-full n h f = eq-eqb (come n h) n (has-come n h f)
