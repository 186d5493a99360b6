-- SPDX-License-Identifier: MPL-2.0
-- The end of a block against a run of one byte, from the block's end down.
use Rattle.laws.proofs.Kit.{ℕ, suc, ◌-◌, ◌≤◌, ◌<◌, ◌≡◌, subst, Bool, true, false, not, ◌&&◌, ◌||◌, List, length, drop}
use Rattle.laws.proofs.Kit.{get_or, replicate, eqb, leb, le-leb, leb-true, leb-false, arith}
use lib.Seq.{drop-cons}
use Rattle.laws.specs.Same.{same}
use Rattle.laws.proofs.Bools.{or-none, or-true}
use Rattle.laws.proofs.Cases.{on}

-- The bytes from place i on are those of a run, or one is another.
abbrev pub Tells : List ℕ → (byte i : ℕ) → Bool → Type 0
Tells block byte i bad = bad ≡ not (same (drop i block) (replicate (16 - i) byte))

not-both : (a b : Bool) → not a || not b ≡ not (b && a)
not-both a true = or-none (not a)
not-both a false = or-true (not a)

end_more : (block : List ℕ) (byte i : ℕ) (bad : Bool) → length block ≡ 16 → i < 16
    → Tells block byte (suc i) bad → Tells block byte i (bad || not (eqb (get_or block i 0) byte))
end_more block byte i bad l p e =
    let k : 16 - i ≡ suc (16 - suc i) = omega arith in
    rw (e, k, drop-cons block i 0 (omega arith)) (not-both _ (eqb (get_or block i 0) byte))

-- The bytes from place i on were looked at, of which those count that stand at `from` or past it.
pub record Looked (block : List ℕ) (byte from i : ℕ) (bad : Bool) : Type 0 where
  pub past : from ≤ i → Tells block byte i bad
  pub before : i ≤ from → Tells block byte from bad

-- After a look at place i.
abbrev pub looked : List ℕ → (byte from i : ℕ) → Bool → Bool
looked block byte from i bad = bad || (leb from i && not (eqb (get_or block i 0) byte))

pub end-turn : (block : List ℕ) (byte from i : ℕ) (bad : Bool) → length block ≡ 16 → i < 16 → Looked block byte from (suc i) bad
    → Looked block byte from i (looked block byte from i bad)
end-turn block byte from i bad l p h =
    let next = looked block byte from i bad in
    let here : from ≤ i → Tells block byte i next =
    λ q. rw (le-leb from i q) (end_more block byte i bad l p (h.past (omega (arith, q)))) in
    record {
      past = here;
      before = λ q. on (leb from i)
          (λ e.
          let k = leb-true from i e in
          let same_place : i ≡ from = omega (arith, q, k) in
          subst (λ (k : ℕ). Tells block byte k next) same_place (here k))
          λ e. rw (e, or-none bad) (h.before (omega (arith, leb-false from i e)));
    }
