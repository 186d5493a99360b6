-- SPDX-License-Identifier: MPL-2.0
-- The tests of the code step over the fields of a description, one field at a time, by a law for each kind of field; where two formats begin
-- alike, their beginning is tested once.
use Rattle.laws.proofs.Kit.{ℕ, ◌+◌, ◌≡◌, refl, Bool, ◌&&◌, ◌||◌, List, length, eqb, leb}
use Rattle.laws.specs.Bytes.{be8, be16}
use Rattle.laws.proofs.Bools.{and_assoc, and-or}
use Rattle.payloads.specs.Format.{Width, width_of, number_at, Format, ends_from, holds_from, accepts_from, accepts}
use Rattle.payloads.specs.Format.{end, fixed, free, array, sized, counted}
use Rattle.payloads.specs.Entries.{entry_at, each}
use Rattle.payloads.specs.Shapes.{of_type}

module _ (p : List ℕ) where
  pub over-fixed : (w : Width) (n at : ℕ) (f : Format) {x : ℕ} {r : Bool} → x ≡ number_at w p at → r ≡ accepts_from f p (at + width_of w)
      → (eqb x n && r) ≡ accepts_from (fixed w n f) p at
  unfolding accepts_from holds_from ends_from
  over-fixed w n at f {x} d e = rw (e, ← d) (and_assoc (eqb x n) _ _)

  pub over-free : (w : Width) (allowed : ℕ → Bool) (at : ℕ) (f : Format) {x : ℕ} {r : Bool} → x ≡ number_at w p at
      → r ≡ accepts_from f p (at + width_of w) → (allowed x && r) ≡ accepts_from (free w allowed f) p at
  unfolding accepts_from holds_from ends_from
  over-free w allowed at f {x} d e = rw (e, ← d) (and_assoc (allowed x) _ _)

  pub over-array : (size at : ℕ) (f : Format) {r : Bool} → r ≡ accepts_from f p (at + size) → r ≡ accepts_from (array size f) p at
  unfolding accepts_from holds_from ends_from
  over-array size at f e = e

  pub over_sized : (w : Width) (least most at : ℕ) (f : Format) {n : ℕ} {r : Bool} → n ≡ number_at w p at → r ≡ accepts_from f p (at + width_of w + n)
      → (leb least n && leb n most && r) ≡ accepts_from (sized w least most f) p at
  unfolding accepts_from holds_from ends_from
  over_sized w least most at f {n} d e = rw (e, ← d) (and_assoc (leb least n && leb n most) _ _)

  -- Entries, where the code has gone from one to the next: each passed its test, and the last ended at a place.
  pub over-counted : (w : Width) (most : ℕ) (entry : Format) (at : ℕ) (f : Format) {n : ℕ} {good r : Bool}
      → let place = entry_at (ends_from entry p) (at + width_of w) in
      n ≡ number_at w p at → good ≡ each (λ i. holds_from entry p (place i)) n → r ≡ accepts_from f p (place n)
      → (leb n most && good && r) ≡ accepts_from (counted w most entry f) p at
  unfolding accepts_from holds_from ends_from
  over-counted w most entry at f {n} {good} d g e = rw (e, g, ← d) (and_assoc (leb n most && each _ n) _ _)

  pub at-end : (at : ℕ) → eqb (length p) at ≡ accepts_from end p at
  unfolding accepts_from holds_from ends_from
  at-end at = refl

  -- Mode and type.
  pub over-start : (type : ℕ) (f : Format) {s r : Bool} → s ≡ (leb (be16 p 0) 2 && eqb (be8 p 2) type) → r ≡ accepts_from f p 3
      → (s && r) ≡ accepts (of_type type f) p
  unfolding accepts_from holds_from ends_from
  over-start type f d e = rw (d, e) (simp and_assoc)

  pub over-either : (type : ℕ) (f g : Format) {s r t : Bool} → s ≡ (leb (be16 p 0) 2 && eqb (be8 p 2) type) → r ≡ accepts_from f p 3
      → t ≡ accepts_from g p 3 → (s && (r || t)) ≡ (accepts (of_type type f) p || accepts (of_type type g) p)
  over-either type f g {s} {r} {t} d e h = rw (← over-start type f d e, ← over-start type g d h) (and-or s r t)
