-- SPDX-License-Identifier: MPL-2.0
-- The place after a mark, and the bytes that reads bring one after the other.
use Rattle.laws.proofs.Kit.{ℕ, ◌+◌, ◌-◌, ◌≤◌, min, ◌≡◌, List, ◌++◌, length, take, drop, length-take-le, length-drop, drop-length, eqb}
use Rattle.laws.proofs.Kit.{leb, leb-true, leb-false, arith}
use Rattle.std.proofs.Common.{Option, Some, None}
use Rattle.std.specs.Io.KnownBytes.{Consumes}
use Rattle.std.proofs.KnownBytes.{Consumes-trans}
use borrow.Rule.Slice.PartMut.{put_mid, post_of}
use lib.Seq.{take-append-add, take-append-le}
use Rattle.laws.proofs.Cases.{on}
use Rattle.std.specs.List.{position}
use Rattle.intake.specs.Buffer.{after_mark}

-- The place after a mark, by what the search from a place on answers; it begins at the end where the place is past it.
module _ (text : List ℕ) (at mark : ℕ) where
  within-found : (found : ℕ) → at ≤ length text → Some found ≡ position (λ b. eqb b mark) (drop at text) → at + found + 1 ≡ after_mark text at mark
  unfolding after_mark
  within-found found h e = grind (arith, length-drop {A = ℕ})

  within-none : at ≤ length text → None ≡ position (λ b. eqb b mark) (drop at text) → length text ≡ after_mark text at mark
  unfolding after_mark
  within-none h e = grind (arith, length-drop {A = ℕ})

  module _ (start : ℕ) (s : start ≡ min at (length text)) where
    pub mark-found : (found : ℕ) → Some found ≡ position (λ b. eqb b mark) (drop start text) → start + found + 1 ≡ after_mark text at mark
    mark-found found e =
        on (leb at (length text)) (λ p.
        let h = leb-true at (length text) p in
        let m : start ≡ at = omega arith in
        rw m (within-found found h (rw m at e)))
        λ p. let m : start ≡ length text = omega (arith, leb-false at (length text) p) in let none = rw (m, drop-length) at e in cc

    pub mark-none : None ≡ position (λ b. eqb b mark) (drop start text) → length text ≡ after_mark text at mark
    unfolding after_mark
    mark-none e =
        on (leb at (length text)) (λ p.
        let h = leb-true at (length text) p in
        let m : start ≡ at = omega arith in
        within-none h (rw m at e))
        (λ p. omega (arith, leb-false at (length text) p))

-- What a read brings comes after what the reads before it brought.
pub reads-more : (l y : List ℕ) (done more : ℕ) (a b c : Option (List ℕ)) → done ≤ length l → more ≤ length y → Consumes a b (take done l)
    → Consumes b c (take more y) → Consumes a c (take (done + more) (put_mid done (length l - done) l y))
reads-more l y done more a b c h k p q =
    let after = post_of done (length l - done) l in
    let n : length (take done l) ≡ done = length-take-le done l h in
    let all = rw n at (take-append-add (take done l) (y ++ after) more) in
    rw (all, take-append-le more y after k) (Consumes-trans a b c _ _ p q)
