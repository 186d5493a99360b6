-- SPDX-License-Identifier: MPL-2.0
-- A block's bytes: where they stand in one part of the message, and as they are laid out of its parts.
use Prim.Native.Nat.{max}
use Rattle.laws.proofs.Kit.{ℕ, zero, suc, ◌+◌, ◌-◌, min, ◌≤◌, ◌<◌, ◌≡◌, refl, sym, ◌∙◌, List, [], ◌++◌, length, take, drop, get_or, replicate}
use Rattle.laws.proofs.Kit.{length-append, length-drop, List·getD-eq-default, take_at, drop_at, ⊎_elim, arith}
use borrow.Rule.Slice.PartMut.{put_mid}
use lib.ListN.{get_or-append}
use lib.Seq.{get_or-append-add}
use Rattle.std.specs.Array.{IsFirstChunk}
use Rattle.std.specs.List.{between}
use Rattle.std.proofs.lemmas.Slice.{between_to_end}
use Rattle.laws.specs.Bytes.{bytes_at}
use Rattle.laws.proofs.Order.{lt-or-ge}
use Rattle.laws.proofs.Parts.{length-bytes_at, bytes_at-append, bytes_at-part, bytes_at-take}

bytes_at-eq : (a b : List ℕ) (i j n : ℕ) → ((k : ℕ) → k < n → get_or a (i + k) 0 ≡ get_or b (j + k) 0) → bytes_at a i n ≡ bytes_at b j n
unfolding bytes_at
bytes_at-eq a b i j zero h = refl
bytes_at-eq a b i j (suc n) h = rw (bytes_at-eq a b i j n (λ k p. h k (omega arith)), h n (omega arith))

-- bytes after a front
pub bytes_at-past : (front m : List ℕ) (at i n : ℕ) → at ≡ length front + i → bytes_at (front ++ m) at n ≡ bytes_at m i n
bytes_at-past front m at i n e = bytes_at-eq (front ++ m) m at i n
    λ k p. let q : at + k ≡ length front + (i + k) = omega arith in rw q (get_or-append-add front m (i + k) 0)

-- zeros are the block of no message
pub no_message : (at : ℕ) → replicate 64 0 ≡ bytes_at [] at 64
unfolding bytes_at
no_message at = refl

-- a block that lies in one part, where it stands
pub in_part : (before part after rest block : List ℕ) (i ahead at : ℕ) → length before ≡ ahead → (ahead ≤ at) × (i ≡ at - ahead)
    → rest ≡ between i (length part) part → IsFirstChunk rest block 64 → block ≡ bytes_at (before ++ (part ++ after)) at 64
in_part before part after rest block i ahead at e n r b =
    let d : rest ≡ drop i part = r ∙ between_to_end part i (length part) (omega arith) in
    let h : 64 ≤ length (drop i part) = rw d at b.enough in
    let l : i + 64 ≤ length part = omega (arith, length-drop i part) in
    rw (b.same, d, bytes_at-past before (part ++ after) at i 64 (omega arith), ← bytes_at-take (part ++ after) (length part) i 64 l)
    (rw (take_at part after (length part) refl) (sym (bytes_at-part part i 64 l)))

-- a part is laid after what stands before it, at the places from `from` up to `to` of the message, which are those that it and the block have
module _ (front part : List ℕ) (ahead at from to : ℕ) (l : length front ≡ ahead) (f : from ≡ max at ahead)
    (t : to ≡ min (at + 64) (ahead + length part)) where
  elsewhere : (i : ℕ) → (ahead ≤ i → i < ahead + length part → ⊥) → get_or front i 0 ≡ get_or (front ++ part) i 0
  elsewhere i out = ⊎_elim
      (λ (p : i < ahead). sym (get_or-append front part 0 i (omega arith)))
      (λ (p : ahead ≤ i).
      let past : ahead + length part ≤ i = omega (arith, out p) in
      List·getD-eq-default front 0 (omega arith) ∙ sym (List·getD-eq-default (front ++ part) 0 (rw length-append (omega arith)))) (lt-or-ge i ahead)

  untouched : (i n : ℕ) → ((k : ℕ) → k < n → ahead ≤ i + k → i + k < ahead + length part → ⊥) → bytes_at front i n ≡ bytes_at (front ++ part) i n
  untouched i n out = bytes_at-eq front (front ++ part) i i n (λ k p. elsewhere (i + k) (out k p))

  -- nothing, where they have no place in common
  pub laid_none : to ≤ from → bytes_at front at 64 ≡ bytes_at (front ++ part) at 64
  laid_none none = untouched at 64 (λ k p q r. omega arith)

  -- a block is three runs: what stands before, the places in common, and the r after them
  runs : (m : List ℕ) (r : ℕ) → from < to → to + r ≡ at + 64 → bytes_at m at 64 ≡ bytes_at m at (from - at) ++ (bytes_at m from (to - from) ++ bytes_at m to r)
  runs m r some d =
      let e : from - at + (to - from + r) ≡ 64 = omega arith in
      let g : at + (from - at) ≡ from = omega arith in
      let h : from + (to - from) ≡ to = omega arith in
      rw (← e, bytes_at-append m at (from - at) (to - from + r), g, bytes_at-append m from (to - from) r, h)

  -- else those places
  pub laid : (block back : List ℕ) (a n k : ℕ) → a ≡ from - at → n ≡ to - from → k ≡ to - from → from < to → block ≡ bytes_at front at 64
      → back ≡ take k (drop (from - ahead) part) → put_mid a n block back ≡ bytes_at (front ++ part) at 64
  laid block back a n k ea en ek some e b =
      let r = at + 64 - to in
      let d : to + r ≡ at + 64 = omega arith in
      let x = bytes_at front at (from - at) in
      let y = bytes_at front from (to - from) in
      let z = bytes_at front to r in
      let lx : length x ≡ a = length-bytes_at front at (from - at) ∙ sym ea in
      let ly : length y ≡ n = length-bytes_at front from (to - from) ∙ sym en in
      let before : x ≡ bytes_at (front ++ part) at (from - at) = untouched at (from - at) (λ i p q s. omega arith) in
      let after : z ≡ bytes_at (front ++ part) to r = untouched to r (λ i p q s. omega arith) in
      let common : back ≡ bytes_at (front ++ part) from (to - from) =
      rw (b, ek, bytes_at-past front part from (from - ahead) (to - from) (omega arith)) (sym (bytes_at-part part (from - ahead) (to - from) (omega arith))) in
      rw (e, runs front r some d, take_at x (y ++ z) a lx, drop_at x (y ++ z) a lx, drop_at y z n ly)
      (rw (before, after, common) (sym (runs (front ++ part) r some d)))
