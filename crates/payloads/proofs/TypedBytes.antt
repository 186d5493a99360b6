-- SPDX-License-Identifier: MPL-2.0
-- A format whose numbers have their widths is written in bytes, for values that fit and are as the types of a call have them; what is read from
-- bytes is as these types have it.
use Rattle.laws.proofs.Kit.{ℕ, zero, suc, ◌+◌, ◌<◌, ◌≡◌, Bool, true, ◌&&◌, List, [], ◌∷◌, ◌++◌, length, eqb, leb, ltb, leb-true, ltb-true, arith}
use mathlib.Core.List.{flat_map}
use Rattle.laws.specs.Bytes.{AreBytes}
use Rattle.laws.specs.Runs.{gathered}
use Rattle.laws.proofs.Bools.{and-true}
use Rattle.laws.proofs.ByteLists.{nil-bytes, cons-bytes, append-bytes, bytes_at-bytes, bytes16-bytes, bytes32-bytes, bytes64-bytes}
use Rattle.laws.proofs.Numbers.{be16-below, be32-below}
use Rattle.payloads.specs.Entries.{entry_at, all}
use Rattle.payloads.specs.Format.{Width, one, two, four, eight, width_of, number_at, number_bytes, Format, Values, fits, write, ends_from, read_from}
use Rattle.payloads.specs.Format.{end, fixed, free, array, sized, counted}
use Rattle.payloads.specs.Typed.{limit_of, has_widths, Every, Typed}

number_bytes-bytes : (w : Width) (x : ℕ) → x < limit_of w → AreBytes (number_bytes w x)
number_bytes-bytes one x h = cons-bytes h nil-bytes
number_bytes-bytes two x h = bytes16-bytes x h
number_bytes-bytes four x h = bytes32-bytes x h
number_bytes-bytes eight x h = bytes64-bytes x h

-- A number of bytes or entries within a most that has room.
size-bytes : (w : Width) (n most : ℕ) → leb n most ≡ true → ltb most (limit_of w) ≡ true → AreBytes (number_bytes w n)
size-bytes w n most h k = number_bytes-bytes w n (omega (arith, leb-true n most h, ltb-true most (limit_of w) k))

module _ {A : Type 0} (P : A → Type 0) where
  every_append : (vs : List A) (v : A) → Every P vs → P v → Every P (vs ++ (v ∷ []))
  unfolding Every
  every_append [] v e p = (p, tt)
  every_append (u ∷ vs) v e p = (e.0, every_append vs v e.1 p)

  every-gathered : (f : ℕ → A) (n : ℕ) → ((i : ℕ) → P (f i)) → Every P (gathered f n)
  unfolding gathered Every
  every-gathered f zero p = tt
  every-gathered f (suc n) p = every_append (gathered f n) (f n) (every-gathered f n p) (p n)

  -- Values that are each written in bytes.
  all-bytes : (test : A → Bool) (write : A → List ℕ) → ((v : A) → test v ≡ true → P v → AreBytes (write v))
      → (vs : List A) → all test vs ≡ true → Every P vs → AreBytes (flat_map write vs)
  unfolding all flat_map Every
  all-bytes test write single [] h e = nil-bytes
  all-bytes test write single (v ∷ vs) h e =
      let k = and-true (test v) (all test vs) h in
      append-bytes (single v k.0 e.0) (all-bytes test write single vs k.1 e.1)

pub written-bytes : (f : Format) (v : Values f) → has_widths f ≡ true → fits f v ≡ true → Typed f v → AreBytes (write f v)
unfolding has_widths fits Typed write
written-bytes end v s h t = nil-bytes
written-bytes (fixed w n f) v s h t =
    let k = and-true (ltb n (limit_of w)) (has_widths f) s in
    append-bytes (number_bytes-bytes w n (ltb-true n (limit_of w) k.0)) (written-bytes f v k.1 h t)
written-bytes (free w allowed f) (x, v) s h t =
    append-bytes (number_bytes-bytes w x t.0) (written-bytes f v s (and-true (allowed x) (fits f v) h).1 t.1)
written-bytes (array size f) (b, v) s h t =
    append-bytes t.0 (written-bytes f v s (and-true (eqb (length b) size) (fits f v) h).1 t.1)
written-bytes (sized w least most f) (b, v) s h t =
    let k = and-true (ltb most (limit_of w)) (has_widths f) s in
    let l = and-true (leb least (length b) && leb (length b) most) (fits f v) h in
    let small = (and-true (leb least (length b)) (leb (length b) most) l.0).1 in
    append-bytes (size-bytes w (length b) most small k.0) (append-bytes t.0 (written-bytes f v k.1 l.1 t.1))
written-bytes (counted w most entry f) (vs, v) s h t =
    let k = and-true (ltb most (limit_of w) && has_widths entry) (has_widths f) s in
    let m = and-true (ltb most (limit_of w)) (has_widths entry) k.0 in
    let l = and-true (leb (length vs) most && all (fits entry) vs) (fits f v) h in
    let c = and-true (leb (length vs) most) (all (fits entry) vs) l.0 in
    let entries = all-bytes (Typed entry) (fits entry) (write entry) (λ u. written-bytes entry u m.1) vs c.1 t.0 in
    append-bytes (size-bytes w (length vs) most c.0 m.0) (append-bytes entries (written-bytes f v k.1 l.1 t.1))

module _ (p : List ℕ) (bytes : AreBytes p) where
  number-below : (w : Width) (at : ℕ) → number_at w p at < limit_of w
  number-below one at = bytes.at at
  number-below two at = be16-below p bytes at
  number-below four at = be32-below p bytes at
  number-below eight at = omega (arith, be32-below p bytes at, be32-below p bytes (at + 4))

  pub typed-read : (f : Format) (at : ℕ) → Typed f (read_from f p at)
  unfolding Typed read_from
  typed-read end at = tt
  typed-read (fixed w n f) at = typed-read f (at + width_of w)
  typed-read (free w allowed f) at = (number-below w at, typed-read f (at + width_of w))
  typed-read (array size f) at = (bytes_at-bytes p at size bytes, typed-read f (at + size))
  typed-read (sized w least most f) at =
      (bytes_at-bytes p (at + width_of w) (number_at w p at) bytes, typed-read f (at + width_of w + number_at w p at))
  typed-read (counted w most entry f) at =
      let n = number_at w p at in
      let place = entry_at (ends_from entry p) (at + width_of w) in
      (every-gathered (Typed entry) (λ i. read_from entry p (place i)) n (λ i. typed-read entry (place i)), typed-read f (place n))
