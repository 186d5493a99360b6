-- SPDX-License-Identifier: MPL-2.0
-- One theorem each way, over any format, field by field: what was written is accepted and read back; what is accepted is what the writer writes
-- for the values that were read. Entries are of a format too, a smaller one, so that the same holds of each (proofs/Entries: of all).
use Rattle.laws.proofs.Kit.{ℕ, ◌+◌, ◌≤◌, ◌≡◌, refl, sym, true, ◌&&◌, List, [], ◌++◌, append-nil, append_assoc, length, drop}
use Rattle.laws.proofs.Kit.{length-append, drop-length, eqb, leb, eq-eqb, eqb-true, leb-true, zero-add, arith}
use mathlib.Core.List.{flat_map}
use native.Mathlib.Nat.{mul-le-mul_right}
use Rattle.laws.specs.Bytes.{AreBytes}
use Rattle.laws.proofs.Bools.{and-true}
use Rattle.laws.proofs.Parts.{length-bytes_at}
use Rattle.laws.proofs.Runs.{length-gathered}
use Rattle.payloads.specs.Entries.{entry_at, each, all}
use Rattle.payloads.specs.Format.{width_of, number_at, number_bytes, end, fixed, free, array, sized, counted, Format, Values, fits, write}
use Rattle.payloads.specs.Format.{ends_from, holds_from, read_from, accepts_from, accepts, read, longest}
use Rattle.payloads.proofs.Widths.{length-number_bytes, number-back, run-back, run-then, number-then}
use Rattle.payloads.proofs.Entries.{Back, after-field, entries-back, entries-onward, entries-short, all-gathered, entries-then}

-- What was written between any front and any back.
abbrev WrittenBack : (f : Format) → Values f → List ℕ → ℕ → Type 0
WrittenBack f v p at = Back (holds_from f p at) (ends_from f p at) (read_from f p at) at (write f v) v

-- A front and a field more.
longer : (a b : List ℕ) (at n : ℕ) → length a ≡ at → length b ≡ n → length (a ++ b) ≡ at + n
longer a b at n e h = rw (length-append, e, h)

written_back : (f : Format) (v : Values f) (a b : List ℕ) (at : ℕ) → length a ≡ at → fits f v ≡ true → WrittenBack f v ((a ++ write f v) ++ b) at
unfolding fits write ends_from holds_from read_from
written_back end v a b at e h = record { holds = refl; place = omega arith; value = refl }
written_back (fixed w n f) v a b at e h =
    let x = number_bytes w n in
    let r = written_back f v (a ++ x) b (at + width_of w) (longer a x at _ e (length-number_bytes w n)) h in
    rw (← append_assoc a x (write f v), number-back w n a (write f v) b at e, eq-eqb n n refl)
    (after-field (λ (u : Values f). u) x (write f v) (length-number_bytes w n) r)
written_back (free w allowed f) (n, v) a b at e h =
    let k = and-true (allowed n) (fits f v) h in
    let x = number_bytes w n in
    let r = written_back f v (a ++ x) b (at + width_of w) (longer a x at _ e (length-number_bytes w n)) k.1 in
    rw (← append_assoc a x (write f v), number-back w n a (write f v) b at e, k.0)
    (after-field (λ (u : Values f). (n, u)) x (write f v) (length-number_bytes w n) r)
written_back (array size f) (x, v) a b at e h =
    let k = and-true (eqb (length x) size) (fits f v) h in
    let l = eqb-true (length x) size k.0 in
    let r = written_back f v (a ++ x) b (at + size) (longer a x at size e l) k.1 in
    rw (← append_assoc a x (write f v), run-back x a (write f v) b at size e l) (after-field (λ (u : Values f). (x, u)) x (write f v) l r)
written_back (sized w least most f) (x, v) a b at e h =
    let n = length x in
    let k = and-true (leb least n && leb n most) (fits f v) h in
    let s = number_bytes w n in
    let l = longer a s at _ e (length-number_bytes w n) in
    let r = written_back f v ((a ++ s) ++ x) b (at + width_of w + n) (longer (a ++ s) x _ n l refl) k.1 in
    rw (← append_assoc a s (x ++ write f v), number-back w n a (x ++ write f v) b at e, k.0)
    (rw (← append_assoc (a ++ s) x (write f v), run-back x (a ++ s) (write f v) b _ n l refl)
    (after-field (λ (u : List ℕ × Values f). u) s (x ++ write f v) (length-number_bytes w n)
    (after-field (λ (u : Values f). (x, u)) x (write f v) refl r)))
written_back (counted w most entry f) (vs, v) a b at e h =
    let n = length vs in
    let x = flat_map (write entry) vs in
    let s = number_bytes w n in
    let k = and-true (leb n most && all (fits entry) vs) (fits f v) h in
    let c = and-true (leb n most) (all (fits entry) vs) k.0 in
    let l = longer a s at _ e (length-number_bytes w n) in
    let es = entries-back (write entry) (fits entry) (holds_from entry) (ends_from entry) (read_from entry) (written_back entry) vs (a ++ s)
    (write f v ++ b) (at + width_of w) l c.1 in
    let t = rw (← append_assoc ((a ++ s) ++ x) (write f v) b) at es in
    let r = written_back f v ((a ++ s) ++ x) b (at + width_of w + length x) (longer (a ++ s) x _ _ l refl) k.1 in
    rw (← append_assoc a s (x ++ write f v), number-back w n a (x ++ write f v) b at e, c.0)
    (rw (← append_assoc (a ++ s) x (write f v), t.holds, t.place, t.value)
    (after-field (λ (u : List (Values entry) × Values f). u) s (x ++ write f v) (length-number_bytes w n)
    (after-field (λ (u : Values f). (vs, u)) x (write f v) refl r)))

-- Reading undoes writing: what is written for values that fit is accepted, and says these values.
pub read_back : (f : Format) (v : Values f) → fits f v ≡ true → (accepts f (write f v) ≡ true) × (read f (write f v) ≡ v)
unfolding accepts_from
read_back f v h =
    let r = rw append-nil at (written_back f v [] [] 0 refl h) in
    (rw (r.holds, r.place) (eq-eqb _ _ (sym (zero-add (length (write f v))))), r.value)

module _ (p : List ℕ) where
  onward : (f : Format) (at : ℕ) → at ≤ ends_from f p at
  unfolding ends_from
  onward end at = omega arith
  onward (fixed w n f) at = omega (arith, onward f (at + width_of w))
  onward (free w allowed f) at = omega (arith, onward f (at + width_of w))
  onward (array size f) at = omega (arith, onward f (at + size))
  onward (sized w least most f) at = omega (arith, onward f (at + width_of w + number_at w p at))
  onward (counted w most entry f) at =
      let place = entry_at (ends_from entry p) (at + width_of w) (number_at w p at) in
      omega (arith, entries-onward (holds_from entry p) (ends_from entry p) (onward entry) (at + width_of w) (number_at w p at), onward f place)

  -- The fields are no longer than their format allows.
  short : (f : Format) (at : ℕ) → holds_from f p at ≡ true → ends_from f p at ≤ at + longest f
  unfolding holds_from ends_from longest
  short end at h = omega arith
  short (fixed w n f) at h = omega (arith, short f (at + width_of w) (and-true (eqb (number_at w p at) n) _ h).1)
  short (free w allowed f) at h = omega (arith, short f (at + width_of w) (and-true (allowed (number_at w p at)) _ h).1)
  short (array size f) at h = omega (arith, short f (at + size) h)
  short (sized w least most f) at h =
      let n = number_at w p at in
      let k = and-true (leb least n && leb n most) _ h in
      omega (arith, short f (at + width_of w + n) k.1, leb-true n most (and-true (leb least n) _ k.0).1)
  short (counted w most entry f) at h =
      let n = number_at w p at in
      let next = at + width_of w in
      let place = entry_at (ends_from entry p) next in
      let k = and-true (leb n most && each (λ i. holds_from entry p (place i)) n) _ h in
      let c = and-true (leb n most) _ k.0 in
      let each-short = entries-short (holds_from entry p) (ends_from entry p) (longest entry) (short entry) next n c.1 in
      omega (arith, short f (place n) k.1, each-short, mul-le-mul_right {m = n} {n = most} (longest entry) (leb-true n most c.0))

  fits_read : (f : Format) (at : ℕ) → holds_from f p at ≡ true → fits f (read_from f p at) ≡ true
  unfolding holds_from read_from fits
  fits_read end at h = refl
  fits_read (fixed w n f) at h = fits_read f (at + width_of w) (and-true (eqb (number_at w p at) n) _ h).1
  fits_read (free w allowed f) at h =
      let k = and-true (allowed (number_at w p at)) _ h in
      rw k.0 (fits_read f (at + width_of w) k.1)
  fits_read (array size f) at h = rw (eq-eqb _ size (length-bytes_at p at size)) (fits_read f (at + size) h)
  fits_read (sized w least most f) at h =
      let n = number_at w p at in
      let k = and-true (leb least n && leb n most) _ h in
      rw (length-bytes_at p (at + width_of w) n, k.0) (fits_read f (at + width_of w + n) k.1)
  fits_read (counted w most entry f) at h =
      let n = number_at w p at in
      let place = entry_at (ends_from entry p) (at + width_of w) in
      let k = and-true (leb n most && each (λ i. holds_from entry p (place i)) n) _ h in
      let c = and-true (leb n most) _ k.0 in
      rw (length-gathered (λ i. read_from entry p (place i)) n, c.0)
      (rw (all-gathered (holds_from entry p) (read_from entry p) (fits entry) (fits_read entry) place n c.1) (fits_read f (place n) k.1))

  module _ (bytes : AreBytes p) where
    -- The bytes from a place on are what the writer writes for what the fields there say, and then the others.
    written_read : (f : Format) (at : ℕ) → holds_from f p at ≡ true → ends_from f p at ≤ length p
        → write f (read_from f p at) ++ drop (ends_from f p at) p ≡ drop at p
    unfolding holds_from ends_from read_from write
    written_read end at h l = refl
    written_read (fixed w n f) at h l =
        let k = and-true (eqb (number_at w p at) n) _ h in
        let next = at + width_of w in
        rw (append_assoc, written_read f next k.1 l, ← eqb-true (number_at w p at) n k.0)
        (number-then p bytes w at (omega (arith, onward f next)))
    written_read (free w allowed f) at h l =
        let k = (and-true (allowed (number_at w p at)) _ h).1 in
        let next = at + width_of w in
        rw (append_assoc, written_read f next k l) (number-then p bytes w at (omega (arith, onward f next)))
    written_read (array size f) at h l =
        rw (append_assoc, written_read f (at + size) h l) (run-then p bytes at size (omega (arith, onward f (at + size))))
    written_read (sized w least most f) at h l =
        let n = number_at w p at in
        let k = (and-true (leb least n && leb n most) _ h).1 in
        let next = at + width_of w in
        let i = onward f (next + n) in
        rw (append_assoc, append_assoc, written_read f (next + n) k l, length-bytes_at p next n, run-then p bytes next n (omega (arith, i)))
        (number-then p bytes w at (omega (arith, i)))
    written_read (counted w most entry f) at h l =
        let n = number_at w p at in
        let next = at + width_of w in
        let place = entry_at (ends_from entry p) next in
        let k = and-true (leb n most && each (λ i. holds_from entry p (place i)) n) _ h in
        let c = (and-true (leb n most) _ k.0).1 in
        let i = onward f (place n) in
        let entries = entries-then (holds_from entry p) (read_from entry p) p (write entry) (ends_from entry p) (onward entry) (written_read entry)
        next n c (omega (arith, i)) in
        rw (append_assoc, append_assoc, written_read f (place n) k.1 l, length-gathered (λ i. read_from entry p (place i)) n, entries)
        (number-then p bytes w at (omega (arith, i, entries-onward (holds_from entry p) (ends_from entry p) (onward entry) next n)))

-- Writing undoes reading: the values that are read from what is accepted fit, and the writer writes these bytes for them.
pub write-back : (f : Format) (p : List ℕ) → AreBytes p → accepts f p ≡ true → (fits f (read f p) ≡ true) × (write f (read f p) ≡ p)
unfolding accepts_from
write-back f p bytes h =
    let k = and-true (holds_from f p 0) _ h in
    let e = eqb-true (length p) (ends_from f p 0) k.1 in
    (fits_read p f 0 k.0, rw (← e, drop-length p, append-nil) at (written_read p bytes f 0 k.0 (omega arith)))

pub accepted-short : (f : Format) (p : List ℕ) → accepts f p ≡ true → length p ≤ longest f
unfolding accepts_from
accepted-short f p h =
    let k = and-true (holds_from f p 0) _ h in
    omega (arith, eqb-true (length p) (ends_from f p 0) k.1, short p f 0 k.0)
