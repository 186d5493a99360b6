-- SPDX-License-Identifier: MPL-2.0
-- While pieces of a report are missing, each of its pieces passes every row; once all have come, 17 applies.
use Rattle.laws.proofs.Kit.{ℕ, ◌+◌, ◌-◌, ◌*◌, ◌<◌, ◌≡◌, refl, Bool, true, false, cond, and-false, List, length, eqb, ltb, eq-eqb, ne_eqb, eqb-true}
use Rattle.laws.proofs.Kit.{eqb-false, lt-ltb, le-ltb, ltb-true, lt-leb, arith}
use Rattle.laws.proofs.Cases.{on}
use Rattle.laws.proofs.Sames.{same_refl}
use Rattle.joining.specs.Heard.{most, tally, has}
use Rattle.joining.specs.Cut.{bad_size}
use Rattle.joining.specs.Join.{bad_index, unlike, is_last, misfit, conflict, join_refusal, expecting}
use Rattle.joining.proofs.Cuts.{not-over, filled, not-empty}
use Rattle.joining.proofs.Snapshot.{Start, Startable, piece_of, piece_bytes, part_held, buffer_at}
use Rattle.joining.proofs.SnapshotBuffer.{room, there}

module _ (s : Start) (f : Startable s) (S : List Bool) (w : length S ≡ most) (i : ℕ) (l : i < s.count) where
  abbrev bytes : List ℕ
  bytes = piece_bytes s i

  sized : bad_size s.size ≡ false
  sized = rw (ne_eqb s.size 0 (λ e. omega (arith, f.cut.pos)), le-ltb 16384 s.size f.small)

  placed : bad_index s.count i ≡ false
  placed = rw (le-ltb most s.count f.cut.most, lt-leb s.count i l)

  numbered : eqb s.held.expected 4294967295 ≡ false
  numbered = ne_eqb s.held.expected 4294967295 (λ e. omega (arith, f.number))

  like : unlike (part_held s S) (piece_of s i) ≡ false
  like =
      on (eqb (tally S) 0) (λ e. simp e)
      (λ e. simp (e, eq-eqb s.count s.count refl, eq-eqb s.channel s.channel refl))

  fits : misfit s.size (piece_of s i) (length bytes) ≡ false
  fits =
      on (eqb (i + 1) s.count)
      (λ e.
      let o = le-ltb s.size (length bytes) (not-over s.report f.cut i l) in
      on (ltb 1 s.count)
      (λ k.
      let p = not-empty s.report f.cut i l (omega (arith, eqb-true)) (omega (arith, ltb-true)) in
      rw (e, o, ne_eqb (length bytes) 0 (λ z. omega arith)))
      (λ k. rw (e, o, k) (and-false (eqb (length bytes) 0))))
      (λ e. rw (e, eq-eqb (length bytes) s.size (filled s.report f.cut i l (omega (arith, eqb-false)))))

  -- The length that was taken, where the piece is in a set T: that of the last piece is remembered, any other is F.
  pub due : (T : List Bool) → has T i ≡ true → length bytes ≡ cond (is_last (piece_of s i)) (part_held s T).last s.size
  due T h =
      on (eqb (i + 1) s.count) (λ e. let p : s.count - 1 ≡ i = omega (arith, eqb-true) in rw (e, p, h))
      (λ e. rw e (filled s.report f.cut i l (omega (arith, eqb-false))))

  agreed : conflict s.size (part_held s S) (piece_of s i) bytes (buffer_at s S) ≡ false
  agreed = on (has S i) (λ e. rw (e, eq-eqb _ _ (due S e), there s f S w i l e, same_refl bytes)) (λ e. rw e)

  pub unrefused : join_refusal s.size (part_held s S) (piece_of s i) bytes (buffer_at s S) ≡ 0
  unfolding join_refusal
  unrefused =
      let here = le-ltb s.held.expected s.held.expected (omega arith) in
      let inside = le-ltb (length (buffer_at s S)) (s.size * i + length bytes) (room s f S w i l) in
      rw (sized, placed, numbered, here, like, fits, inside, agreed)

  -- After Complete the row of 17 applies.
  pub late : join_refusal s.size (expecting (s.held.expected + 1)) (piece_of s i) bytes (buffer_at s S) ≡ 17
  unfolding join_refusal
  late = rw (sized, placed, numbered, lt-ltb s.held.expected (s.held.expected + 1) (omega arith))
