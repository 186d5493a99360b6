-- SPDX-License-Identifier: MPL-2.0
-- Piece i comes when S has come: then all is as when S with i has come.
use Rattle.laws.proofs.Kit.{ℕ, ◌+◌, ◌-◌, ◌*◌, ◌<◌, ◌≡◌, refl, ap, Bool, true, false, cond, List, length, get_or-set_same, get_or-set_other, eqb, ne_eqb}
use Rattle.laws.proofs.Kit.{eqb-true, eqb-false, arith}
use Rattle.laws.proofs.Cases.{on}
use Rattle.joining.specs.declared.Arrival.{Arrival}
use Rattle.joining.specs.declared.Arrival.TheVariants.{Refused, Taken, Repeat, Complete}
use Rattle.joining.specs.Heard.{most, tally, come, has, mark}
use Rattle.joining.specs.Join.{last_of, join, report_after}
use Rattle.joining.proofs.HeardLaws.{full, mark-known, tally-some, full-has}
use Rattle.joining.proofs.Cuts.{begins, remainder}
use Rattle.joining.proofs.Snapshot.{Start, Startable, piece_of, piece_bytes, part_held, held_at, buffer_at}
use Rattle.joining.proofs.SnapshotBuffer.{in-set, put-buffer}
use Rattle.joining.proofs.PieceAllowed.{due, unrefused, late}

-- What is answered to piece i where S has come.
abbrev pub answer_at : Start → List Bool → ℕ → Arrival
answer_at s S i =
    cond (full s.count S) (Refused 17)
    (cond (has S i) (Repeat (come s.count (mark S i)))
    (cond (full s.count (mark S i)) (Complete (length s.report) s.count) (Taken (come s.count (mark S i)))))

module _ (s : Start) (f : Startable s) (S : List Bool) (w : length S ≡ most) (i : ℕ) (l : i < s.count) where
  in-mark : has (mark S i) i ≡ true
  in-mark = get_or-set_same S i true false (in-set s f S w i l)

  -- The remembered length, with this piece too.
  last_more : last_of (part_held s S) (piece_of s i) (length (piece_bytes s i)) ≡ (part_held s (mark S i)).last
  last_more =
      on (eqb (i + 1) s.count) (λ e. rw e (rw e at (due s f S w i l (mark S i) in-mark)))
      (λ e. rw (e, get_or-set_other S i (s.count - 1) true false (λ z. omega (arith, eqb-false))))

  -- The report's length, when with this piece all have come.
  whole_length : full s.count (mark S i) ≡ true
      → s.size * (s.count - 1) + last_of (part_held s S) (piece_of s i) (length (piece_bytes s i)) ≡ length s.report
  whole_length e =
      rw (last_more, full-has s.count (mark S i) e (s.count - 1) (omega arith))
      (let m : s.count - 1 < s.count = omega arith in
      omega (arith, begins f.cut (s.count - 1) m, remainder s.report f.cut (s.count - 1) m (omega arith)))

  -- One piece more: what is remembered, the answer, and the report buffer.
  pub arrives : (join s.size (held_at s S) (piece_of s i) (piece_bytes s i) (buffer_at s S)
      ≡ record { progress = held_at s (mark S i); answer = answer_at s S i })
      × (report_after s.size (held_at s S) (piece_of s i) (piece_bytes s i) (buffer_at s S) ≡ buffer_at s (mark S i))
  unfolding join report_after
  arrives =
      let u = unrefused s f S w i l in
      on (full s.count S)
      (λ a. rw (mark-known S i (full-has s.count S a i l), a, late s f S w i l) (refl, refl))
      (λ a.
      on (has S i)
      (λ h.
      let k = mark-known S i h in
      rw (k, a, u, h) (ap (λ (T : List Bool). record { progress = part_held s S; answer = Repeat (come s.count T) }) k, refl))
      (λ h.
      on (full s.count (mark S i)) (λ e. rw (a, u, h, e, eqb-true _ s.count e, whole_length e) (refl, put-buffer s f S w i l))
      (λ e.
      let t = ne_eqb (tally (mark S i)) 0 (λ z. omega (arith, tally-some (mark S i) i in-mark)) in
      rw (a, u, h, e, t, last_more) (refl, put-buffer s f S w i l))))
