-- SPDX-License-Identifier: MPL-2.0
-- The report buffer with one piece more: where piece i is put once S has come, it is as once S with i has come.
use Rattle.laws.proofs.Kit.{ℕ, zero, suc, ◌+◌, ◌*◌, ◌≤◌, ◌<◌, ◌≡◌, refl, sym, ◌∙◌, Bool, true, false, List, ◌++◌, append_assoc, length, drop}
use Rattle.laws.proofs.Kit.{get_or-set_same, get_or-set_other, ⊎_elim, arith}
use Rattle.laws.specs.Parts.{part}
use Rattle.laws.proofs.Order.{lt-or-ge}
use Rattle.joining.specs.Heard.{most, has, mark}
use Rattle.joining.specs.Report.{put}
use Rattle.joining.proofs.HeardLaws.{mark-known}
use Rattle.joining.proofs.Places.{put-over, part-put}
use Rattle.joining.proofs.Cuts.{begins}
use Rattle.joining.proofs.Snapshot.{Start, Startable, piece_bytes, over, laid, buffer_at, part-over, laid-length, buffer-length}

module _ (s : Start) (f : Startable s) (S : List Bool) (w : length S ≡ most) (i : ℕ) (l : i < s.count) where
  abbrev bytes : List ℕ
  bytes = piece_bytes s i

  abbrev at : ℕ
  at = s.size * i

  pub room : at + length bytes ≤ length (buffer_at s S)
  room = rw (buffer-length s f S) (omega (arith, part-over s f true i, begins f.cut i l, f.room))

  pub in-set : i < length S
  in-set = omega (arith, f.cut.most)

  -- The pieces before piece i.
  laid-before : (n : ℕ) → n ≤ i → laid s (mark S i) n ≡ laid s S n
  laid-before zero h = refl
  laid-before (suc n) h = rw (laid-before n (omega arith), get_or-set_other S i n true false (λ e. omega arith))

  put-laid : (n : ℕ) → i < n → (rest : List ℕ) → put (laid s S n ++ rest) at bytes ≡ laid s (mark S i) n ++ rest
  put-laid zero h rest = absurd (omega arith)
  put-laid (suc n) h rest =
      rw (append_assoc (laid s S n), append_assoc (laid s (mark S i) n))
      (⊎_elim
      (λ p. rw (get_or-set_other S i n true false (λ e. omega arith)) (put-laid n p (part (over s (has S n)) (s.size * n) s.size ++ rest)))
      (λ p.
      let e : n ≡ i = omega arith in
      rw (e, laid-before i (omega arith), get_or-set_same S i true false in-set)
      (put-over (laid s S i) (part (over s (has S i)) at s.size) rest bytes at
      (omega (arith, laid-length s f S i, begins f.cut i l)) (part-over s f (has S i) i ∙ sym (part-over s f true i))))
      (lt-or-ge i n))

  pub put-buffer : put (buffer_at s S) at bytes ≡ buffer_at s (mark S i)
  put-buffer = put-laid s.count l (drop (length s.report) s.buffer)

  -- A piece that has come is what the buffer holds.
  pub there : has S i ≡ true → part (buffer_at s S) at (length bytes) ≡ bytes
  there e = rw (put-buffer, mark-known S i e) at (part-put (buffer_at s S) at bytes room)
