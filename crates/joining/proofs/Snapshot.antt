-- SPDX-License-Identifier: MPL-2.0
-- What is remembered, and what the report buffer holds, once a set of the pieces of one report has come: they depend on the set and on how
-- they began, and on nothing else.
use Rattle.laws.proofs.Kit.{ℕ, zero, suc, ◌+◌, ◌-◌, ◌*◌, min, ◌≤◌, ◌<◌, ◌≡◌, refl, sym, Bool, true, false, cond, List, [], ◌++◌, length, take, drop}
use Rattle.laws.proofs.Kit.{length-append, length-take, length-drop, take_all, length-take-le, take-append_seam, eqb, arith}
use native.Mathlib.Nat.{mul-zero}
use lib.ListN.{take-append-drop}
use lib.Seq.{take-add}
use Rattle.laws.specs.Parts.{part}
use Rattle.joining.specs.declared.Progress.{Progress}
use Rattle.joining.specs.declared.Piece.{Piece}
use Rattle.joining.specs.Heard.{most, tally, has, none}
use Rattle.joining.specs.Join.{expecting}
use Rattle.joining.proofs.HeardLaws.{full, tally-none, has-none, not_full, full-has}
use Rattle.joining.proofs.Cuts.{Cut}

-- A report, how it was cut, and how what is remembered and the report buffer began.
pub record Start : Type 0 where
  pub size : ℕ
  pub count : ℕ
  pub channel : ℕ
  pub report : List ℕ
  pub held : Progress
  pub buffer : List ℕ

-- It was cut by the rules, its number is the expected one and may be used, nothing of it is heard, and the buffer has room for it.
pub record Startable (s : Start) : Type 0 where
  pub small : s.size ≤ 16384
  pub cut : Cut s.size most s.count (length s.report)
  pub number : s.held.expected < 4294967295
  pub fresh : s.held.heard ≡ none most
  pub room : length s.report ≤ length s.buffer

-- What the header of piece i says, and its bytes.
abbrev pub piece_of : Start → ℕ → Piece
piece_of s i = record { sequence = s.held.expected; channel = s.channel; count = s.count; index = i }

abbrev pub piece_bytes : Start → ℕ → List ℕ
piece_bytes s i = part s.report (s.size * i) s.size

-- While pieces are missing.
abbrev pub part_held : Start → List Bool → Progress
part_held s S =
    record {
      expected = s.held.expected;
      heard = S;
      count = cond (eqb (tally S) 0) s.held.count s.count;
      channel = cond (eqb (tally S) 0) s.held.channel s.channel;
      last = cond (has S (s.count - 1)) (length (piece_bytes s (s.count - 1))) s.held.last;
    }

-- What is remembered once the pieces of S have come.
abbrev pub held_at : Start → List Bool → Progress
held_at s S = cond (full s.count S) (expecting (s.held.expected + 1)) (part_held s S)

-- Where the report's bytes stand in the buffer: the report where a piece has come, else what was there.
abbrev pub over : Start → Bool → List ℕ
over s came = cond came s.report (take (length s.report) s.buffer)

-- The first n pieces in the buffer once those of S have come.
abbrev pub laid : Start → List Bool → ℕ → List ℕ
laid s S zero = []
laid s S (suc n) = laid s S n ++ part (over s (has S n)) (s.size * n) s.size

-- The report buffer once the pieces of S have come.
abbrev pub buffer_at : Start → List Bool → List ℕ
buffer_at s S = laid s S s.count ++ drop (length s.report) s.buffer

module _ (s : Start) (f : Startable s) where
  -- The empty set: all is as it began.
  pub held_none : held_at s (none most) ≡ s.held
  held_none =
      rw (not_full s.count (none most) 0 f.cut.some (has-none most 0), tally-none most, has-none most (s.count - 1), ← f.fresh)

  over-length : (came : Bool) → length (over s came) ≡ length s.report
  over-length true = refl
  over-length false = length-take-le (length s.report) s.buffer f.room

  pub part-over : (came : Bool) (n : ℕ) → length (part (over s came) (s.size * n) s.size) ≡ min s.size (length s.report - s.size * n)
  part-over came n = simp (length-take, length-drop, over-length came)

  pub laid-length : (S : List Bool) (n : ℕ) → length (laid s S n) ≡ min (s.size * n) (length s.report)
  laid-length S zero = omega arith
  laid-length S (suc n) = rw (length-append, part-over (has S n) n) (omega (arith, laid-length S n))

  pub buffer-length : (S : List Bool) → length (buffer_at s S) ≡ length s.buffer
  buffer-length S = simp (length-append, length-drop) (omega (arith, laid-length S s.count, f.cut.enough, f.room))

  -- The first n pieces, where all or none of them have come.
  laid_as : (S : List Bool) (came : Bool) (n : ℕ) → ((j : ℕ) → j < n → has S j ≡ came) → laid s S n ≡ take (s.size * n) (over s came)
  laid_as S came zero h = rw (mul-zero s.size)
  laid_as S came (suc n) h =
      let e : s.size * suc n ≡ s.size * n + s.size = omega arith in
      rw (laid_as S came n (λ j l. h j (omega arith)), h n (omega arith), e) (sym (take-add (s.size * n) s.size (over s came)))

  pub buffer-none : buffer_at s (none most) ≡ s.buffer
  buffer-none =
      let n = over-length false in
      rw (laid_as (none most) false s.count (λ j l. has-none most j), take_all (s.size * s.count) (over s false) (omega (arith, f.cut.enough)))
      (take-append-drop (length s.report) s.buffer)

  -- The full set: the buffer begins with the report.
  pub whole : (S : List Bool) → full s.count S ≡ true → take (length s.report) (buffer_at s S) ≡ s.report
  whole S e =
      rw (laid_as S true s.count (full-has s.count S e), take_all (s.size * s.count) s.report f.cut.enough)
      (take-append_seam s.report (drop (length s.report) s.buffer))
