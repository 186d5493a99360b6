-- SPDX-License-Identifier: MPL-2.0
-- Once the piece with the last index has come, the report lies in the report buffer: 22 has seen to it where that piece comes; where it came
-- before, the report's length was known, and a shorter buffer was a wrong one. So a report that is complete lies in the buffer, and no step makes
-- it too short.
use Rattle.laws.proofs.Kit.{ℕ, ◌+◌, ◌-◌, ◌*◌, ◌<◌, ◌≤◌, ◌≡◌, refl, sym, ◌∙◌, Bool, true, false, not, List, ◌++◌, length, eqb, eqb-true}
use Rattle.laws.proofs.Kit.{eqb-false, ne_eqb, ltb, ltb-false, le-ltb, not-false, ◌||◌, arith}
use Prim.Native.Nat.{zero-le}
use Rattle.laws.specs.Rows.{first}
use Rattle.laws.proofs.Bools.{or-false, or-none, and-false-right}
use Rattle.laws.proofs.Cases.{on}
use Rattle.laws.proofs.Firsts.{first-append, neither, row-false}
use Rattle.laws.proofs.Runs.{length-gathered}
use Rattle.wire.specs.Refusals.{unlike_first_piece}
use Rattle.message.specs.Handed.{payload}
use Rattle.message.specs.Reading.{working_after}
use Rattle.std.specs.Prelude.{Ok}
use Rattle.joining.specs.declared.Progress.{Progress}
use Rattle.joining.specs.declared.Piece.{Piece}
use Rattle.joining.specs.Cut.{bad_size}
use Rattle.joining.specs.Heard.{most, tally, has, mark}
use Rattle.joining.specs.Join.{unlike, is_last, last_of, expecting, extended, completes, sequence_rows, place_rows, repeat_rows, join_refusal}
use Rattle.joining.proofs.Cuts.{good-size}
use Rattle.joining.proofs.HeardLaws.{tally-some, mark-has, full-has}
use Rattle.joining.proofs.JoinWays.{join-cases}
use Rattle.joining.proofs.Refusals.{fitting}
use Rattle.hub.specs.declared.Connection.{Connection}
use Rattle.hub.specs.declared.Stepped.{Stepped}
use Rattle.hub.specs.Answers.{said}
use Rattle.hub.specs.Hear.{piece_in, with_progress, joined}
use Rattle.hub.specs.Step.{step}
use Rattle.hub.proofs.HostWays.{connect-cases}
use Rattle.hub.proofs.StepCases.{hear-cases, step-cases}
use Rattle.state.specs.Layout.{state_size}
use Rattle.state.specs.State.{bit_at, connection_at}
use Rattle.hub_c.specs.Sizes.{answer_size}
use Rattle.hub_c.specs.Answered.{short_report, WithinReport, NeverShort}

-- A fragment size and a number of pieces as a report has them.
pub cut_right : (t : Bool) (F count : ℕ) → t ≡ bad_size F → (t || eqb count 0 || ltb most count) ≡ false → (F ≤ 16384) × (0 < count) × (count ≤ most)
cut_right t F count s e =
    let all = or-false (t || eqb count 0) (ltb most count) e in
    let two = or-false t (eqb count 0) all.0 in
    ((good-size F (sym s ∙ two.0)).1, omega (arith, eqb-false count 0 two.1), ltb-false most count all.1)

module _ (F : ℕ) (h : Progress) (p : Piece) (bytes report : List ℕ) (e : join_refusal F h p bytes report ≡ 0) where
  -- 21 does not apply.
  alike : unlike h p ≡ false
  unfolding join_refusal
  alike =
      let sequences = sequence_rows F h.expected p in
      let rest = place_rows F h p (length bytes) (length report) ++ repeat_rows F h p bytes report in
      row-false unlike_first_piece rest refl (neither (first sequences) (first rest) (sym (first-append sequences rest refl) ∙ e)).1

  -- So where an index is heard, the remembered count is the piece's.
  same_count : (i : ℕ) → has h.heard i ≡ true → h.count ≡ p.count
  same_count i heard =
      let some = ne_eqb (tally h.heard) 0 (λ z. omega (arith, tally-some h.heard i heard)) in
      let either = and-false-right (not (eqb (tally h.heard) 0)) _ alike (rw some) in
      eqb-true h.count p.count (not-false _ (or-false (not (eqb h.count p.count)) _ either).0)

  -- Where the last index is heard with a piece that has another one, it was heard before.
  last-heard : length h.heard ≡ most → is_last p ≡ false → has (mark h.heard p.index) (p.count - 1) ≡ true
      → has h.heard (p.count - 1) ≡ true
  last-heard long l marked =
      let f = (fitting F h p bytes report e).0 in
      let other = ne_eqb (p.count - 1) p.index (λ z. eqb-false (p.index + 1) p.count l (omega (arith, f.under))) in
      let before = mark-has h.heard p.index (p.count - 1) (omega (arith, f.under, f.few)) in
      sym (before ∙ rw other (or-none (has h.heard (p.count - 1)))) ∙ marked

module _ (c : Connection) (long : length c.progress.heard ≡ most) where
  -- A report whose length is known lies in the buffer.
  known-within : (room : ℕ) → short_report c room ≡ false → bad_size c.size ≡ false → 0 < c.progress.count → c.progress.count ≤ most
      → has c.progress.heard (c.progress.count - 1) ≡ true → c.size * (c.progress.count - 1) + c.progress.last ≤ room
  unfolding short_report
  known-within room s sized some few heard =
      let count = c.progress.count in
      let tested = rw (sized, ne_eqb count 0 (λ z. omega arith), le-ltb most count few, heard) at s in
      ltb-false room _ tested

  module _ (p : Piece) (bytes report : List ℕ) (s : short_report c (length report) ≡ false) (z : bad_size c.size ≡ false)
      (e : join_refusal c.size c.progress p bytes report ≡ 0) where
    -- With this piece the last index is heard: the report lies in the buffer.
    heard-within : has (mark c.progress.heard p.index) (p.count - 1) ≡ true
        → c.size * (p.count - 1) + last_of c.progress p (length bytes) ≤ length report
    heard-within marked =
        let f = fitting c.size c.progress p bytes report e in
        on (is_last p)
        (λ l. let i : p.count - 1 ≡ p.index = omega (arith, eqb-true (p.index + 1) p.count l) in rw (l, i) f.1)
        (λ l.
        let heard = last-heard c.size c.progress p bytes report e long l marked in
        let same = same_count c.size c.progress p bytes report e (p.count - 1) heard in
        rw (l, ← same) (known-within (length report) s z (rw same (omega (arith, f.0.under))) (rw same f.0.few) (rw same heard)))

    -- Where it completes the report, all are heard, and so the last.
    complete-within : completes c.progress p ≡ true → c.size * (p.count - 1) + last_of c.progress p (length bytes) ≤ length report
    complete-within d =
        let f = (fitting c.size c.progress p bytes report e).0 in
        heard-within (full-has p.count (mark c.progress.heard p.index) d (p.count - 1) (omega (arith, f.under)))

    -- Where it does not, the buffer is still not too short.
    taken-kept : short_report (with_progress c (extended c.progress p (length bytes))) (length report) ≡ false
    unfolding short_report
    taken-kept =
        let f = (fitting c.size c.progress p bytes report e).0 in
        let some = ne_eqb p.count 0 (λ n. omega (arith, f.under)) in
        on (has (mark c.progress.heard p.index) (p.count - 1))
        (λ h. rw (z, some, le-ltb most p.count f.few, h) (le-ltb (length report) _ (heard-within h)))
        (λ h. rw (z, some, le-ltb most p.count f.few, h))

  -- What a step answers, by the way that it went: no answer but Complete has a length.
  step-within : (m k w report : List ℕ) (v : ℕ) → short_report c (length report) ≡ false
      → (said (step c m k w report v).answer).detail ≤ length report
  step-within m k w report v s =
      step-cases c m k w report v Within (λ n. zero-le)
      (λ z found e.
      let h = found.header in
      let p = payload m (working_after m k w) (Ok found) in
      hear-cases c h p report v Within (λ f. zero-le)
      (λ f k. connect-cases c h.session p v (λ s. Within s report) zero-le (λ t. zero-le) (λ t s. zero-le) (λ t s. zero-le) (λ z. zero-le)
      (λ t s. zero-le))
      (λ f j.
      join-cases c.size c.progress (piece_in h) p report (λ j b. Within (joined c j) b) (λ e. zero-le) (λ e k. zero-le)
      (λ e k d. complete-within (piece_in h) p report s z e d) (λ e k d. zero-le))
      (λ f k j. zero-le))
    where
      Within : Stepped → List ℕ → Type 0
      Within s b = (said s.answer).detail ≤ length report

-- The heard set of a connection in bytes has a place for each index.
heard-length : (s : List ℕ) → length (connection_at s).progress.heard ≡ most
unfolding connection_at
heard-length s = length-gathered (bit_at s) most

pub within-report : WithinReport
within-report state message keys working report answer verdict right =
    let c = connection_at state in
    let short = (or-false (not (eqb (length state) state_size) || not (eqb (length answer) answer_size)) (short_report c (length report)) right).1 in
    step-within c (heard-length state) message keys working report verdict short

-- No count is remembered.
first-kept : (c : Connection) (number room : ℕ) → c.progress ≡ expecting number → short_report c room ≡ false
unfolding short_report
first-kept c number room e = on (bad_size c.size) (λ z. rw z) (λ z. rw (z, e))

-- Only a piece that is taken, and one that completes its report, change what is remembered of a report.
step_kept : (c : Connection) → length c.progress.heard ≡ most → (m k w report : List ℕ) (v : ℕ) → short_report c (length report) ≡ false
    → short_report (step c m k w report v).connection (length report) ≡ false
unfolding short_report
step_kept c long m k w report v s =
    step-cases c m k w report v Kept (λ n. s)
    (λ z found e.
    let h = found.header in
    let p = payload m (working_after m k w) (Ok found) in
    hear-cases c h p report v Kept (λ f. s)
    (λ f k. connect-cases c h.session p v (λ s. Kept s report) s (λ t. s) (λ t i. s) (λ t i. s) (λ z. s) (λ t i. s))
    (λ f j.
    join-cases c.size c.progress (piece_in h) p report (λ j b. Kept (joined c j) b) (λ e. s) (λ e k. s)
    (λ e k d. first-kept (with_progress c (expecting (c.progress.expected + 1))) (c.progress.expected + 1) (length report) refl)
    (λ e k d. taken-kept c long (piece_in h) p report s z e))
    (λ f k j. s))
  where
    Kept : Stepped → List ℕ → Type 0
    Kept s b = short_report s.connection (length report) ≡ false

pub never-short : NeverShort
never-short =
    record {
      first = first-kept;
      kept = λ state message keys working report verdict s.
          step_kept (connection_at state) (heard-length state) message keys working report verdict s;
    }
