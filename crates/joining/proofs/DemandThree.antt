-- SPDX-License-Identifier: MPL-2.0
-- Demand 3 in the abstract: over any machine that joins the pieces of a report and leaves all alone at what comes between, and over any
-- course of pieces, in any order, with repeats.
use Rattle.laws.proofs.Kit.{ℕ, ◌+◌, ◌≤◌, ◌<◌, ◌≡◌, refl, sym, ◌∙◌, ap, ap₂, Bool, true, false, true≢false, ◌||◌, cond, List, ◌∷◌, length, take}
use Rattle.laws.proofs.Kit.{length-set, length-replicate, eqb, ne_eqb, eqb-false, ⊎_elim, arith}
use lib.Seq.{ext_get_or}
use Rattle.laws.specs.Courses.{final}
use Rattle.laws.proofs.Bools.{or-none, or_assoc}
use Rattle.laws.proofs.Cases.{on}
use Rattle.laws.proofs.Order.{lt-or-ge}
use Rattle.laws.proofs.Courses.{Course, end, goes, course-seat}
use Rattle.joining.specs.declared.Progress.{Progress}
use Rattle.joining.specs.declared.Piece.{Piece}
use Rattle.joining.specs.declared.Arrival.{Arrival}
use Rattle.joining.specs.declared.Arrival.TheVariants.{Refused, Taken, Repeat, Complete}
use Rattle.joining.specs.Heard.{most, come, has, mark, none}
use Rattle.joining.specs.Join.{expecting, join, report_after}
use Rattle.joining.proofs.HeardLaws.{full, not_full, full-has, has-full, has-none, mark-has}
use Rattle.joining.proofs.Snapshot.{Start, Startable, piece_of, piece_bytes, held_at, buffer_at}
use Rattle.joining.proofs.Snapshot.{held_none, buffer-length, buffer-none, whole}
use Rattle.joining.proofs.SnapshotBuffer.{in-set}
use Rattle.joining.proofs.PieceArrives.{answer_at, arrives}
use Rattle.joining.specs.Events.{Event, piece, between, came, LastMissing}
use Rattle.joining.proofs.EventSet.{heard_with, set_of, mark-came}

-- The machine, as far as demand 3 looks at it: states C, inputs X, answers A.
pub record Machine (F : ℕ) : Type 1 where
  pub C : Type 0
  pub X : Type 0
  pub A : Type 0
  pub next : C → X → C
  pub says : C → X → A
  -- The input is a Session message that opens to this piece, in lent buffers that are long enough.
  pub Brings : Piece → List ℕ → X → Type 0
  -- The answer is a refusal, or that of a repeated enrolment.
  pub Quiet : A → Type 0
  -- The state with this progress and this report buffer, all else as it began.
  pub seat : Progress → List ℕ → C
  -- The machine's answer for joining's.
  pub answer : Arrival → A
  -- The answer hands a report out.
  pub done : A → Bool
  pub joins : (h : Progress) (b : List ℕ) (p : Piece) (bytes : List ℕ) (x : X) → Brings p bytes x
      → next (seat h b) x ≡ seat (join F h p bytes b).progress (report_after F h p bytes b)
  pub answers : (h : Progress) (b : List ℕ) (p : Piece) (bytes : List ℕ) (x : X) → Brings p bytes x
      → says (seat h b) x ≡ answer (join F h p bytes b).answer
  pub still : (c : C) (x : X) → Quiet (says c x) → next c x ≡ c
  pub done-taken : (k : ℕ) → done (answer (Taken k)) ≡ false
  pub done-repeat : (k : ℕ) → done (answer (Repeat k)) ≡ false
  pub done_refused : (k : ℕ) → done (answer (Refused k)) ≡ false

-- What an input is: it brings a piece of the report, or is answered quietly.
pub data Is (s : Start) (m : Machine s.size) : m.C → m.X → Event → Type 0 where
  brings : {c : m.C} {x : m.X} {i : ℕ} → i < s.count → m.Brings (piece_of s i) (piece_bytes s i) x → Is s m c x (piece i)
  rests : {c : m.C} {x : m.X} → m.Quiet (m.says c x) → Is s m c x between

-- Inputs of which each is one of these.
abbrev pub CourseOf : (s : Start) (m : Machine s.size) → m.C → List m.X → List Event → Type 0
CourseOf s m = Course m.next (Is s m)

module _ (s : Start) (f : Startable s) (m : Machine s.size) where
  -- The state once S has come.
  abbrev seated : List Bool → m.C
  seated S = m.seat (held_at s S) (buffer_at s S)

  -- How the machine began.
  abbrev pub began : m.C
  began = m.seat s.held s.buffer

  -- Piece i comes when S has come.
  piece-comes : (c : m.C) (S : List Bool) → length S ≡ most → c ≡ seated S → (i : ℕ) → i < s.count → (x : m.X)
      → m.Brings (piece_of s i) (piece_bytes s i) x
      → (m.next c x ≡ seated (mark S i)) × (m.says c x ≡ m.answer (answer_at s S i))
  piece-comes c S w e i l x h =
      let a = arrives s f S w i l in
      rw (e, m.joins (held_at s S) (buffer_at s S) _ _ x h, m.answers (held_at s S) (buffer_at s S) _ _ x h, a.0, a.1) (refl, refl)

  -- An input, by what it is.
  each : (c : m.C) (x : m.X) (e : Event) (S : List Bool) → length S ≡ most → c ≡ seated S → Is s m c x e
      → (length (heard_with S e) ≡ most) × (m.next c x ≡ seated (heard_with S e))
  each c x _ S w e (brings {i = i} l h) = (length-set S i true ∙ w, (piece-comes c S w e i l x h).0)
  each c x _ S w e (rests q) = (w, m.still c x q ∙ e)

  -- After any course the state is that of the set of pieces that have come.
  pub ends_at : {xs : List m.X} {es : List Event} → CourseOf s m began xs es
      → (length (set_of es) ≡ most) × (final m.next began xs ≡ seated (set_of es))
  ends_at r =
      course-seat seated heard_with (λ S. length S ≡ most) each (none most) (length-replicate most false)
      (ap₂ m.seat (sym (held_none s f)) (sym (buffer-none s f))) r

  -- What has come is under the count.
  pub came-past : {c : m.C} {xs : List m.X} {es : List Event} → CourseOf s m c xs es → (j : ℕ) → s.count ≤ j → came j es ≡ false
  came-past end j p = refl
  came-past (goes (brings {i = i} l h) r) j p = rw (ne_eqb j i (λ e. omega arith)) (came-past r j p)
  came-past (goes (rests q) r) j p = came-past r j p

  -- A set has, after a course, what it had and what has come.
  marks-has : {c : m.C} {xs : List m.X} {es : List Event} → CourseOf s m c xs es → (S : List Bool) → length S ≡ most → (j : ℕ)
      → has (final heard_with S es) j ≡ (has S j || came j es)
  marks-has end S e j = sym (or-none (has S j))
  marks-has (goes {es = es} (brings {i = i} l h) r) S e j =
      rw (marks-has r (mark S i) (length-set S i true ∙ e) j, mark-has S i j (omega (arith, f.cut.most))) (or_assoc (has S j) (eqb j i) (came j es))
  marks-has (goes (rests q) r) S e j = marks-has r S e j

  pub has-came : {xs : List m.X} {es : List Event} → CourseOf s m began xs es → (j : ℕ) → has (set_of es) j ≡ came j es
  has-came r j = rw (marks-has r (none most) (length-replicate most false) j, has-none most j)

  -- "connection and report buffer depend only on how they began and which fragments have come"
  pub only-the-set : {xs xs' : List m.X} {es es' : List Event} → CourseOf s m began xs es → CourseOf s m began xs' es'
      → ((j : ℕ) → j < s.count → came j es ≡ came j es') → final m.next began xs ≡ final m.next began xs'
  only-the-set {es = es} {es' = es'} r r' e =
      let w = ends_at r in
      let w' = ends_at r' in
      let same : (j : ℕ) → came j es ≡ came j es' =
      λ j. ⊎_elim (e j) (λ p. came-past r j p ∙ sym (came-past r' j p)) (lt-or-ge j s.count) in
      let set = ext_get_or false (set_of es) (set_of es') (w.0 ∙ sym w'.0) (λ j h. has-came r j ∙ same j ∙ sym (has-came r' j)) in
      w.1 ∙ ap seated set ∙ sym w'.1

  module _ {xs : List m.X} {es : List Event} (r : CourseOf s m began xs es) (i : ℕ) (l : i < s.count) where
    abbrev S : List Bool
    S = set_of es

    pub with-came : (j : ℕ) → has (mark S i) j ≡ came j (piece i ∷ es)
    with-came j = mark-came S es (has-came r) i (in-set s f S (ends_at r).0 i l) j

    -- With this piece all have come.
    pub all_come : LastMissing s.count i es → full s.count (mark S i) ≡ true
    all_come d =
        has-full s.count (mark S i)
        (λ j k. on (eqb j i) (λ e. rw (with-came j, e)) (λ e. rw (with-came j, e) (d.1 j k (eqb-false j i e))))

    module _ (x : m.X) (h : m.Brings (piece_of s i) (piece_bytes s i) x) where
      -- What piece i does, and what is answered to it, by the set of what has come.
      pub here : (m.next (final m.next began xs) x ≡ seated (mark S i)) × (m.says (final m.next began xs) x ≡ m.answer (answer_at s S i))
      here = let w = ends_at r in piece-comes (final m.next began xs) S w.0 w.1 i l x h

      -- "the report is handed out … at the call that brings the last missing fragment", with its length and its count
      pub handed_out : LastMissing s.count i es → m.says (final m.next began xs) x ≡ m.answer (Complete (length s.report) s.count)
      handed_out d =
          let a : has S i ≡ false = has-came r i ∙ d.0 in
          rw (here.1, not_full s.count S i l a, a, all_come d)

      -- "whole, exactly as sent"; what is remembered is then that nothing is heard of the next number
      pub as-sent : LastMissing s.count i es
          → (b : List ℕ) × (m.next (final m.next began xs) x ≡ m.seat (expecting (s.held.expected + 1)) b)
          × (take (length s.report) b ≡ s.report) × (length b ≡ length s.buffer)
      as-sent d = (
        buffer_at s (mark S i),
        here.0 ∙ ap (λ (q : Progress). m.seat q (buffer_at s (mark S i))) (rw (all_come d)),
        whole s f (mark S i) (all_come d),
        buffer-length s f (mark S i),
      )

      -- "at no other"
      pub at-no-other : m.done (m.says (final m.next began xs) x) ≡ true → LastMissing s.count i es
      at-no-other d =
          let T = mark S i in
          let e = complete (full s.count S) (has S i) (full s.count T) (come s.count T) (ap m.done (sym here.1) ∙ d) in (
            sym (has-came r i) ∙ e.0,
            λ j k n. rw (with-came j, ne_eqb j i n) at (full-has s.count (mark S i) e.1 j k),
          )
        where
          -- of the answers Complete alone hands a report out
          complete : (a b c : Bool) (n : ℕ)
              → m.done (m.answer (cond a (Refused 17) (cond b (Repeat n) (cond c (Complete (length s.report) s.count) (Taken n))))) ≡ true
              → (b ≡ false) × (c ≡ true)
          complete true b c n e = absurd (true≢false (sym e ∙ m.done_refused 17))
          complete false true c n e = absurd (true≢false (sym e ∙ m.done-repeat n))
          complete false false false n e = absurd (true≢false (sym e ∙ m.done-taken n))
          complete false false true n e = (refl, refl)

      -- "later copies get 17"
      pub late-copy : ((j : ℕ) → j < s.count → came j es ≡ true) → m.says (final m.next began xs) x ≡ m.answer (Refused 17)
      late-copy d = rw (here.1, has-full s.count S (λ j k. has-came r j ∙ d j k))
