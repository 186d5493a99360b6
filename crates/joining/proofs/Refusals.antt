-- SPDX-License-Identifier: MPL-2.0
-- What is known of a piece that no row refuses.
use Rattle.laws.proofs.Kit.{ℕ, ◌+◌, ◌*◌, ◌≤◌, ◌<◌, ◌≡◌, refl, sym, ◌∙◌, Bool, true, false, ◌&&◌, List, ◌++◌, length, eqb, ltb, leb, ne_eqb, eqb-true}
use Rattle.laws.proofs.Kit.{eqb-false, ltb-false, leb-false, not-false, arith}
use Rattle.std.specs.Prelude.{Ok, Err}
use Rattle.laws.specs.Rows.{first, or_else, unless, test_of}
use Rattle.laws.proofs.Bools.{or-false}
use Rattle.laws.proofs.Firsts.{first-append, neither, row-false}
use Rattle.laws.proofs.Refusals.{passed, refused}
use Rattle.wire.specs.Refusals.{wrong_piece, past_sequence, future_sequence, last_sequence, wrong_piece_size, no_room, unlike_repeat, wrong_fragment_size}
use Rattle.joining.specs.declared.Progress.{Progress}
use Rattle.joining.specs.declared.Piece.{Piece}
use Rattle.joining.specs.Heard.{most}
use Rattle.joining.specs.Join.{is_last, misfit, sequence_rows, place_rows, repeat_rows, conflict, join_refusal, Fitting}
use Rattle.joining.proofs.Cuts.{good-size}

-- The three tables, one after the other: where one refuses and those before it let the piece pass, that is the refusal; where none does, there is
-- none.
module _ (F : ℕ) (h : Progress) (p : Piece) (bytes report : List ℕ) where
  abbrev sequences : ℕ
  sequences = first (sequence_rows F h.expected p)

  abbrev places : ℕ
  places = first (place_rows F h p (length bytes) (length report))

  abbrev repeats : ℕ
  repeats = first (repeat_rows F h p bytes report)

  in_order : join_refusal F h p bytes report ≡ or_else sequences (or_else places repeats)
  unfolding join_refusal
  in_order =
      let last = repeat_rows F h p bytes report in
      let rest = place_rows F h p (length bytes) (length report) ++ last in
      rw (first-append (sequence_rows F h.expected p) rest refl, first-append (place_rows F h p (length bytes) (length report)) last refl)

  abbrev pub Refuses : ℕ → Type 0
  Refuses n = (n ≡ join_refusal F h p bytes report) × (n ≡ 0 → ⊥)

  abbrev pub Passes : ℕ → Type 0
  Passes table = Ok (tt {0}) ≡ unless table (tt {0})

  abbrev pub Refused : ℕ → ℕ → Type 0
  Refused n table = Err n ≡ unless table (tt {0})

  pub first-refuses : (n : ℕ) → Refused n sequences → Refuses n
  first-refuses n e =
      let w = refused sequences (tt {0}) e in
      rw (in_order, ne_eqb sequences 0 w.1, w.0) (refl, w.1)

  pub second-refuses : (n : ℕ) → Passes sequences → Refused n places → Refuses n
  second-refuses n a e =
      let w = refused places (tt {0}) e in
      rw (in_order, passed sequences (tt {0}) a, ne_eqb places 0 w.1, w.0) (refl, w.1)

  pub third-refuses : (n : ℕ) → Passes sequences → Passes places → (conflict F h p bytes report ≡ true) × (n ≡ unlike_repeat) → Refuses n
  third-refuses n a b w =
      rw (in_order, passed sequences (tt {0}) a, passed places (tt {0}) b, w.0, w.1) (refl, λ z. absurd (omega arith))

  pub none-refuses : Passes sequences → Passes places → conflict F h p bytes report ≡ false → join_refusal F h p bytes report ≡ 0
  none-refuses a b t = rw (in_order, passed sequences (tt {0}) a, passed places (tt {0}) b, t)

-- The piece is one of the expected message.
pub record Expected (F expected : ℕ) (p : Piece) : Type 0 where
  pub small : F ≤ 16384
  pub under : p.index < p.count
  pub few : p.count ≤ most
  pub more : expected ≡ 4294967295 → ⊥

pub is-expected : (F expected : ℕ) (p : Piece) → first (sequence_rows F expected p) ≡ 0 → Expected F expected p
is-expected F expected p e =
    let at : (n : ℕ) → test_of n (sequence_rows F expected p) ≡ false = λ n. row-false n (sequence_rows F expected p) refl e in
    let n = or-false (ltb most p.count) (leb p.count p.index) (at wrong_piece) in
    let past = ltb-false p.sequence expected (at past_sequence) in
    let future = ltb-false expected p.sequence (at future_sequence) in
    record {
      small = (good-size F (at wrong_fragment_size)).1;
      under = leb-false p.count p.index n.1;
      few = ltb-false most p.count n.0;
      more = λ z. eqb-false p.sequence 4294967295 (at last_sequence) (omega arith);
    }

fit : (F : ℕ) (p : Piece) (size : ℕ) (t : Bool) → is_last p ≡ t → misfit F p size ≡ false → size ≤ F
fit F p size true q e = ltb-false F size (or-false (ltb F size) (eqb size 0 && ltb 1 p.count) (rw q at e)).0
fit F p size false q e = omega (arith, eqb-true size F (not-false (eqb size F) (rw q at e)))

pub fitting : (F : ℕ) (h : Progress) (p : Piece) (bytes report : List ℕ) → join_refusal F h p bytes report ≡ 0
    → Fitting F h p (length bytes) × (F * p.index + length bytes ≤ length report)
unfolding join_refusal
fitting F h p bytes report e =
    let sequences = sequence_rows F h.expected p in
    let rest = place_rows F h p (length bytes) (length report) ++ repeat_rows F h p bytes report in
    let z = neither (first sequences) (first rest) (sym (first-append sequences rest refl) ∙ e) in
    let t = is-expected F h.expected p z.0 in
    let at : (n : ℕ) → test_of n rest ≡ false = λ n. row-false n rest refl z.1 in (
      record {
        small = t.small;
        under = t.under;
        few = t.few;
        more = t.more;
        fits = fit F p (length bytes) (is_last p) refl (at wrong_piece_size);
      },
      ltb-false (length report) (F * p.index + length bytes) (at no_room),
    )
