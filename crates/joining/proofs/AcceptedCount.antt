-- SPDX-License-Identifier: MPL-2.0
-- What is remembered of the expected message is which indexes were accepted, and each count that is answered is theirs: of any pieces whatever.
use Rattle.laws.proofs.Kit.{ℕ, ◌≤◌, ◌<◌, ◌≡◌, refl, sym, ◌∙◌, Bool, true, false, true≢false, not, List, [], ◌∷◌, length, length-set, length-replicate}
use Rattle.laws.proofs.Kit.{eqb, ne_eqb, eqb-true, not-false, arith}
use Rattle.laws.proofs.Bools.{or-false}
use Rattle.laws.proofs.Firsts.{row-false}
use Rattle.laws.proofs.Cases.{on}
use Rattle.wire.specs.Refusals.{unlike_first_piece}
use Rattle.joining.specs.declared.Progress.{Progress}
use Rattle.joining.specs.declared.Piece.{Piece}
use Rattle.joining.specs.Heard.{most, tally, has, mark, none}
use Rattle.joining.specs.Join.{unlike, join_rows, join_refusal, Fitting, extended, told}
use Rattle.joining.proofs.HeardLaws.{has-none, tally-some, tally-come}
use Rattle.joining.proofs.Refusals.{fitting}
use Rattle.joining.proofs.EventSet.{mark-came, tally-came}
use Rattle.joining.specs.Events.{Event, piece, came, how_many}

-- The heard set has the indexes accepted, and they are under the remembered count.
pub record Holds (h : Progress) (es : List Event) : Type 0 where
  pub long : length h.heard ≡ most
  pub alike : (j : ℕ) → has h.heard j ≡ came j es
  pub below : (j : ℕ) → came j es ≡ true → j < h.count

pub nothing-holds : (h : Progress) → h.heard ≡ none most → Holds h []
nothing-holds h e =
    record { long = rw e (length-replicate most false); alike = λ j. rw e (has-none most j); below = λ j c. absurd (true≢false (sym c)) }

-- A piece that is not refused.
module _ (F : ℕ) (h : Progress) (p : Piece) (bytes report : List ℕ) (es : List Event) (w : Holds h es)
    (e : join_refusal F h p bytes report ≡ 0) where
  abbrev S : List Bool
  S = mark h.heard p.index

  abbrev now : List Event
  now = piece p.index ∷ es

  fit : Fitting F h p (length bytes)
  fit = (fitting F h p bytes report e).0

  -- Where something is heard, this piece has its count.
  same_count : (j : ℕ) → came j es ≡ true → h.count ≡ p.count
  unfolding join_refusal
  same_count j c =
      let like : unlike h p ≡ false = row-false unlike_first_piece (join_rows F h p bytes report) refl e in
      let some = ne_eqb (tally h.heard) 0 (λ z. omega (arith, tally-some h.heard j (w.alike j ∙ c))) in
      eqb-true h.count p.count (not-false _ (or-false (not (eqb h.count p.count)) _ (rw some at like)).0)

  alike-now : (j : ℕ) → has S j ≡ came j now
  alike-now = mark-came h.heard es w.alike p.index (omega (arith, fit, w.long))

  below-now : (j : ℕ) → came j now ≡ true → j < p.count
  below-now j c =
      on (eqb j p.index) (λ q. omega (arith, eqb-true j p.index q, fit))
      (λ q. let d : came j es ≡ true = rw q at c in omega (arith, w.below j d, same_count j d))

  -- So nothing stands in the set from the count on.
  none_after : (j : ℕ) → p.count ≤ j → has S j ≡ false
  none_after j l = on (came j now) (λ c. absurd (omega (arith, below-now j c))) (λ c. alike-now j ∙ c)

  -- With this piece: how many are told, whatever the answer; and what is held where it is Taken.
  pub told-now : told h p ≡ how_many most now
  told-now = sym (tally-come p.count S none_after) ∙ tally-came S now alike-now most (λ j l. none_after j (omega (arith, fit)))

  pub extended-holds : Holds (extended h p (length bytes)) now
  extended-holds = record { long = length-set h.heard p.index true ∙ w.long; alike = alike-now; below = below-now }
