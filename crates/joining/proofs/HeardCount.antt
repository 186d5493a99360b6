-- SPDX-License-Identifier: MPL-2.0
-- The heard count over any course: it is the number of different pieces that have come.
use Rattle.laws.proofs.Kit.{ℕ, ◌<◌, ◌≡◌, sym, ◌∙◌, Bool, true, false, List, ◌∷◌, ne_eqb, eqb-true}
use Rattle.laws.specs.Courses.{final}
use Rattle.joining.specs.declared.Arrival.TheVariants.{Taken, Repeat}
use Rattle.joining.specs.Heard.{come, mark}
use Rattle.joining.proofs.HeardLaws.{not_full}
use Rattle.joining.proofs.Snapshot.{Start, Startable, piece_of, piece_bytes}
use Rattle.joining.proofs.EventSet.{set_of, come-came}
use Rattle.joining.proofs.DemandThree.{Machine, CourseOf, began, has-came, with-came, all_come, here}
use Rattle.joining.specs.Events.{Event, piece, came, LastMissing, how_many}

module _ (s : Start) (f : Startable s) (m : Machine s.size) {xs : List m.X} {es : List Event} (r : CourseOf s m (began s f m) xs es) (i : ℕ)
    (l : i < s.count) where
  abbrev S : List Bool
  S = set_of es

  -- How many have come with piece i.
  come-here : come s.count (mark S i) ≡ how_many s.count (piece i ∷ es)
  come-here = come-came (mark S i) (piece i ∷ es) (with-came s f m r i l) s.count

  -- When the last missing one comes, all have come.
  pub all_told : LastMissing s.count i es → s.count ≡ how_many s.count (piece i ∷ es)
  all_told d = sym (eqb-true (come s.count (mark S i)) s.count (all_come s f m r i l d)) ∙ come-here

  module _ (x : m.X) (h : m.Brings (piece_of s i) (piece_bytes s i) x) where
    -- A piece that has come, while one is missing.
    pub told-again : came i es ≡ true → (j : ℕ) → j < s.count → came j es ≡ false
        → m.says (final m.next (began s f m) xs) x ≡ m.answer (Repeat (how_many s.count (piece i ∷ es)))
    told-again a j k c =
        rw ((here s f m r i l x h).1, not_full s.count S j k (has-came s f m r j ∙ c), has-came s f m r i, a, come-here)

    -- A piece that had not, while another is missing.
    pub told-taken : came i es ≡ false → (j : ℕ) → j < s.count → (j ≡ i → ⊥) → came j es ≡ false
        → m.says (final m.next (began s f m) xs) x ≡ m.answer (Taken (how_many s.count (piece i ∷ es)))
    told-taken a j k n c =
        let u = not_full s.count S j k (has-came s f m r j ∙ c) in
        let v = not_full s.count (mark S i) j k (rw (with-came s f m r i l j, ne_eqb j i n) c) in
        rw ((here s f m r i l x h).1, u, has-came s f m r i, a, v, come-here)
