-- SPDX-License-Identifier: MPL-2.0
-- A machine that is given inputs one after the other: where it stands after a course of them, by what each of them was.
use Rattle.laws.proofs.Kit.{◌≡◌, List, [], ◌∷◌}
use Rattle.laws.specs.Courses.{final}

-- Inputs from the state c on, and the events that they are: `Is c x e` says that in state c the input x is the event e.
pub data Course {C X E : Type 0} (next : C → X → C) (Is : C → X → E → Type 0) : C → List X → List E → Type 0 where
  end : {c : C} → Course next Is c [] []
  goes : {c : C} {x : X} {xs : List X} {e : E} {es : List E} → Is c x e → Course next Is (next c x) xs es
      → Course next Is c (x ∷ xs) (e ∷ es)

-- Where each event takes a picture s of the state to another, `act s e`, the state after a course is that of the picture after its events.
module _ {C X E S : Type 0} {next : C → X → C} {Is : C → X → E → Type 0} (seat : S → C) (act : S → E → S) (Good : S → Type 0)
    (each : (c : C) (x : X) (e : E) (s : S) → Good s → c ≡ seat s → Is c x e → Good (act s e) × (next c x ≡ seat (act s e))) where
  pub course-seat : {c : C} {xs : List X} {es : List E} (s : S) → Good s → c ≡ seat s → Course next Is c xs es
      → Good (final act s es) × (final next c xs ≡ seat (final act s es))
  course-seat s w e end = (w, e)
  course-seat s w e (goes {c = c} {x = x} {e = d} i r) = let k = each c x d s w e i in course-seat (act s d) k.0 k.1 r
