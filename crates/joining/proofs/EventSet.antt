-- SPDX-License-Identifier: MPL-2.0
-- The set of the pieces that have come: it has just these, and as many.
use Rattle.laws.proofs.Kit.{ℕ, zero, suc, ◌≤◌, ◌<◌, ◌≡◌, refl, ◌∙◌, ap, Bool, false, List, ◌∷◌, length, eqb, arith}
use mathlib.Core.Bool.{or_comm}
use Rattle.laws.specs.Courses.{final}
use Rattle.joining.specs.Heard.{most, bit, tally, come, has, mark, none}
use Rattle.joining.specs.Events.{Event, piece, between, came, how_many}
use Rattle.joining.proofs.HeardLaws.{come-suc, tally-come, mark-has}

-- A set S that has what has come.
module _ (S : List Bool) (es : List Event) (e : (j : ℕ) → has S j ≡ came j es) where
  pub mark-came : (i : ℕ) → i < length S → (j : ℕ) → has (mark S i) j ≡ came j (piece i ∷ es)
  mark-came i l j = rw (mark-has S i j l, e j) (or_comm (came j es) (eqb j i))

  pub come-came : (n : ℕ) → come n S ≡ how_many n es
  come-came zero = refl
  come-came (suc n) = let b : bit (has S n) ≡ bit (came n es) = ap bit (e n) in omega (arith, come-suc S n, come-came n)

  -- Where nothing stands in it from n on.
  pub tally-came : (n : ℕ) → ((j : ℕ) → n ≤ j → has S j ≡ false) → tally S ≡ how_many n es
  tally-came n b = tally-come n S b ∙ come-came n

-- What an event does to the set of those that have come.
abbrev pub heard_with : List Bool → Event → List Bool
heard_with S (piece i) = mark S i
heard_with S between = S

-- The set of what has come.
abbrev pub set_of : List Event → List Bool
set_of es = final heard_with (none most) es
