-- SPDX-License-Identifier: MPL-2.0
-- A payload that has the format of a row of the list has a shape; one that has a shape is no longer than the longest of them.
use Rattle.laws.proofs.Kit.{ℕ, zero, suc, ◌≤◌, ◌<◌, ◌≡◌, refl, sym, Bool, true, false, true≢false, ◌&&◌, and-false, List, [], ◌∷◌}
use Rattle.laws.proofs.Kit.{length, get_or, eqb, leb, eq-eqb, leb-true, le_of_suc-le-suc, not-suc-le-zero, arith}
use Rattle.laws.proofs.Bools.{and-true, or-none, or-true}
use Rattle.laws.proofs.Cases.{on}
use Rattle.payloads.specs.Format.{end, accepts, longest}
use Rattle.payloads.specs.Shapes.{Shape, shapes, sealed_as, has_shape, is_shaped, bad_payload}
use Rattle.payloads.proofs.Formats.{accepted-short}

-- The row at a place of a list of shapes.
abbrev pub row_at : List Shape → ℕ → Shape
row_at rows i = get_or rows i (0, false, end)

sealed-as : (s : Bool) → sealed_as s s ≡ true
sealed-as true = refl
sealed-as false = refl

module _ (p : List ℕ) where
  row-shaped : (rows : List Shape) (i : ℕ) → i < length rows → accepts (row_at rows i).2 p ≡ true
      → has_shape (row_at rows i).0 (row_at rows i).1 p rows ≡ true
  row-shaped [] i h e = absurd (not-suc-le-zero h)
  row-shaped (row ∷ rows) zero h e = rw (eq-eqb row.0 row.0 refl, sealed-as row.1, e)
  row-shaped (row ∷ rows) (suc i) h e = rw (row-shaped rows i (le_of_suc-le-suc h) e, or-true)

  pub shape-good : (i : ℕ) → i < length shapes → accepts (row_at shapes i).2 p ≡ true → bad_payload (row_at shapes i).0 (row_at shapes i).1 p ≡ false
  unfolding bad_payload is_shaped
  shape-good i h e = rw (row-shaped shapes i h e, and-false)

  -- No payload of these shapes is longer than n.
  abbrev short : ℕ → List Shape → Bool
  short n [] = true
  short n (row ∷ rows) = leb (longest row.2) n && short n rows

  has_short : (kind : ℕ) (sealed : Bool) (n : ℕ) (rows : List Shape) → short n rows ≡ true → has_shape kind sealed p rows ≡ true → length p ≤ n
  has_short kind sealed n [] s e = absurd (true≢false (sym e))
  has_short kind sealed n (row ∷ rows) s e =
      let k = and-true (leb (longest row.2) n) (short n rows) s in
      on (has_shape kind sealed p rows) (has_short kind sealed n rows k.1) λ r.
      let a = (and-true (eqb kind row.0 && sealed_as sealed row.1) _ (rw (r, or-none) at e)).1 in
      omega (arith, accepted-short row.2 p a, leb-true (longest row.2) n k.0)

  pub shaped-short : (kind : ℕ) (sealed : Bool) → is_shaped kind sealed p ≡ true → length p ≤ 2567
  unfolding is_shaped longest
  shaped-short kind sealed e = has_short kind sealed 2567 shapes refl e
