-- SPDX-License-Identifier: MPL-2.0
-- Over the fields, with what the calls answer.
use Rattle.laws.proofs.Kit.{ℕ, ◌≡◌, ◌&&◌, List, length, eqb}
use Rattle.laws.specs.Bytes.{be16, be32}
use Rattle.laws.proofs.Bools.{and_assoc}
use Rattle.payloads.specs.Format.{two, four, accepts_from}
use Rattle.payloads.specs.Shapes.{exchange}
use Rattle.payloads.proofs.Steps.{over-fixed, over-array, at-end}
use Rattle.payloads.proofs.shapes.exchanges.Goals as goal

fields : (p : List ℕ) {h s k l : ℕ} → h ≡ be16 p 4 → s ≡ be32 p 14 → k ≡ be16 p 18 → l ≡ be16 p 52
    → (eqb h 32 && eqb s 16384 && eqb k 32 && eqb l 32 && eqb (length p) 86) ≡ accepts_from exchange p 4
fields p a b c d =
    let y = over-fixed p two 32 52 _ d (over-array p 32 54 _ (at-end p 86)) in
    let x = over-fixed p two 32 18 _ c (over-array p 32 20 _ y) in
    simp and_assoc at (over-fixed p two 32 4 _ a (over-array p 8 6 _ (over-fixed p four 16384 14 _ b x)))

pub returns : goal.returns
returns c = fields _ c.number16.ensures c.number32.ensures c.number16-2.ensures c.number16-3.ensures
