-- SPDX-License-Identifier: MPL-2.0
-- Over the fields, with what the calls answer; a name has no least size, and the device type is any number.
use Rattle.laws.proofs.Kit.{ℕ, ◌+◌, ◌≡◌, refl, ◌&&◌, List, length, eqb, leb, le-leb, arith}
use Rattle.laws.specs.Bytes.{be8, be16}
use Rattle.laws.proofs.Bools.{and_one, and_assoc}
use Rattle.payloads.specs.Format.{one, two, accepts}
use Rattle.payloads.specs.Shapes.{at_most, any_number, presence_response}
use Rattle.payloads.proofs.Steps.{over-fixed, over-free, over-array, over_sized, at-end}
use Rattle.payloads.proofs.shapes.is_presence_response.Goals as goal

fields : (p : List ℕ) {n d m : ℕ} → n ≡ be16 p 5 → d ≡ be8 p 0 → m ≡ be16 p 1
    → (eqb d 1 && leb m 2 && leb n 64 && eqb (length p) (15 + n)) ≡ accepts presence_response p
fields p {n} {d} {m} e f g =
    let parts = over-array p 4 (7 + n) _ (over-array p 4 (7 + n + 4) _ (at-end p (7 + n + 4 + 4))) in
    let size : 7 + n + 4 + 4 ≡ 15 + n = omega arith in
    let name = rw (le-leb 0 n (omega arith), size) at (over_sized p two 0 64 5 _ e parts) in
    let device = over-free p two any_number 3 _ {x = be16 p 3} refl name in
    simp (and_one, and_assoc) at (over-fixed p one 1 0 _ f (over-free p two (at_most 2) 1 _ g device))

pub returns : goal.returns
returns c = rw c.number.ensures (fields _ c.number16-name.ensures c.byte.ensures c.number16.ensures)
