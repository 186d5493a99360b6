-- SPDX-License-Identifier: MPL-2.0
-- Over the fields, with what the calls answer; a thumbprint has no least size.
use Rattle.laws.proofs.Kit.{ℕ, ◌+◌, ◌≡◌, ◌&&◌, ◌||◌, List, length, eqb, leb, le-leb, arith}
use Rattle.laws.specs.Bytes.{be8, be16}
use Rattle.laws.proofs.Bools.{and_one, and_assoc}
use Rattle.payloads.specs.Format.{one, two, end, accepts}
use Rattle.payloads.specs.Shapes.{at_most, either, device_authentication}
use Rattle.payloads.proofs.Steps.{over-free, over_sized, at-end}
use Rattle.payloads.proofs.shapes.is_device_authentication.Goals as goal

fields : (p : List ℕ) {m k c t : ℕ} → m ≡ be16 p 0 → k ≡ be8 p 2 → c ≡ be16 p 3 → t ≡ be16 p (5 + c)
    → (leb m 2 && (eqb k 2 || eqb k 3) && leb 1 c && leb c 2048 && leb t 512 && eqb (length p) (5 + c + 2 + t)) ≡ accepts device_authentication p
fields p {m} {k} {c} {t} d e f g =
    let thumbprint = over_sized p two 0 512 (5 + c) end g (at-end p (5 + c + 2 + t)) in
    simp (and_one, and_assoc) at (over-free p two (at_most 2) 0 _ d (over-free p one (either 2 3) 2 _ e (over_sized p two 1 2048 3 _ f
    (rw (le-leb 0 t (omega arith)) at thumbprint))))

pub returns : goal.returns
returns c =
    rw c.shows_certificate.ensures
    (fields _ c.number16.ensures c.byte-connect.ensures c.number16-certificate.ensures c.number16-thumbprint.ensures)
