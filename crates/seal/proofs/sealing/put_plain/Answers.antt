-- SPDX-License-Identifier: MPL-2.0
-- Three runs one after the other fill the room.
use Rattle.laws.proofs.Kit.{◌+◌, refl, ◌∙◌, length, replicate, length-append, arith}
use Rattle.laws.specs.Bytes.{bytes32}
use Rattle.laws.proofs.Stores.{run, then}
use Rattle.seal.proofs.Filling.{plain-stored}
use Rattle.seal.proofs.sealing.put_plain.Goals as goal

pub returns : goal.returns
returns c =
    let payload = c.args.payload.now in
    let room = c.args.room.now in
    let one = then (bytes32 (length payload)) 0 (run 0 room) c.store32.ensures refl in
    let two = then payload 4 one c.store_bytes.ensures refl in
    let three = then (replicate 16 c.padding.result) (4 + length payload) two c.store_bytes-2.ensures
    (simp length-append (omega arith)) in
    three.is ∙ plain-stored payload room _ c.requires.1 c.padding.ensures.0
