-- SPDX-License-Identifier: MPL-2.0
-- The part that was lent comes back as the bytes; what has no room is dropped by `sets` too.
use Rattle.laws.proofs.Kit.{◌+◌, ◌-◌, sym, ◌∙◌, length, take, length-take, arith}
use Rattle.laws.proofs.Lent.{lent-stores}
use Rattle.laws.proofs.Stores.{sets-past, sets-cut}
use Rattle.octets.proofs.stores.store_bytes.Goals as goal

pub returns-then-out-at : goal.returns-then-out-at
returns-then-out-at c = sym (sets-past c.args.bytes.now c.args.out.now c.args.at (omega arith))

pub returns-then-room-bytes : goal.returns-then-room-bytes
returns-then-room-bytes c =
    let room = length c.args.out.now - c.args.at in
    lent-stores c.args.out.now (take (room - 0) c.args.bytes.now) c.args.at room c.copy_from_slice.ensures.after
    (simp length-take (omega arith)) (omega arith)
    ∙ sets-cut c.args.bytes.now c.args.out.now c.args.at (room - 0) (omega arith)

pub returns : goal.returns
returns c =
    lent-stores c.args.out.now c.args.bytes.now c.args.at (c.args.at + length c.args.bytes.now - c.args.at)
    c.copy_from_slice-2.ensures.after (omega arith) (omega arith)
