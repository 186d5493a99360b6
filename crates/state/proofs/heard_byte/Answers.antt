-- SPDX-License-Identifier: MPL-2.0
-- The part of the set is the eight indexes.
use Rattle.laws.proofs.Kit.{◌+◌, ◌-◌, ◌*◌, ◌≡◌, arith}
use Rattle.wire.specs.Fields.{most_pieces}
use Rattle.state.proofs.Bits.{part-eight}
use Rattle.state.proofs.heard_byte.Goals as goal

pub returns : goal.returns
unfolding most_pieces
returns c =
    let i = c.args.i in
    let n : 8 * i + 8 - 8 * i ≡ 8 = omega arith in
    rw (c.value.ensures, n) (part-eight c.args.heard.now (8 * i) (omega (arith, c.told-heard)))
