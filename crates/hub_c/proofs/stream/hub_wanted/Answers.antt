-- SPDX-License-Identifier: MPL-2.0
-- MessageLength fits sixteen bits.
use Rattle.laws.proofs.Kit.{◌<◌, arith}
use Rattle.lines.proofs.Streams.{wanted-below}
use Rattle.hub_c.proofs.stream.hub_wanted.Goals as goal

pub overflow_cast-result : goal.overflow_cast-result
overflow_cast-result c =
    let small : c.wanted.result < 65536 = rw c.wanted.ensures (wanted-below _ (record { at = λ i. omega (arith, c.type_inv.bytes i) })) in
    omega arith
