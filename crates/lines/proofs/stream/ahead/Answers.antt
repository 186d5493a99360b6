-- SPDX-License-Identifier: MPL-2.0
-- What is taken fits sixteen bits, as MessageLength does.
use Rattle.laws.proofs.Kit.{arith}
use Rattle.lines.proofs.Streams.{wanted-below}
use Rattle.lines.proofs.stream.ahead.Goals as goal

pub overflow_cast-result : goal.overflow_cast-result
overflow_cast-result c =
    omega (arith, c.wanted-size.ensures, wanted-below c.args.stream.now (record { at = λ i. omega (arith, c.type_inv.stream i) }))

pub overflow_cast-result-2 : goal.overflow_cast-result-2
overflow_cast-result-2 c =
    omega (arith, c.wanted-size.ensures, wanted-below c.args.stream.now (record { at = λ i. omega (arith, c.type_inv.stream i) }))
