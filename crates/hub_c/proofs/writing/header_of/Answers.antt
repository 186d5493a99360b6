-- SPDX-License-Identifier: MPL-2.0
-- Each field is its word, which has room.
use Rattle.laws.proofs.Kit.{arith}
use Rattle.hub_c.proofs.Sizing.{fits}
use Rattle.hub_c.proofs.writing.header_of.Goals as goal

pub overflow_cast-result : goal.overflow_cast-result
overflow_cast-result c = omega (arith, fits c.args.fields.now c.requires)

pub overflow_cast-result-2 : goal.overflow_cast-result-2
overflow_cast-result-2 c = omega (arith, fits c.args.fields.now c.requires)

pub overflow_cast-result-3 : goal.overflow_cast-result-3
overflow_cast-result-3 c = omega (arith, fits c.args.fields.now c.requires)

pub overflow_cast-result-4 : goal.overflow_cast-result-4
overflow_cast-result-4 c = omega (arith, fits c.args.fields.now c.requires)

pub overflow_cast-result-5 : goal.overflow_cast-result-5
overflow_cast-result-5 c = omega (arith, fits c.args.fields.now c.requires)
