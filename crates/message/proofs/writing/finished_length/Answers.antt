-- SPDX-License-Identifier: MPL-2.0
-- The sums are short.
use Rattle.laws.proofs.Kit.{arith}
use Rattle.seal.proofs.Padded.{sizes}
use Rattle.message.specs.Writing.{finished_length}
use Rattle.message.proofs.writing.finished_length.Goals as goal

pub overflow_add-result-then-sealed : goal.overflow_add-result-then-sealed
overflow_add-result-then-sealed c = let s = sizes c.args.payload in omega arith

pub overflow_add-result-then-sealed-2 : goal.overflow_add-result-then-sealed-2
overflow_add-result-then-sealed-2 c = let s = sizes c.args.payload in omega arith

pub returns-then-sealed : goal.returns-then-sealed
unfolding finished_length
returns-then-sealed c = rw (c.if-sealed.true, c.sealed_size.ensures)

pub returns : goal.returns
unfolding finished_length
returns c = rw c.if-sealed.false
