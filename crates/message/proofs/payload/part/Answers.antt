-- SPDX-License-Identifier: MPL-2.0
-- One of the two, and there the part or nothing.
use Rattle.laws.proofs.Kit.{sym, ◌∙◌, add-sub_cancel_left}
use Rattle.message.specs.Handed.{part_of, payload}
use Rattle.message.proofs.payload.part.Goals as goal

pub returns-then-lacks : goal.returns-then-lacks
unfolding payload part_of
returns-then-lacks c = rw (c.if-found.true, sym c.lacks.ensures ∙ c.if-lacks.true)

pub returns-then-found : goal.returns-then-found
unfolding payload part_of
returns-then-found c = rw (c.if-found.true, sym c.lacks.ensures ∙ c.if-lacks.false, add-sub_cancel_left)

pub returns-then-lacks-2 : goal.returns-then-lacks-2
unfolding payload part_of
returns-then-lacks-2 c = rw (c.if-found.false, sym c.lacks-2.ensures ∙ c.if-lacks-2.true)

pub returns : goal.returns
unfolding payload part_of
returns c = rw (c.if-found.false, sym c.lacks-2.ensures ∙ c.if-lacks-2.false, add-sub_cancel_left)
