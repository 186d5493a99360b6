-- SPDX-License-Identifier: MPL-2.0
-- The search found the mark, or it came to the end.
use Rattle.laws.proofs.Lists.{part-from}
use Rattle.intake.proofs.Buffers.{mark-found, mark-none}
use Rattle.intake.proofs.after_mark.Goals as goal

pub returns-in-Some : goal.returns-in-Some
returns-in-Some c = mark-found c.args.text.now c.args.at c.args.mark _ c.min-start.ensures c.in-Some.found (rw part-from at c.in-Some.ensures)

pub returns-in-None : goal.returns-in-None
returns-in-None c = mark-none c.args.text.now c.args.at c.args.mark _ c.min-start.ensures (rw part-from at c.in-None.ensures)
