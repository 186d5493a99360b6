-- SPDX-License-Identifier: MPL-2.0
-- The run makes a turn, has come to its end, or has no more turns.
use Rattle.laws.proofs.Kit.{refl, arith}
use Rattle.lines.proofs.Turns.{reached-first, reached-more, reached-stop, reached-last}
use Rattle.lines.proofs.listing.list.Goals as goal

pub loop-init : goal.loop-init
loop-init c = record { reached = reached-first _ _ _ _ (omega arith); as_long = refl }

pub loop-preserved : goal.loop-preserved
loop-preserved c =
    let v = c.loop.invariant in
    let e = c.turn-run.ensures in
    record {
      reached = reached-more _ _ _ v.reached _ _ _ v.as_long (omega arith) c.in-Going.is e.value e.new_out;
      as_long = omega arith;
    }

pub returns-in_default : goal.returns-in_default
returns-in_default c =
    let w = reached-stop _ _ _ c.loop.invariant.reached c.in_default.not-Going in
    record { value = w.0; new_out = w.1 }

pub returns-after-loop : goal.returns-after-loop
returns-after-loop c =
    let w = reached-last _ _ _ c.loop.invariant.reached (omega arith) in
    record { value = w.0; new_out = w.1 }
