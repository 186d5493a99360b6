-- SPDX-License-Identifier: MPL-2.0
-- The course of the pieces, one after the other.
use Rattle.laws.proofs.Kit.{refl, rules}
use Rattle.bench_c.specs.Course.{course}
use Rattle.bench_c.proofs.Courses.{came-more}
use Rattle.bench_c.proofs.joins.join_all.Goals as goal

pub loop-i-init : goal.loop-i-init
unfolding course
loop-i-init c =
    record { long = refl; came = record { holds = c.expecting-held.ensures; stands = refl; says = refl } }

pub loop-i-preserved : goal.loop-i-preserved
loop-i-preserved c =
    let joined = c.join_next-joined.ensures in
    record {
      long = search rules;
      came = came-more _ _ _ _ _ c.loop-i.invariant.came _ _ _ joined.value joined.new_report c.length_told-told.ensures;
    }
