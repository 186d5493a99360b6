-- SPDX-License-Identifier: MPL-2.0
-- Nothing comes of what no report has.
use Rattle.laws.proofs.Kit.{refl}
use Rattle.bench_c.specs.Course.{course}
use Rattle.bench_c.proofs.joins.bench_join.Goals as goal

pub returns-then-not_one : goal.returns-then-not_one
unfolding course
returns-then-not_one c = rw (← c.not_one.ensures, c.if-not_one.true) (record { value = refl; new_report = refl })
