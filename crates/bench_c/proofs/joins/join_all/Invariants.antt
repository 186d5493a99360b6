-- SPDX-License-Identifier: MPL-2.0
-- After i turns the first i pieces have come.
use Rattle.laws.proofs.Kit.{◌≡◌, length}
use Rattle.bench_c.proofs.Courses.{Came}
use Rattle.bench_c.proofs.joins.join_all.Given as goal

abbrev pub invariant-loop-i : goal.invariant-loop-i
invariant-loop-i l =
    record {
      long : length l.report ≡ length l.initial.report;
      came : Came l.size l.count l.source l.initial.report l.i l.held l.report l.told;
    }
