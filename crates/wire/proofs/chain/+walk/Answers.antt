-- SPDX-License-Identifier: MPL-2.0
-- By the entry at the start: each case is a law of `chain`.
use Rattle.wire.proofs.Chains.{walk-wrong, walk_end, walk-full, walk-on, end_fits, span_fits}
use Rattle.wire.proofs.chain.+walk.Goals as goal

pub overflow_sub-result : goal.overflow_sub-result
overflow_sub-result t c = search end_fits

pub returns-then-left-eq0 : goal.returns-then-left-eq0
returns-then-left-eq0 t c = search walk-full

pub slice_bounds-walk-count : goal.slice_bounds-walk-count
slice_bounds-walk-count t c = search span_fits

pub slice_bounds-walk-start : goal.slice_bounds-walk-start
slice_bounds-walk-start t c = search span_fits

pub returns-in-Wrong : goal.returns-in-Wrong
returns-in-Wrong t c = search walk-wrong

pub returns-in-End : goal.returns-in-End
returns-in-End t c = search walk_end

pub returns-else-left-eq0 : goal.returns-else-left-eq0
returns-else-left-eq0 t c = search walk-on
