-- SPDX-License-Identifier: MPL-2.0
-- The value so far is that of the bits passed.
use Rattle.laws.proofs.Kit.{◌≡◌, take}
use Rattle.state.specs.State.{value}
use Rattle.state.proofs.value.Given as goal

abbrev pub invariant-loop-k : goal.invariant-loop-k
invariant-loop-k l = l.value ≡ value (take l.k l.bits)
