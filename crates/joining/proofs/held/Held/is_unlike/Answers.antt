-- SPDX-License-Identifier: MPL-2.0
-- The heard set is looked at only where count or channel differs: else there is nothing to find.
use Rattle.laws.proofs.Kit.{◌≡◌, refl, Bool, true, false, not, ◌&&◌, ◌||◌}
use Rattle.laws.proofs.Bools.{and_one}
use Rattle.joining.proofs.HeardLaws.{any-tally}
use Rattle.joining.proofs.held.Held.is_unlike.Goals as goal

one-differs : (a b : Bool) → (not a || not b) ≡ not (a && b)
one-differs true b = refl
one-differs false b = refl

pub returns-then-ne : goal.returns-then-ne
returns-then-ne c =
    let held = c.args.self.now in
    rw (c.contains.ensures.value, any-tally held.heard.now, held.same) (simp (one-differs, ← c.ne.ensures, c.if-ne.true, and_one))
