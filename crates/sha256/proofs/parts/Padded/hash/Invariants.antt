-- SPDX-License-Identifier: MPL-2.0
-- The invariant: n blocks are hashed.
use Rattle.laws.proofs.Kit.{◌≡◌, ◌++◌}
use Rattle.sha256.specs.Digests.{blocks}
use Rattle.sha256.specs.Parts.{joined}
use Rattle.sha256.proofs.parts.Padded.hash.Given as goal

abbrev pub invariant-loop-n : goal.invariant-loop-n
invariant-loop-n l = l.x ≡ blocks l.initial.x (joined l.self.message ++ l.self.padding.now) l.n
