-- SPDX-License-Identifier: MPL-2.0
-- The places laid are those that part and block have in common, if there are any.
use Rattle.laws.proofs.Kit.{refl, ◌∙◌, arith}
use Rattle.sha256.proofs.Laying.{laid, laid_none}
use Rattle.sha256.proofs.parts.lay.Goals as goal

pub returns-then-from-to : goal.returns-then-from-to
returns-then-from-to c front l e =
    laid front _ _ _ _ _ l c.max-from.ensures c.min-to.ensures _ _ _ _ _ refl (omega arith) (omega arith) (omega arith) e c.copy_from_slice.ensures.after

pub returns-else-from-to : goal.returns-else-from-to
returns-else-from-to c front l e = e ∙ laid_none front _ _ _ _ _ l c.max-from.ensures c.min-to.ensures (omega arith)
