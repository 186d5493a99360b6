-- SPDX-License-Identifier: MPL-2.0
-- The words have their size or not; the cutter refuses or not.
use Rattle.joining.proofs.Cuts.{cuttable}
use Rattle.hub_c.proofs.Sizing.{cut-refused, cut-taken, cut-told}
use Rattle.laws.proofs.Kit.{eq-eqb, arith}
use Rattle.hub_c.proofs.cutting.hub_cut.Goals as goal

pub overflow_mul-from : goal.overflow_mul-from
overflow_mul-from c = omega (arith, (cuttable _ _ _ (cut-taken _ _ _ _ c.in-Ok.ensures)).within)

pub returns-in-Err-clause-new_piece : goal.returns-in-Err-clause-new_piece
returns-in-Err-clause-new_piece c = rw (eq-eqb _ _ c.if-piece-ne-PIECE.false) (cut-refused _ _ _ _ _ c.in-Err.ensures c.put_triple.ensures).1

pub returns-in-Ok-clause-new_piece : goal.returns-in-Ok-clause-new_piece
returns-in-Ok-clause-new_piece c =
    rw (eq-eqb _ _ c.if-piece-ne-PIECE.false)
    (cut-told _ _ _ _ _ _ c.in-Ok.ensures c.cut_piece-bytes.ensures c.put_triple-in-Ok.ensures)
