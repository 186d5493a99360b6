-- SPDX-License-Identifier: MPL-2.0
-- The length is that of the pieces before the last and of the last.
use Rattle.laws.proofs.Kit.{◌-◌, arith}
use Rattle.joining.specs.Heard.{most}
use Rattle.wire.specs.Fields.{most_pieces}
use Rattle.joining.proofs.Cuts.{place-bound}
use Rattle.joining.proofs.held.Held.advance.Goals as goal

-- F × (count - 1): a bound that omega takes.
pub overflow_mul-length : goal.overflow_mul-length
unfolding most_pieces
overflow_mul-length c =
    let p = c.args.placed.now in
    omega (arith, place-bound p.size (p.piece.count - 1) most p.small (omega arith))

pub overflow_add-length : goal.overflow_add-length
unfolding most_pieces
overflow_add-length c =
    let p = c.args.placed.now in
    omega (arith, place-bound p.size (p.piece.count - 1) most p.small (omega arith))
