-- SPDX-License-Identifier: MPL-2.0
-- The size that stands there, its padding and the last block's end are what `bad_blocks` asks for.
use Rattle.laws.proofs.Kit.{◌-◌, ◌≡◌, arith}
use Rattle.seal.specs.Padding.{padding_bytes, bad_blocks}
use Rattle.seal.proofs.padding.bad_blocks.Goals as goal

pub returns : goal.returns
unfolding bad_blocks padding_bytes
returns c =
    let count = c.padding-count.result in
    let few : 16 - (16 - count) ≡ count = omega arith in
    rw (c.differ.ensures, c.from-from.ensures, c.sealed_size.ensures, few, c.padding-count.ensures.0, c.number32-told.ensures)
