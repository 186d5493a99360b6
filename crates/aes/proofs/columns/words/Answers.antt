-- SPDX-License-Identifier: MPL-2.0
-- The words are made of the block's bytes.
use Rattle.laws.proofs.Kit.{◌∙◌, get_or, arith, rules}
use Rattle.std.proofs.Common.{Fits, w8}
use Rattle.aes.specs.State.{Block}
use Rattle.aes.proofs.StateWords.{columns-bytes, joined}
use Rattle.aes.proofs.columns.words.Goals as goal

pub returns : goal.returns
returns c =
    let k = c.args.k in
    let b : Block k = record { len = omega arith; bytes = λ i h. (let f : Fits w8 (get_or k i 0) = search rules in f.fits) } in
    columns-bytes k b _ (
      c.from_le_bytes.ensures ∙ joined _ _ _ _,
      c.from_le_bytes-2.ensures ∙ joined _ _ _ _,
      c.from_le_bytes-3.ensures ∙ joined _ _ _ _,
      c.from_le_bytes-4.ensures ∙ joined _ _ _ _,
    )
