-- SPDX-License-Identifier: MPL-2.0
-- Each of the two blocks by itself.
use Rattle.aes.specs.Cbc.{cbc_decrypt_block}
use Rattle.aes.proofs.StateWords.{words-added}
use Rattle.aes.proofs.cbc.cbc_decrypt_ends.Goals as goal

pub returns : goal.returns
unfolding cbc_decrypt_block
returns c =
    let w = c.inverse_words-w.ensures in
    let a = c.decrypt-a.ensures c.args.keys w.are_blocks w.words in
    let b = c.decrypt-b.ensures c.args.keys w.are_blocks w.words in (
      rw (c.bytes_of.ensures, c.add.ensures, words-added, a, c.words.ensures, c.words-3.ensures),
      rw (c.bytes_of-2.ensures, c.add-2.ensures, words-added, b, c.words-2.ensures, c.words-4.ensures),
    )
