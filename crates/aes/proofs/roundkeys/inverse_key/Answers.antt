-- SPDX-License-Identifier: MPL-2.0
-- The first and the last key stay.
use Rattle.laws.proofs.Kit.{◌<◌, ◌∙◌, sym, arith}
use Rattle.aes.proofs.StateWords.{block-by}
use Rattle.aes.proofs.Lookups.{at_ends, between}
use Rattle.aes.proofs.roundkeys.inverse_key.Goals as goal

pub returns-in-0-clause-key : goal.returns-in-0-clause-key
returns-in-0-clause-key c = rw c.in-0.is (c.words.ensures ∙ sym (at_ends c.args.keys.now).0)

pub returns-in-0-clause-is_block : goal.returns-in-0-clause-is_block
returns-in-0-clause-is_block c = rw c.in-0.is (block-by _ _ c.words.ensures)

pub returns-in-10-clause-key : goal.returns-in-10-clause-key
returns-in-10-clause-key c = rw c.in-10.is (c.words-in-10.ensures ∙ sym (at_ends c.args.keys.now).1)

pub returns-in-10-clause-is_block : goal.returns-in-10-clause-is_block
returns-in-10-clause-is_block c = rw c.in-10.is (block-by _ _ c.words-in-10.ensures)

pub returns-in_default-clause-key : goal.returns-in_default-clause-key
returns-in_default-clause-key c =
    let first : 0 < c.args.n = omega (arith, c.in_default) in
    let last : c.args.n < 10 = omega (arith, c.in_default, c.requires) in
    c.unmixed.ensures ∙ rw (c.words-in_default.ensures, between c.args.keys.now c.args.n first last)

pub returns-in_default-clause-is_block : goal.returns-in_default-clause-is_block
returns-in_default-clause-is_block c = block-by _ _ c.words-in_default.ensures
