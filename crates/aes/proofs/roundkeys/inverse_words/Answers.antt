-- SPDX-License-Identifier: MPL-2.0
-- Key by key.
use Rattle.laws.proofs.Kit.{rules}
use Rattle.aes.specs.Words.{no_words}
use Rattle.aes.specs.Cipher.{eq_keys}
use Rattle.aes.proofs.Lookups.{keys-are}
use Rattle.aes.proofs.roundkeys.inverse_words.Goals as goal

pub returns-clause-words : goal.returns-clause-words
unfolding eq_keys
returns-clause-words c = let made = c.from_fn.ensures.items in keys-are _ _ _ made.long (λ n h. let called = made.at n no_words h in search rules)
