-- SPDX-License-Identifier: MPL-2.0
-- Key by key.
use Rattle.laws.proofs.Kit.{rules}
use Rattle.aes.specs.Words.{bytes_of, no_words}
use Rattle.aes.specs.Cipher.{keys_back}
use Rattle.aes.proofs.Lookups.{keys-are}
use Rattle.aes.proofs.roundkeys.key_words.Goals as goal

pub returns : goal.returns
unfolding keys_back bytes_of
returns c = let made = c.from_fn.ensures.items in keys-are _ _ _ made.long (λ n h. let called = made.at n no_words h in search rules)
