-- SPDX-License-Identifier: MPL-2.0
-- The fields and the part fill the words.
use Rattle.laws.proofs.Kit.{ℕ, ◌≡◌, List, [], ◌∷◌, length, sets}
use Rattle.laws.proofs.Stores.{sets-whole}
use Rattle.wire.specs.declared.answers.Found.{Found}
use Rattle.hub_c.specs.Headers.{field_words, found_words}
use Rattle.hub_c.proofs.reading.hand.Goals as goal

-- Fields and part, stored one after the other over the whole of the words.
stored : (f : Found) (l m n : List ℕ) → length l ≡ 11 → m ≡ sets l 0 (field_words f.header)
    → n ≡ sets m 8 (f.sealed ∷ f.from ∷ f.size ∷ []) → n ≡ found_words f
stored f l m n e p q = rw (q, p) (sets-whole (found_words f) l e)

pub returns-clause-new_out : goal.returns-clause-new_out
returns-clause-new_out c = stored c.args.found c.args.out.now _ _ c.requires c.put_fields.ensures c.put_three.ensures
