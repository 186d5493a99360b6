-- SPDX-License-Identifier: MPL-2.0
-- The digest calls.
use Rattle.std.specs.Prelude.{ℕ, List, Bool, cond, not, ◌||◌, eqb, length}
use Rattle.laws.specs.Same.{same}
use Rattle.hub_c.specs.Sizes.{wrong_buffer, digest_size, kept}

-- An output of a digest's size holds the digest; another is left as it was.
abbrev pub filled : (digest out : List ℕ) → List ℕ
filled digest out = kept digest_size out digest out

-- One of two tags is not of thirty-two bytes.
abbrev pub wrong_tags : (ours theirs : List ℕ) → Bool
wrong_tags ours theirs = not (eqb (length ours) digest_size) || not (eqb (length theirs) digest_size)

-- 0 where two tags are the same, 1 where not.
unfoldable pub tags_differ : (ours theirs : List ℕ) → ℕ
tags_differ ours theirs = cond (wrong_tags ours theirs) wrong_buffer (cond (same ours theirs) 0 1)
