-- SPDX-License-Identifier: MPL-2.0
-- Opening: the refusals 10 to 13 of a sealed message whose sealed part starts at a place, and what the working buffer then holds.
use Rattle.std.specs.Prelude.{ℕ, ◌-◌, ◌%◌, List, [], ◌∷◌, ◌++◌, Bool, not, cond, ◌||◌, length, take, drop, ltb, leb, eqb}
use Rattle.laws.specs.Rows.{first, or_else}
use Rattle.laws.specs.Same.{same}
use Rattle.wire.specs.Refusals.{too_short, wrong_length, wrong_sealed_size, wrong_keys, wrong_tag, short_working, wrong_padding}
use Rattle.aes.specs.Key.{expand_key}
use Rattle.aes.specs.Cbc.{cbc_decrypt}
use Rattle.seal.specs.Keys.{encryption_key, vector, tag_of}
use Rattle.seal.specs.Padding.{bad_plain}

-- The message without its tag.
abbrev pub body_of : List ℕ → List ℕ
body_of m = take (length m - 32) m

-- "32 tag bytes", the last of the message.
abbrev pub tag_in : List ℕ → List ℕ
tag_in m = drop (length m - 32) m

-- The sealed part: from its start to the tag.
unfoldable pub sealed_part : List ℕ → ℕ → List ℕ
sealed_part m start = take (length m - 32 - start) (drop start m)

-- "It is encrypted by CBC under the encryption key": a sealed part of the message, opened.
unfoldable pub plain_of : List ℕ → List ℕ → List ℕ → List ℕ
plain_of keys m sealed = cbc_decrypt (expand_key (encryption_key keys)) (vector keys m) sealed

-- 9: "sealed part empty or no multiple of 16", of a sealed part from a place to the tag.
abbrev pub no_blocks : (given start : ℕ) → Bool
no_blocks given start = leb (given - 32) start || not (eqb ((given - 32 - start) % 16) 0)

-- The rows of 1 to 9 without which a sealed part that starts at a place, or the tag, would not be there: they never apply to what the
-- reader of headers has passed.
abbrev pub no_part_rows : (given start : ℕ) → List (ℕ × Bool)
no_part_rows given start =
    (too_short, ltb given 42)
    ∷ (wrong_length, ltb 65535 given)
    ∷ (wrong_sealed_size, no_blocks given start)
    ∷ []

-- The first of them that applies; 0 is none.
unfoldable pub no_part : (given start : ℕ) → ℕ
no_part given start = first (no_part_rows given start)

-- The table's row 10, "keys not 64 bytes".
abbrev pub key_rows : (keys : ℕ) → List (ℕ × Bool)
key_rows keys = (wrong_keys, not (eqb keys 64)) ∷ []

-- The rows before the tag is judged.
abbrev pub early_rows : (given start keys : ℕ) → List (ℕ × Bool)
early_rows given start keys = no_part_rows given start ++ key_rows keys

-- Its row 11, "tag differs".
abbrev pub tag_rows : (keys m : List ℕ) → List (ℕ × Bool)
tag_rows keys m = (wrong_tag, not (same (tag_of keys (body_of m)) (tag_in m))) ∷ []

-- Its row 13, of an opened sealed part.
abbrev pub padding_rows : (plain : List ℕ) → List (ℕ × Bool)
padding_rows plain = (wrong_padding, bad_plain plain) ∷ []

-- Its rows 12 and 13, of a sealed part and a working buffer of `room` bytes.
abbrev pub part_rows : (keys m sealed : List ℕ) (room : ℕ) → List (ℕ × Bool)
part_rows keys m sealed room = (short_working, ltb room (length sealed)) ∷ padding_rows (plain_of keys m sealed)

-- The first of 12 and 13 that applies; 0 is none.
unfoldable pub part_refusal : List ℕ → List ℕ → List ℕ → ℕ → ℕ
part_refusal keys m sealed room = first (part_rows keys m sealed room)

-- The table's rows 10 to 13, the first that applies.
unfoldable pub open_refusal : List ℕ → List ℕ → ℕ → ℕ → ℕ
open_refusal keys m start room =
    or_else (no_part (length m) start)
    (or_else (first (key_rows (length keys) ++ tag_rows keys m)) (part_refusal keys m (sealed_part m start) room))

-- "untouched by refusals 1 to 13 … After a sealed message got past 13 its first bytes hold the opened sealed part, the rest is unchanged".
unfoldable pub into_unless : ℕ → List ℕ → List ℕ → List ℕ
into_unless refusal plain working = cond (eqb refusal 0) (plain ++ drop (length plain) working) working

-- The same of a plain text by itself: 13 is its one refusal.
unfoldable pub unless_bad : List ℕ → List ℕ → List ℕ
unless_bad plain working = into_unless (first (padding_rows plain)) plain working

-- The working buffer after a sealed part was opened.
unfoldable pub part_into : List ℕ → List ℕ → List ℕ → List ℕ → List ℕ
part_into keys m sealed working = into_unless (part_refusal keys m sealed (length working)) (plain_of keys m sealed) working

-- The working buffer after a message was opened.
unfoldable pub opened_into : List ℕ → List ℕ → ℕ → List ℕ → List ℕ
opened_into keys m start working =
    into_unless (open_refusal keys m start (length working)) (plain_of keys m (sealed_part m start)) working
