-- SPDX-License-Identifier: MPL-2.0
-- The tests of refusals 5, 6 and 7 on the header's numbers, which reader and writer share, and what "sealed" means.
use Rattle.std.specs.Prelude.{ℕ, ◌/◌, ◌%◌, ◌*◌, Bool, not, ◌&&◌, ◌||◌, ltb, leb, eqb}

-- Refusal 5: "type not 1, 2, 4". 1 is Discovery, 2 Connect, 4 Session.
unfoldable pub bad_type : ℕ → Bool
bad_type kind = not (eqb kind 1) && not (eqb kind 2) && not (eqb kind 4)

-- Flag 2, "HMAC present".
abbrev pub hmac_flag : ℕ → ℕ
hmac_flag flags = flags / 2 % 2

-- Flag 4, "encrypted".
abbrev pub encrypted_flag : ℕ → ℕ
encrypted_flag flags = flags / 4 % 2

-- "'Sealed' means flags 2 and 4 both set."
unfoldable pub is_sealed : ℕ → Bool
is_sealed flags = eqb (hmac_flag flags) 1 && eqb (encrypted_flag flags) 1

-- Refusal 6: "a flag above 8; flags 2 and 4 not alike; sealed Discovery; plain Session".
unfoldable pub bad_flags : ℕ → ℕ → Bool
bad_flags kind flags =
    ltb 15 flags
    || not (eqb (hmac_flag flags) (encrypted_flag flags))
    || (eqb kind 1 && is_sealed flags)
    || (eqb kind 4 && not (is_sealed flags))

-- The most pieces into which a report is cut.
unfoldable pub most_pieces : ℕ
most_pieces = 64

-- Refusal 7: "count 0 or over 64; index not under count; count not 1 outside Session".
unfoldable pub bad_piece : ℕ → ℕ → ℕ → Bool
bad_piece kind index count =
    eqb count 0 || ltb most_pieces count || leb count index || (not (eqb kind 4) && not (eqb count 1))

-- "then 32 tag bytes if flag 2"
unfoldable pub tag_size : ℕ → ℕ
tag_size flags = hmac_flag flags * 32
