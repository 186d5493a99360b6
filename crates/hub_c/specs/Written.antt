-- SPDX-License-Identifier: MPL-2.0
-- Writing a message whose fields are given in words.
use Rattle.std.specs.Prelude.{ℕ, List, Bool, not, ◌||◌, eqb, ltb, length, get_or}
use Rattle.wire.specs.declared.header.Header.{Header}
use Rattle.hub_c.specs.Sizes.{fields_size}

-- The header of eight words: type, flags, sequence, request, index, count, session, channel.
abbrev pub fields_of : List ℕ → Header
fields_of w =
    record {
      kind = get_or w 0 0;
      flags = get_or w 1 0;
      sequence = get_or w 2 0;
      request = get_or w 3 0;
      index = get_or w 4 0;
      count = get_or w 5 0;
      session = get_or w 6 0;
      channel = get_or w 7 0;
    }

-- A word has no room in its field: a type of more than 8 bits, flags, index or count of more than 16, a sequence number of more than 32.
unfoldable pub too_wide : List ℕ → Bool
too_wide w =
    ltb 255 (get_or w 0 0)
    || ltb 65535 (get_or w 1 0)
    || ltb 4294967295 (get_or w 2 0)
    || ltb 65535 (get_or w 4 0)
    || ltb 65535 (get_or w 5 0)

-- One of the buffers of words has another size, or a word no room in its field.
abbrev pub wrong_fields : (fields size : List ℕ) → Bool
wrong_fields fields size = not (eqb (length fields) fields_size) || not (eqb (length size) 1) || too_wide fields
