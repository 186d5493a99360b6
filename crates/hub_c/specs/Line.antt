-- SPDX-License-Identifier: MPL-2.0
-- The listing's line of one message.
use Rattle.std.specs.Prelude.{ℕ, List, Bool, not, ◌||◌, eqb, length}
use Rattle.wire.specs.Reader.{read_header}
use Rattle.lines.specs.Listing.{line_of}
use Rattle.hub_c.specs.Sizes.{line_size}

-- "one line, in decimal: type, sequence, index, count, length. A refusal writes the line `refused N`".
unfoldable pub line_text : List ℕ → List ℕ
line_text message = line_of (read_header message) (length message)

-- The buffer of the line or the word of its length has another size.
abbrev pub wrong_line : (line size : List ℕ) → Bool
wrong_line line size = not (eqb (length line) line_size) || not (eqb (length size) 1)
