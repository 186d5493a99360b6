-- SPDX-License-Identifier: MPL-2.0
-- Buffers of fixed size: their sizes, and what a call answers and leaves where one of them has another size.
use Rattle.std.specs.Prelude.{ℕ, List, cond, eqb, length}

-- The number of a call that was lent a buffer of the wrong size, or given a word too wide for its field; document 01 does not use it.
abbrev pub wrong_buffer : ℕ
wrong_buffer = 255

-- The bytes of a digest and of a tag.
abbrev pub digest_size : ℕ
digest_size = 32

-- The words of a header that was read.
abbrev pub header_size : ℕ
header_size = 11

-- The words of a header that is to be written.
abbrev pub fields_size : ℕ
fields_size = 8

-- The words of a place.
abbrev pub place_size : ℕ
place_size = 3

-- The words of an answer.
abbrev pub answer_size : ℕ
answer_size = 3

-- The words of the request that is due.
abbrev pub due_size : ℕ
due_size = 1

-- The words of a piece.
abbrev pub piece_size : ℕ
piece_size = 3

-- The words of what a Connect payload says.
abbrev pub connect_size : ℕ
connect_size = 13

-- The words of what a Discovery payload says.
abbrev pub discovery_size : ℕ
discovery_size = 9

-- The bytes of a line.
abbrev pub line_size : ℕ
line_size = 64

-- The number where the buffer has its size, else that of a wrong buffer.
abbrev pub sized : (size : ℕ) → (buffer : List ℕ) → ℕ → ℕ
sized size buffer number = cond (eqb (length buffer) size) number wrong_buffer

-- What a buffer holds afterwards: `next` where the one that is measured has its size, else what it held before.
abbrev pub kept : (size : ℕ) → (buffer next before : List ℕ) → List ℕ
kept size buffer next before = cond (eqb (length buffer) size) next before
