-- SPDX-License-Identifier: MPL-2.0
-- The number and the values of what was read of a message, for each case of the answer: "When an answer is an enum, a definition specifies
-- this paper's number and values for each of its cases."
use Rattle.std.specs.Prelude.{ℕ, cond, Result, Ok, Err}
use Rattle.wire.specs.Fields.{is_sealed}
use Rattle.wire.specs.Reader.{empty_header}
use Rattle.wire.specs.declared.answers.Found.{Found}
use Rattle.wire.specs.declared.header.FoundHeader.{FoundHeader}

-- Refused with n: the number, and no value. "On a refusal that part is empty, at the message's start."
abbrev pub nothing : ℕ → Found
nothing n = record { refusal = n; header = empty_header; sealed = 0; from = 0; size = 0 }

-- The answer of the reader of headers. Its part is the payload of a plain message (0), the sealed part of a sealed one (2).
abbrev pub found_header : Result FoundHeader ℕ → Found
found_header (Err n) = nothing n
found_header (Ok f) =
    record { refusal = 0; header = f.header; sealed = cond (is_sealed f.header.flags) 2 0; from = f.start; size = f.size }
