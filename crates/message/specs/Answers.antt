-- SPDX-License-Identifier: MPL-2.0
-- The number and the values of the reader's answer, for each of its cases.
use Rattle.std.specs.Prelude.{ℕ, cond, Result, Ok, Err}
use Rattle.wire.specs.Answers.{nothing}
use Rattle.wire.specs.declared.answers.Found.{Found}
use Rattle.message.specs.declared.reading.FoundMessage.{FoundMessage}

-- Its part is the payload, in the message (0) or opened in the working buffer (1).
abbrev pub found_message : Result FoundMessage ℕ → Found
found_message (Err n) = nothing n
found_message (Ok f) = record { refusal = 0; header = f.header; sealed = cond f.sealed 1 0; from = f.from; size = f.size }
