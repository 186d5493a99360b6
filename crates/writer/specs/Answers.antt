-- SPDX-License-Identifier: MPL-2.0
-- What a writer answers, in numbers.
use Rattle.std.specs.Prelude.{ℕ, Result, Ok, Err}
use Rattle.writer.specs.declared.Wrote.{Wrote}

-- "A success answers the message's length", beside the number 0; a refusal is its number, and no length.
abbrev pub wrote : Result ℕ ℕ → Wrote
wrote (Err n) = record { refusal = n; size = 0 }
wrote (Ok k) = record { refusal = 0; size = k }
