-- SPDX-License-Identifier: MPL-2.0
-- A stream of messages that come back to back: where the next one ends.
use Rattle.std.specs.Prelude.{ℕ, ◌≤◌, ◌<◌, ◌≡◌, List, ◌++◌, cond, length, take, ltb}
use Rattle.wire.specs.Answers.{found_header}
use Rattle.wire.specs.Reader.{read_header, wanted}

-- "MessageLength bytes at a time, at least 42"; before MessageLength is there it is 42.
unfoldable pub wanted_by : List ℕ → ℕ
wanted_by bytes = cond (ltb (length bytes) 4) 42 (wanted bytes)

-- What the bytes say that have come of a message, which the reader of headers does not refuse, and of what follows it: before MessageLength is
-- there, the least; from then on the message's length. So whoever reads as many bytes as are missing never has one of the message after; and what
-- was said once MessageLength is there does not change.
pub record NextMessage : Type 0 where
  pub unknown : (bytes : List ℕ) → length bytes < 4 → wanted_by bytes ≡ 42
  pub known : (message more : List ℕ) (n : ℕ) → (found_header (read_header message)).refusal ≡ 0 → 4 ≤ n
      → wanted_by (take n (message ++ more)) ≡ length message
  pub never-past : (message more : List ℕ) (n : ℕ) → (found_header (read_header message)).refusal ≡ 0
      → wanted_by (take n (message ++ more)) ≤ length message
  pub steady : (bytes more : List ℕ) → 4 ≤ length bytes → wanted_by (bytes ++ more) ≡ wanted_by bytes
