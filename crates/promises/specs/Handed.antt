-- SPDX-License-Identifier: MPL-2.0
-- Where a payload is handed out: "An opened payload is handed out as a part of the message if it was plain, of the working buffer if it was sealed.
-- On a refusal that part is empty, at the message's start."
use Rattle.std.specs.Prelude.{ℕ, ◌+◌, ◌≤◌, ◌≡◌, List, [], cond, length, take, drop}
use Rattle.wire.specs.Answers.{nothing}
use Rattle.message.specs.Answers.{found_message}
use Rattle.message.specs.Handed.{Place, place_of}
use Rattle.message.specs.Reading.{read_message, working_after}
use Rattle.std.specs.Prelude.{Result}
use Rattle.message.specs.declared.reading.FoundMessage.{FoundMessage}
use Rattle.promises.specs.Refusals.{sealed, payload_in, handed_out}

-- The bytes are those of a buffer, at this place, which lies in it; 0 is the message, 1 the working buffer.
pub record LiesIn (number : ℕ) (buffer : List ℕ) (p : Place) (bytes : List ℕ) : Type 0 where
  pub which : p.buffer ≡ number
  pub inside : p.from + p.size ≤ length buffer
  pub part : bytes ≡ take p.size (drop p.from buffer)

-- A message, read with these keys and this working buffer.
module _ (m keys working : List ℕ) where
  -- What the reader answered.
  abbrev pub read : Result FoundMessage ℕ
  read = read_message m keys (length working)

  -- What the working buffer then holds.
  abbrev pub left : List ℕ
  left = working_after m keys working

-- The reader refused: the empty part, at the message's start. It did not: the payload, as a part of the message if that was plain, of the working
-- buffer if it was sealed.
abbrev pub PayloadHanded : Type 0
PayloadHanded =
    (m keys working : List ℕ)
    → ((n : ℕ) → found_message (read m keys working) ≡ nothing n
    → (place_of (read m keys working) ≡ record { buffer = 0; from = 0; size = 0 }) × (handed_out m keys working ≡ []))
    × ((found_message (read m keys working)).refusal ≡ 0
    → (handed_out m keys working ≡ payload_in m keys)
    × LiesIn (cond (sealed m) 1 0) (cond (sealed m) (left m keys working) m) (place_of (read m keys working)) (handed_out m keys working))
