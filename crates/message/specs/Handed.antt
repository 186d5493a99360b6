-- SPDX-License-Identifier: MPL-2.0
-- The payload that is handed out, and its place: "a part of the message if it was plain, of the working buffer if it was sealed. On a refusal that
-- part is empty, at the message's start."
use Rattle.std.specs.Prelude.{ℕ, ◌+◌, List, [], cond, length, take, drop, eqb, ltb, Result}
use Rattle.message.specs.declared.reading.FoundMessage.{FoundMessage}
use Rattle.message.specs.Answers.{found_message}

-- A part of one of the two buffers: of which (0 is the message, 1 the working buffer), from where, how many bytes.
pub record Place : Type 0 where
  pub buffer : ℕ
  pub from : ℕ
  pub size : ℕ

-- Where the payload lies, by the values of the reader's answer: beside a refusal these are 0. "On a refusal that part is empty, at the message's
-- start."
abbrev pub place_of : Result FoundMessage ℕ → Place
place_of read = let f = found_message read in record { buffer = f.sealed; from = f.from; size = f.size }

-- The size bytes from a place on; none where they reach past the end.
unfoldable pub part_of : List ℕ → ℕ → ℕ → List ℕ
part_of s from size = cond (ltb (length s) (from + size)) [] (take size (drop from s))

-- The part at a place.
abbrev pub part_at : (message working : List ℕ) → Place → List ℕ
part_at message working p = part_of (cond (eqb p.buffer 1) working message) p.from p.size

-- The payload: the part where it lies.
unfoldable pub payload : List ℕ → List ℕ → Result FoundMessage ℕ → List ℕ
payload message working read = part_at message working (place_of read)
