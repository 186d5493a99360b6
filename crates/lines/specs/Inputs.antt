-- SPDX-License-Identifier: MPL-2.0
-- The listing of a whole input, and that of a program which reads the input part by part and lists, in each turn, what it holds.
use Rattle.std.specs.Prelude.{ℕ, ◌≤◌, ◌<◌, ◌≡◌, List, [], ◌∷◌, ◌++◌, Bool, true, false, cond, length, drop}
use Rattle.lines.specs.Stream.{ahead}
use Rattle.lines.specs.declared.listing.Stage.{Stage}
use Rattle.lines.specs.declared.listing.Stage.TheVariants.{Going, Waiting, Over}
use Rattle.lines.specs.Listing.{is_over, line_room, Turn, turn_by, Run, list}
use Rattle.laws.specs.Bytes.{AreBytes}
use Rattle.laws.specs.Chunks.{Step, waits, ends, goes, Stand, standing, given, whole, brought_by}

-- The most bytes of a message: MessageLength has two bytes.
abbrev pub longest_message : ℕ
longest_message = 65535

-- The listing keeps no state from message to message.
abbrev pub NoState : Type 0
NoState = Unit

-- A turn as a step, by what it leaves the run to do.
abbrev pub step_at : Stage → ℕ → List ℕ → Step NoState
step_at Going size line = goes size line tt
step_at Waiting size line = waits
step_at Over size line = ends size line tt

-- A turn as a step.
abbrev pub step_of : Turn → Step NoState
step_of t = step_at t.stage t.size t.line

-- "MessageLength bytes at a time, at least 42, or what is left .. Each gives one line".
unfoldable pub line_step : NoState → List ℕ → Bool → Step NoState
line_step s bytes ended = step_of (turn_by bytes (ahead bytes ended))

-- "It reads messages back to back .. Each gives one line .. A refusal writes the line `refused N` and ends the run." The text of the
-- whole input.
unfoldable pub listing : List ℕ → List ℕ
listing input = (whole line_step tt input).text

-- Where the program stands after it has listed what it held.
abbrev pub listed_of : Stand NoState → Run → Stand NoState
listed_of r b = record { state = tt; left = drop b.read r.left; text = r.text ++ b.text; over = is_over b.stage }

-- The program after a turn on what it holds, with an output of `room` bytes; once the run is over there is none.
abbrev pub listed_in : Bool → Stand NoState → ℕ → Stand NoState
listed_in ended r room = cond r.over r (listed_of r (list r.left ended room))

-- Turn by turn while the input goes on: a part of it comes after what was left, and what is held is listed.
unfoldable pub reading : Stand NoState → List (List ℕ × ℕ) → Stand NoState
reading r [] = r
reading r (t ∷ ts) = reading (listed_in false (given r t.0) t.1) ts

-- Turn by turn once the input has ended: nothing comes any more.
unfoldable pub ending : Stand NoState → List ℕ → Stand NoState
ending r [] = r
ending r (room ∷ rooms) = ending (listed_in true r room) rooms

-- The outputs have room for a line each.
abbrev pub Roomy : List ℕ → Type 0
Roomy [] = Unit
Roomy (room ∷ rooms) = (line_room ≤ room) × Roomy rooms

-- The turns of the program add up to the listing: for any cutting of the input into parts, any room in each turn, and the end told only
-- after the last part, the texts that were written are the listing of the input, if the run is over; and it is over after enough turns.
abbrev pub ListedInTurns : Type 0
ListedInTurns = (input : List ℕ) (parts : List (List ℕ × ℕ)) (rooms : List ℕ) → brought_by parts ≡ input
    → let r = ending (reading (standing tt []) parts) rooms in
    (r.over ≡ true → r.text ≡ listing input) × (Roomy rooms → length input < length rooms → r.over ≡ true)

-- Once the input has ended, a turn whose output has room for a line takes a byte, or the run is over.
abbrev pub TurnTakes : Type 0
TurnTakes = (bytes : List ℕ) (room : ℕ) → let r = listed_in true (standing tt bytes) room in
    line_room ≤ room → r.over ≡ false → length r.left < length bytes

-- There is room to read on: a turn on bytes held in a buffer that has room for any message, with an output that has room for a line,
-- leaves fewer bytes than the buffer has.
abbrev pub RoomToRead : Type 0
RoomToRead = (bytes : List ℕ) (ended : Bool) (room buffer : ℕ) → AreBytes bytes → line_room ≤ room → longest_message ≤ buffer → length bytes ≤ buffer
    → length (drop (list bytes ended room).read bytes) < buffer
