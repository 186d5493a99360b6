-- SPDX-License-Identifier: MPL-2.0
-- The listing of document 01: the line of a message, and what a run does with a part of its input.
use Rattle.std.specs.Prelude.{ℕ, zero, suc, ◌+◌, ◌/◌, List, [], ◌∷◌, ◌++◌, Bool, true, false, cond, length, take, drop, ltb, Result, Ok, Err, is_err}
use Rattle.wire.specs.declared.header.Header.{Header}
use Rattle.wire.specs.declared.header.FoundHeader.{FoundHeader}
use Rattle.wire.specs.Reader.{read_header}
use Rattle.lines.specs.Text.{field, named}
use Rattle.lines.specs.Stream.{ahead}
use Rattle.lines.specs.declared.stream.Next.{Next}
use Rattle.lines.specs.declared.stream.Next.TheVariants.{Message, More, End}
use Rattle.lines.specs.declared.listing.Stage.{Stage}
use Rattle.lines.specs.declared.listing.Stage.TheVariants.{Going, Waiting, Over}
use Rattle.lines.specs.declared.listing.Listed.{Listed}

-- "one line, in decimal: type, sequence, index, count, length", with a blank (32) between them and the line's end (10) after.
unfoldable pub header_line : Header → ℕ → List ℕ
header_line h size =
    field h.kind 32 ++ field h.sequence 32 ++ field h.index 32 ++ field h.count 32 ++ field size 10

-- "refused " in ASCII.
abbrev pub refused_name : List ℕ
refused_name = 114 ∷ 101 ∷ 102 ∷ 117 ∷ 115 ∷ 101 ∷ 100 ∷ 32 ∷ []

-- "A refusal writes the line `refused N`".
unfoldable pub line_of : Result FoundHeader ℕ → ℕ → List ℕ
line_of (Err n) size = named refused_name n
line_of (Ok f) size = header_line f.header size

-- The room that a line needs.
abbrev pub line_room : ℕ
line_room = 64

-- A message was refused.
abbrev pub is_refused : Result FoundHeader ℕ → Bool
is_refused answer = is_err answer

-- The run goes on with this stream.
abbrev pub is_going : Stage → Bool
is_going Going = true
is_going Waiting = false
is_going Over = false

-- The run is over.
abbrev pub is_over : Stage → Bool
is_over Going = false
is_over Waiting = false
is_over Over = true

-- What one turn does: the line that it writes, the bytes of the stream that it takes, and whether the run goes on with this stream, waits
-- for more or is over.
pub record Turn : Type 0 where
  pub line : List ℕ
  pub size : ℕ
  pub stage : Stage

-- A turn that takes nothing: it waits for more of the stream or for room, or the run is over.
abbrev pub stops : Stage → Turn
stops stage = record { line = []; size = 0; stage = stage }

-- A turn that lists a message. "A refusal .. ends the run."
abbrev pub tells : ℕ → Result FoundHeader ℕ → Turn
tells size answer = record { line = line_of answer size; size = size; stage = cond (is_refused answer) Over Going }

-- The turn by what the rest of the stream begins with.
abbrev pub turn_by : List ℕ → Next → Turn
turn_by rest (Message size) = tells size (read_header (take size rest))
turn_by rest More = stops Waiting
turn_by rest End = stops Over

-- The turn, with an output of `room` bytes of which some are written.
unfoldable pub turn_at : List ℕ → Bool → (room written : ℕ) → Turn
turn_at rest ended room written = cond (ltb room (written + line_room)) (stops Waiting) (turn_by rest (ahead rest ended))

-- How far a run has come: the bytes taken of the stream and the text written; whether it goes on with this stream, waits for more or is over.
pub record Run : Type 0 where
  pub read : ℕ
  pub text : List ℕ
  pub stage : Stage

-- The run before its first turn.
abbrev pub begun : Run
begun = record { read = 0; text = []; stage = Going }

-- The run after a turn.
abbrev pub after_turn : Run → Turn → Run
after_turn b s = record { read = b.read + s.size; text = b.text ++ s.line; stage = s.stage }

-- The run after one turn.
unfoldable pub turn : List ℕ → Bool → ℕ → Run → Run
turn stream ended room b = after_turn b (turn_at (drop b.read stream) ended room (length b.text))

-- Turn after turn, as long as the run goes on.
unfoldable pub many_turns : ℕ → List ℕ → Bool → ℕ → Run → Run
many_turns zero stream ended room b = b
many_turns (suc n) stream ended room b = cond (is_going b.stage) (many_turns n stream ended room (turn stream ended room b)) b

-- The listing of a stream into an output of n bytes. A message takes 42 bytes of it, but for the last, and the last turn none:
-- more turns than these there are not.
unfoldable pub list : List ℕ → Bool → ℕ → Run
list stream ended room = many_turns (length stream / 42 + 2) stream ended room begun

-- A run as the code has it: the text stands in the output.
abbrev pub listed : Run → Listed
listed b = record { read = b.read; written = length b.text; stage = b.stage }

-- A turn as the code has it.
abbrev pub turned : Listed → Turn → Listed
turned l s = record { read = l.read + s.size; written = l.written + length s.line; stage = s.stage }
