-- SPDX-License-Identifier: MPL-2.0
-- The program: a turn lists what it holds and holds on what is left, with a read after it; turn after turn is a run.
use Rattle.std.specs.Prelude.{ℕ, ◌+◌, ◌*◌, ◌≤◌, ◌<◌, ◌≡◌, List, [], ◌∷◌, ◌++◌, Bool, true, false, not, ◌||◌, length, take, eqb}
use Rattle.std.specs.Prelude.{Option, Some, None, Result, Ok, Err, is_ok}
use Rattle.std.specs.declared.io.Error.{Error}
use Rattle.intake.specs.declared.Held.{Held}
use Rattle.intake.specs.Buffer.{Refilled}
use Rattle.listing.specs.declared.Finish.{Finish}
use Rattle.laws.specs.Bytes.{AreBytes}
use Rattle.laws.specs.Chunks.{Stand, standing}
use Rattle.lines.specs.Listing.{line_room}
use Rattle.lines.specs.Inputs.{NoState, longest_message, listing, listed_in}

-- The listing of the bytes held, with an output of `room` bytes: what is left of them, the text, and whether the run is over.
abbrev pub turn_on : List ℕ → Bool → ℕ → Stand NoState
turn_on bytes ended room = listed_in ended (standing tt bytes) room

-- What a turn leaves, as the code has it: what is then held, or nothing where the run is over; an error where what it listed was not written.
abbrev pub Went : Type 0
Went = Result (Option Held) Error

-- The run is over after a turn: it leaves nothing to go on with.
abbrev pub is_over : Went → Bool
is_over (Ok (Some held)) = false
is_over (Ok None) = true
is_over (Err e) = true

-- What a turn leaves in the buffer, by whether its listing is the last. The run is over exactly where it is the last or was not written
-- whole; else what is left stands first, as a read after it leaves it.
pub record Turned (last : Bool) (left after : List ℕ) (r : Went) : Type 0 where
  pub over : is_over r ≡ (last || not (is_ok r))
  pub goes : (held : Held) → r ≡ Ok (Some held) → Refilled left after held

-- That of a turn, by its listing and by what it answers of the write.
abbrev pub TurnedBy : Stand NoState → List ℕ → Went → Type 0
TurnedBy q after r = Turned q.over q.left after r

-- A run, turn after turn from the bytes held on: all the text that it writes, by what each read brings. A read that brings nothing tells
-- the next turn that the input has ended.
unfoldable pub run_text : ℕ → List ℕ → Bool → List (List ℕ) → List ℕ
run_text room bytes ended [] = (turn_on bytes ended room).text
run_text room bytes ended (got ∷ reads) =
    (turn_on bytes ended room).text ++ run_text room ((turn_on bytes ended room).left ++ got) (eqb (length got) 0) reads

-- The last of these turns passes a test, and none before it ends the run.
unfoldable pub RunTo : (Stand NoState → Bool) → ℕ → List ℕ → Bool → List (List ℕ) → Type 0
RunTo test room bytes ended [] = test (turn_on bytes ended room) ≡ true
RunTo test room bytes ended (got ∷ reads) =
    ((turn_on bytes ended room).over ≡ false) × RunTo test room ((turn_on bytes ended room).left ++ got) (eqb (length got) 0) reads

-- The last of these turns ends the run, and none before it.
abbrev pub RunEnds : ℕ → List ℕ → Bool → List (List ℕ) → Type 0
RunEnds room bytes ended reads = RunTo (λ q. q.over) room bytes ended reads

-- The turns that the counter of the program has room for.
abbrev pub most_turns : ℕ
most_turns = 18446744073709551615

-- What a run of the program comes to, for what its reads brought. It is over: the last of its turns ended it, or was not written whole, and
-- the counter has fallen by one a turn. Or the counter is at its end, and as many turns as it had room for went on.
pub record Ran (room : ℕ) (r : Finish) : Type 0 where
  pub reads : List (List ℕ)
  pub over : is_over r.last ≡ true → RunTo (λ q. q.over || not (is_ok r.last)) room [] false reads × (length reads + 1 + r.turns ≡ most_turns)
  pub counted : is_over r.last ≡ false → RunTo (λ q. true) room [] false reads × (length reads ≡ most_turns) × (r.turns ≡ 0)

-- A read brings the next bytes of an input, after those that are left in the buffer and no more than it has room for. Where there is room
-- and it brings none, there are none.
pub record Brings (buffer : ℕ) (left got input : List ℕ) (Next : List ℕ → Type 0) : Type 0 where
  pub rest : List ℕ
  pub is : got ++ rest ≡ input
  pub fits : length (left ++ got) ≤ buffer
  pub ends : length left < buffer → length got ≡ 0 → rest ≡ []
  pub after : Next rest

-- The reads of a run from the bytes held on, in a buffer of this many bytes, are of an input, as far as they go.
unfoldable pub ReadOf : (buffer room : ℕ) → List ℕ → Bool → List (List ℕ) → List ℕ → Type 0
ReadOf buffer room bytes ended [] input = Unit
ReadOf buffer room bytes ended (got ∷ reads) input =
    let left = (turn_on bytes ended room).left in
    Brings buffer left got input (ReadOf buffer room (left ++ got) (eqb (length got) 0) reads)

-- All that a run writes is the listing of the input, however it is cut into reads: its buffer has room for any message, its output
-- room for a line.
abbrev pub RunLists : Type 0
RunLists = (buffer room : ℕ) (input : List ℕ) (reads : List (List ℕ)) → AreBytes input → longest_message ≤ buffer → line_room ≤ room
    → ReadOf buffer room [] false reads input → RunEnds room [] false reads → run_text room [] false reads ≡ listing input

-- No run goes on for ever: it has no more reads than twice the bytes of its input, and one.
abbrev pub RunStops : Type 0
RunStops = (test : Stand NoState → Bool) (buffer room : ℕ) (input : List ℕ) (reads : List (List ℕ)) → AreBytes input → longest_message ≤ buffer
    → line_room ≤ room → ReadOf buffer room [] false reads input → RunTo test room [] false reads → length reads ≤ 2 * length input + 1

-- Reads of an input by which a run ends.
pub record EndingReads (buffer room : ℕ) (input : List ℕ) : Type 0 where
  pub reads : List (List ℕ)
  pub brings : ReadOf buffer room [] false reads input
  pub ends : RunEnds room [] false reads

-- Every input has such reads.
abbrev pub RunExists : Type 0
RunExists = (buffer room : ℕ) (input : List ℕ) → AreBytes input → longest_message ≤ buffer → line_room ≤ room → EndingReads buffer room input

-- The run of the program lists its input, if what it listed was written and there are fewer than 2^63 - 1 bytes: then the run is over, and
-- all that it writes is the listing of the input that its reads are of.
abbrev pub RanLists : Type 0
RanLists = (buffer room : ℕ) (input : List ℕ) (r : Finish) (ran : Ran room r) → AreBytes input → 2 * length input + 1 < most_turns
    → longest_message ≤ buffer → line_room ≤ room → ReadOf buffer room [] false ran.reads input → is_ok r.last ≡ true
    → (is_over r.last ≡ true) × (run_text room [] false ran.reads ≡ listing input)

-- A turn that goes on leads to the next turn of such a run: what is then held is what was left and, after
-- it, bytes that count as what was read.
pub record Led (q : Stand NoState) (after : List ℕ) (r : Held) : Type 0 where
  pub going : q.over ≡ false
  pub got : List ℕ
  pub holds : take r.held after ≡ q.left ++ got
  pub ended : r.ended ≡ eqb (length got) 0
  pub fits : length (q.left ++ got) ≤ length after

abbrev pub TurnLeads : Type 0
TurnLeads = (q : Stand NoState) (after : List ℕ) (r : Went) (held : Held) → TurnedBy q after r → r ≡ Ok (Some held) → Led q after held
