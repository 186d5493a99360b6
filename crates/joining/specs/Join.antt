-- SPDX-License-Identifier: MPL-2.0
-- Joining: what an opened Session message of a Ready connection does to what the connection remembers of the message it expects (`Progress`)
-- and to the report buffer. F is the fragment size.
use Rattle.std.specs.Prelude.{ℕ, ◌+◌, ◌-◌, ◌*◌, ◌<◌, ◌≤◌, ◌≡◌, List, [], ◌∷◌, ◌++◌, Bool, not, cond, ◌&&◌, ◌||◌, eqb, ltb, leb, length}
use Rattle.laws.specs.Rows.{first}
use Rattle.laws.specs.Same.{same}
use Rattle.laws.specs.Parts.{part}
use Rattle.wire.specs.Refusals.{wrong_piece, past_sequence, future_sequence, last_sequence, wrong_piece_size, unlike_first_piece, no_room, unlike_repeat}
use Rattle.wire.specs.Refusals.{wrong_fragment_size}
use Rattle.joining.specs.declared.Progress.{Progress}
use Rattle.joining.specs.declared.Piece.{Piece}
use Rattle.joining.specs.declared.Joined.{Joined}
use Rattle.joining.specs.declared.Arrival.TheVariants.{Refused, Taken, Repeat, Complete}
use Rattle.joining.specs.Heard.{most, tally, come, has, mark, none}
use Rattle.joining.specs.Report.{put}
use Rattle.joining.specs.Cut.{bad_size}

-- 7: "count 0 or over 64; index not under count".
abbrev pub bad_index : ℕ → ℕ → Bool
bad_index count index = ltb most count || leb count index

-- 21: "count or channel unlike the first piece taken of this message": there is one where the heard set is not empty.
abbrev pub unlike : Progress → Piece → Bool
unlike held piece =
    not (eqb (tally held.heard) 0) && (not (eqb held.count piece.count) || not (eqb held.channel piece.channel))

-- The piece is the last of its message.
abbrev pub is_last : Piece → Bool
is_last piece = eqb (piece.index + 1) piece.count

-- 20: "piece not F bytes and not last; last over F; last empty with count over 1".
abbrev pub misfit : ℕ → Piece → ℕ → Bool
misfit F piece size = cond (is_last piece) (ltb F size || (eqb size 0 && ltb 1 piece.count)) (not (eqb size F))

-- 23: "index already heard, and the bytes differ from the report buffer's there, or the length from the one taken".
abbrev pub conflict : ℕ → Progress → Piece → List ℕ → List ℕ → Bool
conflict F held piece bytes report =
    has held.heard piece.index
    && not (eqb (length bytes) (cond (is_last piece) held.last F) && same (part report (F * piece.index) (length bytes)) bytes)

-- The refusals of a piece that is not one of the expected message: 24 and 7, which a step has made before it joins, then 19, 17, 18.
abbrev pub sequence_rows : ℕ → ℕ → Piece → List (ℕ × Bool)
sequence_rows F expected piece =
    (wrong_fragment_size, bad_size F)
    ∷ (wrong_piece, bad_index piece.count piece.index)
    ∷ (last_sequence, eqb piece.sequence 4294967295)
    ∷ (past_sequence, ltb piece.sequence expected)
    ∷ (future_sequence, ltb expected piece.sequence)
    ∷ []

-- The refusals of a piece of `size` bytes that does not go with what has come, or does not fit into `room` bytes: 21, 20, 22.
abbrev pub place_rows : ℕ → Progress → Piece → (size room : ℕ) → List (ℕ × Bool)
place_rows F held piece size room =
    (unlike_first_piece, unlike held piece)
    ∷ (wrong_piece_size, misfit F piece size)
    ∷ (no_room, ltb room (F * piece.index + size))
    ∷ []

-- The refusal of a piece that was heard with other bytes: 23.
abbrev pub repeat_rows : ℕ → Progress → Piece → List ℕ → List ℕ → List (ℕ × Bool)
repeat_rows F held piece bytes report = (unlike_repeat, conflict F held piece bytes report) ∷ []

-- The table: "then 19, 17, 18, 21, 20, 22, 23".
abbrev pub join_rows : ℕ → Progress → Piece → List ℕ → List ℕ → List (ℕ × Bool)
join_rows F held piece bytes report =
    sequence_rows F held.expected piece ++ (place_rows F held piece (length bytes) (length report) ++ repeat_rows F held piece bytes report)

-- The first refusal that applies; 0 is none.
unfoldable pub join_refusal : ℕ → Progress → Piece → List ℕ → List ℕ → ℕ
join_refusal F held piece bytes report = first (join_rows F held piece bytes report)

-- What no row refuses, as far as counting looks at it.
pub record Fitting (F : ℕ) (held : Progress) (piece : Piece) (size : ℕ) : Type 0 where
  pub small : F ≤ 16384
  pub under : piece.index < piece.count
  pub few : piece.count ≤ most
  pub more : held.expected ≡ 4294967295 → ⊥
  pub fits : size ≤ F

-- The last piece's length, as remembered once this piece has come; 0 until the last piece comes.
abbrev pub last_of : Progress → Piece → ℕ → ℕ
last_of held piece size = cond (is_last piece) size held.last

-- Nothing is heard of the message with this number: how a connection begins, with number 0.
abbrev pub expecting : ℕ → Progress
expecting number = record { expected = number; heard = none most; count = 0; channel = 0; last = 0 }

-- One more piece is heard; its count and channel are those that later pieces must have.
abbrev pub extended : Progress → Piece → ℕ → Progress
extended held piece size =
    record {
      expected = held.expected;
      heard = mark held.heard piece.index;
      count = piece.count;
      channel = piece.channel;
      last = last_of held piece size;
    }

-- "each also tells how many different pieces of this message have come": how many of the indexes under the piece's count are heard, this one
-- with them.
abbrev pub told : Progress → Piece → ℕ
told held piece = come piece.count (mark held.heard piece.index)

-- With this piece every index under the count is heard: it was the last missing one, not the one with the last index.
abbrev pub completes : Progress → Piece → Bool
completes held piece = eqb (told held piece) piece.count

-- A new piece: "At Complete the expected number rises by one and the heard set is empty again, the remembered count, channel and last length
-- zero"; "Taken, … Complete with the report's length".
abbrev pub advance : ℕ → Progress → Piece → ℕ → Joined
advance F held piece size =
    cond (completes held piece)
    (record { progress = expecting (held.expected + 1); answer = Complete (F * (piece.count - 1) + last_of held piece size) (told held piece) })
    (record { progress = extended held piece size; answer = Taken (told held piece) })

-- What is answered and remembered: a refusal or a Repeat changes nothing.
unfoldable pub join : ℕ → Progress → Piece → List ℕ → List ℕ → Joined
join F held piece bytes report =
    cond (eqb (join_refusal F held piece bytes report) 0)
    (cond (has held.heard piece.index)
    (record { progress = held; answer = Repeat (told held piece) })
    (advance F held piece (length bytes)))
    (record { progress = held; answer = Refused (join_refusal F held piece bytes report) })

-- "Piece i is written into the report buffer from place F × i on; no other byte changes": and none where the piece is refused or a Repeat.
unfoldable pub report_after : ℕ → Progress → Piece → List ℕ → List ℕ → List ℕ
report_after F held piece bytes report =
    cond (eqb (join_refusal F held piece bytes report) 0)
    (cond (has held.heard piece.index) report (put report (F * piece.index) bytes))
    report
