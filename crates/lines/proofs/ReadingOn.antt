-- SPDX-License-Identifier: MPL-2.0
-- A listing takes a byte of what it holds, or all that it holds is a part of one message.
use Rattle.laws.proofs.Kit.{ℕ, zero, suc, ◌+◌, ◌/◌, ◌≤◌, ◌<◌, ◌≡◌, refl, Bool, List, length, length-drop, leb, le-ltb, leb-false}
use Rattle.laws.proofs.Kit.{zero-add, inl, inr, ⊎_elim, arith}
use mathlib.Core.Logic.{◌⊎◌}
use Rattle.laws.proofs.Cases.{on}
use Rattle.wire.specs.Reader.{wanted}
use Rattle.lines.specs.Stream.{ahead}
use Rattle.lines.specs.Listing.{is_going, line_room, Run, begun, turn_by, turn_at, turn, many_turns, list}
use Rattle.lines.specs.Inputs.{RoomToRead}
use Rattle.lines.proofs.Turns.{many_more}
use Rattle.lines.proofs.Streams.{wanted-least, wanted-below}

module _ (bytes : List ℕ) (ended : Bool) where
  -- A turn takes a byte, or it has less than a message.
  ahead-or-part : (0 < (turn_by bytes (ahead bytes ended)).size) ⊎ (length bytes < wanted bytes)
  unfolding ahead
  ahead-or-part =
      on (leb (wanted bytes) (length bytes)) (λ p. inl (rw p (omega (arith, wanted-least bytes)))) λ p.
      inr (leb-false (wanted bytes) (length bytes) p)

  module _ (room : ℕ) where
    -- Turns take no byte back.
    many-onward : (n : ℕ) (b : Run) → b.read ≤ (many_turns n bytes ended room b).read
    unfolding many_turns turn
    many-onward zero b = omega arith
    many-onward (suc n) b = on (is_going b.stage) (λ g. rw g (omega (arith, many-onward n (turn bytes ended room b)))) (λ g. rw g (omega arith))

    first-turn : line_room ≤ room → (turn bytes ended room begun).read ≡ (turn_by bytes (ahead bytes ended)).size
    unfolding turn turn_at
    first-turn h = rw (le-ltb room (0 + line_room) h, zero-add)

    list-or-part : line_room ≤ room → (0 < (list bytes ended room).read) ⊎ (length bytes < wanted bytes)
    unfolding list
    list-or-part h =
        let left = length bytes / 42 + 1 in
        let more = many-onward left (turn bytes ended room begun) in
        rw (many_more bytes ended room (length bytes / 42 + 2) left begun (omega arith) refl)
        (⊎_elim (λ some. inl (omega (arith, more, first-turn h))) inr ahead-or-part)

pub room-to-read : RoomToRead
room-to-read bytes ended room buffer are h long fits =
    let k = (list bytes ended room).read in
    rw length-drop
    (⊎_elim (λ (some : 0 < k). omega arith) (λ (part : length bytes < wanted bytes). omega (arith, wanted-below bytes are))
    (list-or-part bytes ended room h))
