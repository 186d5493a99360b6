-- SPDX-License-Identifier: MPL-2.0
-- A buffer that is read into: the place after a mark, what is kept of it, and what a read leaves.
use Rattle.std.specs.Prelude.{ℕ, ◌+◌, ◌≤◌, min, ◌≡◌, List, length, take, drop, eqb}
use Rattle.std.specs.List.{position_or_len}
use Rattle.intake.specs.declared.Held.{Held}

-- The place after the first byte from a place on that is the mark; the text's end where there is none.
unfoldable pub after_mark : List ℕ → (at mark : ℕ) → ℕ
after_mark text at mark = min (at + position_or_len (λ b. eqb b mark) (drop at text) + 1) (length text)

-- What stands between two places of a buffer; a place past its end counts as its end.
abbrev pub between : List ℕ → (from to : ℕ) → List ℕ
between buffer from to = drop from (take to buffer)

-- What a read after the bytes kept leaves: they stand first; as many bytes are held, or more, and they lie in the buffer; the input has
-- ended exactly where no more are held than were kept.
pub record Refilled (kept after : List ℕ) (r : Held) : Type 0 where
  pub first : take (length kept) after ≡ kept
  pub more : length kept ≤ r.held
  pub fits : r.held ≤ length after
  pub ends : r.ended ≡ eqb r.held (length kept)
