-- SPDX-License-Identifier: MPL-2.0
-- A step that is made again and again, on an input that comes in parts. It has a state and the bytes at hand, those that came and were not
-- taken, and it is told whether the input has ended. What it does over the whole input at once, and turn by turn as the parts come.
use Rattle.std.specs.Prelude.{ℕ, zero, suc, ◌+◌, ◌≤◌, ◌<◌, ◌≡◌, ◌⊎◌, List, [], ◌∷◌, ◌++◌, Bool, true, false, cond, length, drop}

-- What a step does: it waits for more bytes; or it takes n bytes, writes a text, comes to a state and ends the run; or it takes n bytes,
-- writes a text and goes on from that state.
pub data Step (S : Type 0) : Type 0 where
  waits : Step S
  ends : ℕ → List ℕ → S → Step S
  goes : ℕ → List ℕ → S → Step S

-- A step waits.
abbrev pub is_waiting : {S : Type 0} → Step S → Bool
is_waiting waits = true
is_waiting (ends n text s) = false
is_waiting (goes n text s) = false

-- A step that goes on takes one byte at least, and no more than there are.
abbrev pub Moves : {S : Type 0} → ℕ → Step S → Type 0
Moves there waits = Unit
Moves there (ends n text s) = Unit
Moves there (goes n text s) = (0 < n) × (n ≤ there)

-- Where a run stands: the step's state, the bytes at hand, the text written so far, and whether the run is over.
pub record Stand (S : Type 0) : Type 0 where
  pub state : S
  pub left : List ℕ
  pub text : List ℕ
  pub over : Bool

-- A run before its first step.
abbrev pub standing : {S : Type 0} → S → List ℕ → Stand S
standing s bytes = record { state = s; left = bytes; text = []; over = false }

-- The run after a step.
abbrev pub stepped : {S : Type 0} → Stand S → Step S → Stand S
stepped r waits = r
stepped r (ends n text s) = record { state = s; left = drop n r.left; text = r.text ++ text; over = true }
stepped r (goes n text s) = record { state = s; left = drop n r.left; text = r.text ++ text; over = false }

-- The run after bytes have come.
abbrev pub given : {S : Type 0} → Stand S → List ℕ → Stand S
given r bytes = record { state = r.state; left = r.left ++ bytes; text = r.text; over = r.over }

-- What a run comes to: its state, its text, and whether it is over.
abbrev pub outcome : {S : Type 0} → Stand S → S × (List ℕ × Bool)
outcome r = (r.state, (r.text, r.over))

module _ {S : Type 0} (step : S → List ℕ → Bool → Step S) where
  -- At most n steps; a run that is over makes none.
  unfoldable pub steps : Bool → ℕ → Stand S → Stand S
  steps ended zero r = r
  steps ended (suc n) r = cond r.over r (steps ended n (stepped r (step r.state r.left ended)))

  -- The run over a whole input. Each step but the last takes a byte or more: there are no more steps than these.
  unfoldable pub whole : S → List ℕ → Stand S
  whole s input = steps true (length input + 1) (standing s input)

  -- The run by turns: in each some bytes come after those that are left, and a number of steps is made.
  unfoldable pub turns : Stand S → List (List ℕ × ℕ) → Stand S
  turns r [] = r
  turns r (t ∷ ts) = turns (steps false t.1 (given r t.0)) ts

  -- What a step must keep to. Unless it waits, it does the same when more bytes follow, and when the input is known to have ended; one
  -- that goes on takes a byte; at the end of the input it does not wait.
  pub record Steady : Type 0 where
    pub same : (s : S) (bytes more : List ℕ) (ended : Bool) → (step s bytes false ≡ waits) ⊎ (step s (bytes ++ more) ended ≡ step s bytes false)
    pub moves : (s : S) (bytes : List ℕ) (ended : Bool) → Moves (length bytes) (step s bytes ended)
    pub decides : (s : S) (bytes : List ℕ) → is_waiting (step s bytes true) ≡ false

-- All the bytes that come in turns.
abbrev pub brought_by : List (List ℕ × ℕ) → List ℕ
brought_by [] = []
brought_by (t ∷ ts) = t.0 ++ brought_by ts

-- For any cutting of an input, and any number of steps in each turn: with the steps that are made once it has ended, the run comes to
-- the same as over the whole input, if it is over; and it is over after one step more than the input has bytes.
abbrev pub AddsUp : {S : Type 0} → (S → List ℕ → Bool → Step S) → S → Type 0
AddsUp step s = (ts : List (List ℕ × ℕ)) (last : ℕ) → let r = steps step true last (turns step (standing s []) ts) in
    (r.over ≡ true → outcome r ≡ outcome (whole step s (brought_by ts))) × (length (brought_by ts) < last → r.over ≡ true)
