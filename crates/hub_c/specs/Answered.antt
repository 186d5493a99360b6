-- SPDX-License-Identifier: MPL-2.0
-- What a step leaves in the state buffer and in the words of its answer.
use Rattle.std.specs.Prelude.{ℕ, ◌+◌, ◌-◌, ◌*◌, ◌≤◌, ◌≡◌, List, [], ◌∷◌, Bool, false, cond, not, ◌&&◌, ◌||◌, eqb, ltb, length}
use Rattle.joining.specs.Cut.{bad_size}
use Rattle.joining.specs.declared.answer.Said.{Said}
use Rattle.joining.specs.Heard.{most, has}
use Rattle.joining.specs.Join.{expecting}
use Rattle.hub.specs.declared.Connection.{Connection}
use Rattle.hub.specs.declared.Stepped.{Stepped}
use Rattle.hub.specs.Answers.{said}
use Rattle.hub.specs.Step.{step}
use Rattle.state.specs.Layout.{state_size}
use Rattle.state.specs.State.{connection_at, state_bytes}
use Rattle.hub_c.specs.Sizes.{answer_size}

-- The state buffer after a step: "Every refusal leaves connection … alone."
unfoldable pub state_after : Stepped → List ℕ → List ℕ
state_after s state = cond (eqb (said s.answer).refusal 0) (state_bytes s.connection) state

-- The three words of an answer, in either role: its kind and values, all 0 beside a refusal.
abbrev pub said_words : Said → List ℕ
said_words s = s.kind ∷ s.value ∷ s.detail ∷ []

abbrev pub answer_after : Stepped → List ℕ
answer_after s = said_words (said s.answer)

-- The verdict of a word: 25 refuses every one but 0 and 1, and 2 stands for them.
abbrev pub verdict_of : ℕ → ℕ
verdict_of word = cond (ltb word 2) word 2

-- No report has so many pieces, or the fragment size cuts none.
abbrev pub uncut : Connection → Bool
uncut c = bad_size c.size || eqb c.progress.count 0 || ltb most c.progress.count

-- A report buffer of `room` bytes is shorter than the report that is on its way: the piece with the last index has come, so that the report's length
-- is known, and it is more than `room`.
unfoldable pub short_report : Connection → (room : ℕ) → Bool
short_report c room =
    let last = c.progress.count - 1 in
    not (uncut c) && (has c.progress.heard last && ltb room (c.size * last + c.progress.last))

-- The state buffer or the buffer of the answer has another size, or the report buffer is shorter than the report.
abbrev pub wrong_step : (state report answer : List ℕ) → Bool
wrong_step state report answer =
    (not (eqb (length state) state_size) || not (eqb (length answer) answer_size)) || short_report (connection_at state) (length report)

-- The report that a step hands out lies in the report buffer: whatever the connection and the buffers hold, the length in the answer of a step
-- that was lent no wrong buffer is at most the report buffer's. (The word is the report's length at Complete; in every other answer it is 0.)
abbrev pub WithinReport : Type 0
WithinReport = (state message keys working report answer : List ℕ) (verdict : ℕ) → wrong_step state report answer ≡ false
    → (said (step (connection_at state) message keys working report verdict).answer).detail ≤ length report

-- Whoever keeps lending the same report buffer is never told that it is too short, whatever comes: none is while nothing is heard of a report,
-- not even an empty one, and no step makes one too short that was not.
pub record NeverShort : Type 0 where
  pub first : (c : Connection) (number room : ℕ) → c.progress ≡ expecting number → short_report c room ≡ false
  pub kept : (state message keys working report : List ℕ) (verdict : ℕ) → short_report (connection_at state) (length report) ≡ false
      → short_report (step (connection_at state) message keys working report verdict).connection (length report) ≡ false
