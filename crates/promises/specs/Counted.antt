-- SPDX-License-Identifier: MPL-2.0
-- Demand 2's count: "each also tells how many different pieces of this message have come", "the count being that of different indexes
-- accepted". It is stated over any course of steps, of any messages.
use Rattle.std.specs.Prelude.{ℕ, ◌≡◌, List, [], ◌∷◌, true, false, cond, ◌||◌}
use Rattle.laws.specs.Bytes.{be16}
use Rattle.joining.specs.Heard.{most, none}
use Rattle.joining.specs.declared.answer.Said.{Said}
use Rattle.joining.specs.Answers.{is_taken, is_repeat, is_complete}
use Rattle.joining.specs.Events.{Event, piece, came, how_many}
use Rattle.admission.specs.Calls.{Call}
use Rattle.hub.specs.Calls.{Standing, after, says, after_all}

-- FragmentIndex, in its place on the wire.
abbrev pub index_in : Call → ℕ
index_in x = be16 x.message 20

-- The indexes accepted of the message that is expected, once a message with index i got this answer: where it is Taken its index is one more;
-- after Complete another message is expected; no other answer accepts anything.
abbrev pub accepted : Said → ℕ → List Event → List Event
accepted s i es = cond (is_taken s) (piece i ∷ es) (cond (is_complete s) [] es)

-- Those accepted over a course of calls, after `es`.
abbrev pub accepted_all : Standing → List Call → List Event → List Event
accepted_all p [] es = es
accepted_all p (x ∷ xs) es = accepted_all (after p x) xs (accepted (says p x) (index_in x) es)

-- What Taken, Repeat and Complete say of a piece with index i, after these were accepted.
pub record Counts (s : Said) (i : ℕ) (es : List Event) : Type 0 where
  -- The count is that of the different indexes accepted, this one with them.
  pub count : (is_taken s || is_repeat s || is_complete s) ≡ true → s.value ≡ how_many most (piece i ∷ es)
  -- The index is a new one where it is Taken or Complete,
  pub new : (is_taken s || is_complete s) ≡ true → came i es ≡ false
  -- one of those accepted where it is Repeat.
  pub known : is_repeat s ≡ true → came i es ≡ true

-- From a connection that has heard nothing of the message it expects, as every opened one, after any course of calls.
abbrev pub HeardCount : Type 0
HeardCount =
    (p : Standing) → p.connection.progress.heard ≡ none most → (xs : List Call) (x : Call)
    → Counts (says (after_all p xs) x) (index_in x) (accepted_all p xs [])
