-- SPDX-License-Identifier: MPL-2.0
-- The line of a step's answer: its name, its number in decimal and the line's end, as `reply 1`, `again 3`, `failure`, `taken 2`,
-- `repeat 2`, `complete 10`, `refused 17`.
use Rattle.std.specs.Prelude.{ℕ, List, [], ◌∷◌, cond, ltb}
use Rattle.hub.specs.declared.Answer.{Answer}
use Rattle.hub.specs.declared.Answer.TheVariants.{Refused, Reply, Again, Failure, Taken, Repeat, Complete}
use Rattle.lines.specs.Text.{named}
use Rattle.lines.specs.Listing.{refused_name}

-- "reply " in ASCII.
abbrev pub reply_name : List ℕ
reply_name = 114 ∷ 101 ∷ 112 ∷ 108 ∷ 121 ∷ 32 ∷ []

-- "again " in ASCII.
abbrev pub again_name : List ℕ
again_name = 97 ∷ 103 ∷ 97 ∷ 105 ∷ 110 ∷ 32 ∷ []

-- "failure" in ASCII and the line's end (10).
abbrev pub failure_line : List ℕ
failure_line = 102 ∷ 97 ∷ 105 ∷ 108 ∷ 117 ∷ 114 ∷ 101 ∷ 10 ∷ []

-- "taken " in ASCII.
abbrev pub taken_name : List ℕ
taken_name = 116 ∷ 97 ∷ 107 ∷ 101 ∷ 110 ∷ 32 ∷ []

-- "repeat " in ASCII.
abbrev pub repeat_name : List ℕ
repeat_name = 114 ∷ 101 ∷ 112 ∷ 101 ∷ 97 ∷ 116 ∷ 32 ∷ []

-- "complete " in ASCII.
abbrev pub complete_name : List ℕ
complete_name = 99 ∷ 111 ∷ 109 ∷ 112 ∷ 108 ∷ 101 ∷ 116 ∷ 101 ∷ 32 ∷ []

-- A number as it is shown: of those that do not fit 32 bits, which no count of pieces and no report's length is, the greatest that does.
unfoldable pub shown : ℕ → ℕ
shown n = cond (ltb n 4294967295) n 4294967295

-- The line of each answer: the refusal's number, the type of the reply that is named, how many different pieces have come, the
-- report's length.
unfoldable pub answer_line : Answer → List ℕ
answer_line (Refused n) = named refused_name n
answer_line (Reply connect) = named reply_name connect
answer_line (Again connect) = named again_name connect
answer_line Failure = failure_line
answer_line (Taken heard) = named taken_name (shown heard)
answer_line (Repeat heard) = named repeat_name (shown heard)
answer_line (Complete length heard) = named complete_name (shown length)
