-- SPDX-License-Identifier: MPL-2.0
-- What a step is answered, in document 01's numbers: "When an answer is an enum, a definition specifies this paper's number and values for each
-- of its cases."
use Rattle.std.specs.Prelude.{ℕ, Bool, ◌||◌, eqb}
use Rattle.joining.specs.declared.answer.Said.{Said}
use Rattle.joining.specs.declared.Arrival.{Arrival}
use Rattle.joining.specs.declared.Arrival.TheVariants.{Refused as refusedPiece, Taken as takenPiece, Repeat as repeatedPiece}
use Rattle.joining.specs.declared.Arrival.TheVariants.{Complete as completePiece}
use Rattle.joining.specs.Answers.{words, refused, taken, repeated, complete}
use Rattle.hub.specs.declared.Answer.{Answer}
use Rattle.hub.specs.declared.Answer.TheVariants.{Refused, Reply, Again, Failure, Taken, Repeat, Complete}

-- "reply type 7 with Status 0": the Status of the reply. A reply of another type has none, and 0 stands there too.
abbrev pub done_status : ℕ
done_status = 0

-- "A reply is its type named in the answer", and its Status.
abbrev pub reply : ℕ → Said
reply t = words 1 t done_status

-- "Again, same reply".
abbrev pub again : ℕ → Said
again t = words 2 t done_status

-- "names Failure".
abbrev pub failure : Said
failure = words 3 0 0

-- Each case's number and values.
abbrev pub said : Answer → Said
said (Refused n) = refused n
said (Reply t) = reply t
said (Again t) = again t
said Failure = failure
said (Taken k) = taken k
said (Repeat k) = repeated k
said (Complete l k) = complete l k

-- The answers that leave connection and report buffer alone whatever the message was: a refusal, kind 0, and Again, kind 2.
abbrev pub is_quiet : Said → Bool
is_quiet s = eqb s.kind 0 || eqb s.kind 2

-- The arrival of a piece, as the step's answer.
abbrev pub answer_of : Arrival → Answer
answer_of (refusedPiece n) = Refused n
answer_of (takenPiece k) = Taken k
answer_of (repeatedPiece k) = Repeat k
answer_of (completePiece l k) = Complete l k
