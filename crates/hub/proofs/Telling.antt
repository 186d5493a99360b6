-- SPDX-License-Identifier: MPL-2.0
-- What an answer says in numbers tells it from every other: the answer is read back from them.
use Rattle.laws.proofs.Kit.{◌≡◌, refl, sym, ◌∙◌, ap, cond, eqb}
use Rattle.joining.specs.declared.answer.Said.{Said}
use Rattle.joining.specs.declared.Arrival.{Arrival}
use Rattle.joining.specs.declared.Arrival.TheVariants.{Refused as refusedPiece, Taken as takenPiece, Repeat as repeatedPiece}
use Rattle.joining.specs.declared.Arrival.TheVariants.{Complete as completePiece}
use Rattle.joining.specs.Answers.{arrived}
use Rattle.hub.specs.declared.Answer.{Answer}
use Rattle.hub.specs.declared.Answer.TheVariants.{Refused, Reply, Again, Failure, Taken, Repeat, Complete}
use Rattle.hub.specs.Answers.{said, answer_of}

-- The answer that says this.
abbrev meant : Said → Answer
meant s =
    cond (eqb s.kind 0) (Refused s.refusal)
    (cond (eqb s.kind 1) (Reply s.value)
    (cond (eqb s.kind 2) (Again s.value)
    (cond (eqb s.kind 3) Failure
    (cond (eqb s.kind 4) (Taken s.value)
    (cond (eqb s.kind 5) (Repeat s.value) (Complete s.detail s.value))))))

meant-said : (a : Answer) → meant (said a) ≡ a
meant-said (Refused n) = refl
meant-said (Reply t) = refl
meant-said (Again t) = refl
meant-said Failure = refl
meant-said (Taken k) = refl
meant-said (Repeat k) = refl
meant-said (Complete l k) = refl

pub said-apart : (a b : Answer) → said a ≡ said b → a ≡ b
said-apart a b e = sym (meant-said a) ∙ ap meant e ∙ meant-said b

-- A piece's answer says as the step's what it says by itself.
pub said_of : (a : Arrival) → said (answer_of a) ≡ arrived a
said_of (refusedPiece n) = refl
said_of (takenPiece k) = refl
said_of (repeatedPiece k) = refl
said_of (completePiece l k) = refl
