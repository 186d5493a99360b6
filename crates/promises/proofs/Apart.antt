-- SPDX-License-Identifier: MPL-2.0
-- Two answers of different kinds are not the same: `cc` makes 0 ≡ 1 of an equation between them, and from that anything follows.
use Rattle.laws.proofs.Kit.{ℕ, ◌≡◌, arith}
use Rattle.joining.specs.declared.Arrival.{Arrival}
use Rattle.joining.specs.declared.Arrival.TheVariants.{Refused, Taken, Repeat, Complete}
use Rattle.hub.specs.declared.Answer.TheVariants.{Reply, Failure}
use Rattle.hub.specs.Answers.{answer_of}

pub apart : {A : Type 0} → ◌≡◌ {A = ℕ} 0 1 → A
apart z = absurd (omega arith)

-- What a piece is answered is no reply and no Failure.
pub arrival-apart : (a : Arrival) → ((t : ℕ) → answer_of a ≡ Reply t → ⊥) × (answer_of a ≡ Failure → ⊥)
arrival-apart (Refused n) = (λ t e. apart (cc), λ e. apart (cc))
arrival-apart (Taken k) = (λ t e. apart (cc), λ e. apart (cc))
arrival-apart (Repeat k) = (λ t e. apart (cc), λ e. apart (cc))
arrival-apart (Complete l k) = (λ t e. apart (cc), λ e. apart (cc))
