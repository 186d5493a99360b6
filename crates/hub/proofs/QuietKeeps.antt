-- SPDX-License-Identifier: MPL-2.0
-- A refusal and Again leave connection and report buffer alone.
use Rattle.laws.proofs.Kit.{ℕ, ◌≡◌, refl, true, false, List}
use mathlib.Core.Bool.{false≢true}
use Rattle.message.specs.Reading.{working_after}
use Rattle.message.specs.Handed.{payload}
use Rattle.std.specs.Prelude.{Ok}
use Rattle.joining.specs.declared.Piece.{Piece}
use Rattle.joining.specs.Join.{join, report_after}
use Rattle.joining.proofs.JoinWays.{join-cases}
use Rattle.hub.specs.declared.Connection.{Connection}
use Rattle.hub.specs.declared.Stepped.{Stepped}
use Rattle.hub.specs.Answers.{said, is_quiet}
use Rattle.hub.specs.Hear.{connect, piece_in, joined}
use Rattle.hub.specs.Step.{step, report_stepped}
use Rattle.hub.proofs.HostWays.{connect-cases}
use Rattle.hub.proofs.StepCases.{hear-cases, step-cases}

-- Where the answer is quiet, the connection is the one given and the report buffer the one lent.
abbrev pub Still : Connection → List ℕ → Stepped → List ℕ → Type 0
Still c b s b' = is_quiet (said s.answer) ≡ true → (s.connection ≡ c) × (b' ≡ b)

-- No other answer is quiet, nor of another kind.
pub loud : {A : Type 0} → false ≡ true → A
loud e = absurd (false≢true e)

module _ (c : Connection) (b : List ℕ) where
  connect-still : (session : ℕ) (p : List ℕ) (v : ℕ) → Still c b (connect c session p v) b
  connect-still session p v =
      connect-cases c session p v (λ s. Still c b s b) (λ e. (refl, refl)) (λ t e. (refl, refl))
      (λ t s. loud) (λ t s. loud) (λ z. loud) (λ t s. loud)

  joined-still : (q : Piece) (p : List ℕ) → Still c b (joined c (join c.size c.progress q p b)) (report_after c.size c.progress q p b)
  joined-still q p =
      join-cases c.size c.progress q p b (λ j b'. Still c b (joined c j) b') (λ z e. (refl, refl))
      (λ z k. loud) (λ z k d. loud) (λ z k d. loud)

  pub step-still : (m k w : List ℕ) (v : ℕ) → Still c b (step c m k w b v) (report_stepped c m k w b v)
  step-still m k w v =
      step-cases c m k w b v (Still c b) (λ n e. (refl, refl))
      (λ z found e.
      let h = found.header in
      hear-cases c h (payload m (working_after m k w) (Ok found)) b v (Still c b) (λ f e. (refl, refl)) (λ f k. connect-still h.session _ v)
      (λ f j. joined-still (piece_in h) _) (λ f k j e. (refl, refl)))
