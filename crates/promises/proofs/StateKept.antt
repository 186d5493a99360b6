-- SPDX-License-Identifier: MPL-2.0
-- What an enrolment step remembers is never overwritten until a step names Failure, which only a verdict of 0 makes it do.
use Rattle.laws.proofs.Kit.{ℕ, ◌≤◌, ◌≡◌, refl, List, arith}
use Rattle.sha256.specs.Digests.{digest}
use Rattle.joining.specs.declared.Progress.{Progress}
use Rattle.hub.specs.declared.Connection.{Connection}
use Rattle.hub.specs.declared.Stepped.{Stepped}
use Rattle.hub.specs.declared.Answer.TheVariants.{Failure}
use Rattle.hub.specs.Host.{with_digest_and_state}
use Rattle.hub.specs.Hear.{certificate, with_progress}
use Rattle.hub.specs.Step.{step}
use Rattle.admission.specs.Calls.{Call}
use Rattle.hub.specs.Calls.{Standing, answer}
use Rattle.hub.proofs.Telling.{said-apart}
use Rattle.hub.proofs.HostWays.{connect-cases}
use Rattle.hub.proofs.StepCases.{step-has}
use Rattle.promises.specs.Enrolment.{OnlyByZero}
use Rattle.promises.proofs.Apart.{apart, arrival-apart}

-- What a step leaves of a connection in states 1 to 3, unless it names Failure: all that a repeat is compared with.
pub record Keeps (c d : Connection) : Type 0 where
  pub size : d.size ≡ c.size
  pub session : d.session ≡ c.session
  pub nonce : d.nonce ≡ c.nonce
  pub x : d.x ≡ c.x
  pub y : d.y ≡ c.y
  pub up : c.state ≤ d.state
  pub top : d.state ≤ 3
  pub digest : 2 ≤ c.state → d.digest ≡ c.digest

-- No step but a Failure forgets: any other changes nothing but digest, state and progress.
module _ (c : Connection) (low : 1 ≤ c.state) (high : c.state ≤ 3) where
  abbrev Kept : Stepped → Type 0
  Kept s = (s.answer ≡ Failure → ⊥) → Keeps c s.connection

  moved : (d : List ℕ) (state : ℕ) (q : Progress) → c.state ≤ state → state ≤ 3 → (2 ≤ c.state → d ≡ c.digest)
      → Keeps c (with_progress (with_digest_and_state c d state) q)
  moved d state q u t e = record { size = refl; session = refl; nonce = refl; x = refl; y = refl; up = u; top = t; digest = e }

  kept : (q : Progress) → Keeps c (with_progress c q)
  kept q = moved c.digest c.state q (omega arith) high (λ l. refl)

  pub step_kept : (b : List ℕ) (x : Call) → Kept (step c x.message x.keys x.working b x.verdict)
  step_kept b x =
      step-has c x.message x.keys x.working b x.verdict Kept (λ n f. kept c.progress)
      (λ session p.
      connect-cases c session p x.verdict Kept (λ f. kept c.progress) (λ t f. kept c.progress) (λ t z f. absurd (omega arith))
      (λ t z f. moved (digest (certificate p)) 2 c.progress (omega arith) (omega arith) (λ l. absurd (omega arith)))
      (λ z f. absurd (f refl))
      (λ t z f. moved c.digest 3 c.progress (omega arith) (omega arith) (λ l. refl)))
      (λ j f. kept j.progress)

-- Failure is named by one row, whose verdict is 0.
failure-by-zero : (p : Standing) (x : Call) → answer p x ≡ Failure → x.verdict ≡ 0
failure-by-zero p x =
    let c = p.connection in
    let v = x.verdict in
    let Judged : Stepped → Type 0 = λ s. s.answer ≡ Failure → v ≡ 0 in
    step-has c x.message x.keys x.working p.report v Judged (λ n e. apart (cc))
    (λ session q.
    connect-cases c session q v Judged (λ e. apart (cc)) (λ t e. apart (cc)) (λ t s e. apart (cc)) (λ t s e. apart (cc)) (λ z e. z)
    (λ t s e. apart (cc)))
    (λ j e. absurd ((arrival-apart j.answer).1 e))

pub only-by-zero : OnlyByZero
only-by-zero p x e = failure-by-zero p x (said-apart (answer p x) Failure e)
