-- SPDX-License-Identifier: MPL-2.0
-- A property of what a step answers and leaves, by the way that it went: a law of all steps is one of these cases.
use Rattle.laws.proofs.Kit.{ℕ, ◌≡◌, true, false, List, length, eqb, ltb, eqb-true}
use Rattle.laws.proofs.Cases.{on}
use Rattle.wire.specs.declared.header.Header.{Header}
use Rattle.message.specs.Reading.{read_message, working_after}
use Rattle.message.specs.Handed.{payload}
use Rattle.std.specs.Prelude.{Result, Ok}
use Rattle.message.specs.declared.reading.FoundMessage.{FoundMessage}
use Rattle.joining.specs.declared.Joined.{Joined}
use Rattle.joining.specs.Cut.{bad_size}
use Rattle.joining.specs.Join.{join, report_after}
use Rattle.hub.specs.declared.Connection.{Connection}
use Rattle.hub.specs.declared.Stepped.{Stepped}
use Rattle.hub.specs.Host.{refuse}
use Rattle.hub.specs.Hear.{connect, piece_in, joined, is_foreign, joins, hear, report_heard}
use Rattle.hub.specs.Step.{step, report_stepped}
use Rattle.admission.specs.Admission.{on_read}
use Rattle.admission.proofs.Ways.{admit-tests, admit-cases}

-- A Connect message is not joined.
pub connect-apart : (c : Connection) (h : Header) → eqb h.kind 2 ≡ true → joins c h ≡ false
connect-apart c h e = rw (eqb-true h.kind 2 e)

-- A message that was read: 16 applies; it is Connect; it is joined; 15 applies.
module _ (c : Connection) (h : Header) (p b : List ℕ) (v : ℕ) (G : Stepped → List ℕ → Type 0) where
  pub hear-cases : (is_foreign c h ≡ true → G (refuse c 16) b)
      → (is_foreign c h ≡ false → eqb h.kind 2 ≡ true → G (connect c h.session p v) b)
      → (is_foreign c h ≡ false → joins c h ≡ true
      → G (joined c (join c.size c.progress (piece_in h) p b)) (report_after c.size c.progress (piece_in h) p b))
      → (is_foreign c h ≡ false → eqb h.kind 2 ≡ false → joins c h ≡ false → G (refuse c 15) b)
      → G (hear c h p b v) (report_heard c h p b)
  unfolding hear report_heard
  hear-cases foreign connects session other =
      on (is_foreign c h) (λ f. rw f (foreign f))
      (λ f.
      on (eqb h.kind 2) (λ k. rw (f, k, connect-apart c h k) (connects f k))
      (λ k. on (joins c h) (λ j. rw (f, k, j) (session f j)) (λ j. rw (f, k, j) (other f k j))))

-- A step.
module _ (c : Connection) (m k w b : List ℕ) (v : ℕ) (G : Stepped → List ℕ → Type 0) where
  -- What the step does and leaves of the reader's answer.
  abbrev pub Reads : List ℕ → Result FoundMessage ℕ → Type 0
  Reads w' r = G (on_read (refuse c) (λ h p. hear c h p b v) m w' r) (on_read (λ n. b) (λ h p. report_heard c h p b) m w' r)

  -- 25 applies; 24 applies; what was read.
  pub step-tests : (ltb 1 v ≡ true → G (refuse c 25) b) → (ltb 1 v ≡ false → bad_size c.size ≡ true → G (refuse c 24) b)
      → (ltb 1 v ≡ false → bad_size c.size ≡ false → Reads (working_after m k w) (read_message m k (length w)))
      → G (step c m k w b v) (report_stepped c m k w b v)
  unfolding step report_stepped
  step-tests verdict size read = admit-tests c.size v m k w Reads verdict size read

  -- It is enough that refusals have it and what is heard.
  pub step-cases : ((n : ℕ) → G (refuse c n) b)
      → (bad_size c.size ≡ false → (f : FoundMessage) → read_message m k (length w) ≡ Ok f → let p = payload m (working_after m k w) (Ok f) in
      G (hear c f.header p b v) (report_heard c f.header p b))
      → G (step c m k w b v) (report_stepped c m k w b v)
  unfolding step report_stepped
  step-cases refused read = admit-cases c.size v m k w Reads (λ w' n. refused n) read

-- Of answer and connection alone: refusals have it, every Connect message, and every piece that is joined.
module _ (c : Connection) (m k w b : List ℕ) (v : ℕ) (G : Stepped → Type 0) where
  pub step-has : ((n : ℕ) → G (refuse c n)) → ((session : ℕ) (p : List ℕ) → G (connect c session p v)) → ((j : Joined) → G (joined c j))
      → G (step c m k w b v)
  step-has refused connects joining =
      step-cases c m k w b v (λ s b'. G s) refused
      (λ z found e.
      let h = found.header in
      let p = payload m (working_after m k w) (Ok found) in
      hear-cases c h p b v (λ s b'. G s) (λ f. refused 16) (λ f t. connects h.session p)
      (λ f j. joining (join c.size c.progress (piece_in h) p b)) (λ f t j. refused 15))
