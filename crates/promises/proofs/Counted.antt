-- SPDX-License-Identifier: MPL-2.0
-- Demand 2's count: joining counts the indexes accepted, and nothing but joining touches what is remembered of them.
use Rattle.laws.proofs.Kit.{ℕ, ◌≡◌, refl, sym, ◌∙◌, ap, false, List, [], ◌∷◌}
use Rattle.wire.specs.declared.header.Header.{Header}
use Rattle.message.specs.Reading.{working_after}
use Rattle.message.specs.Handed.{payload}
use Rattle.joining.specs.declared.answer.Said.{Said}
use Rattle.std.specs.Prelude.{Ok}
use Rattle.joining.specs.declared.Piece.{Piece}
use Rattle.joining.specs.Answers.{is_taken, is_repeat, is_complete}
use Rattle.joining.specs.Join.{join}
use Rattle.joining.proofs.JoinWays.{join-cases}
use Rattle.joining.proofs.AcceptedCount.{Holds, nothing-holds, told-now, extended-holds}
use Rattle.hub.specs.declared.Connection.{Connection}
use Rattle.hub.specs.declared.Stepped.{Stepped}
use Rattle.hub.specs.Answers.{said}
use Rattle.hub.specs.Hear.{connect, piece_in, joined}
use Rattle.hub.specs.Step.{step}
use Rattle.hub.proofs.HostWays.{connect-cases}
use Rattle.hub.proofs.StepCases.{hear-cases, step-cases}
use Rattle.hub.proofs.QuietKeeps.{loud}
use Rattle.promises.specs.Counted.{index_in, accepted, accepted_all, Counts, HeardCount}
use Rattle.promises.proofs.ReadAgain.{read-header}
use Rattle.joining.specs.Events.{Event}
use Rattle.admission.specs.Calls.{Call}
use Rattle.hub.specs.Calls.{Standing, after, says, after_all}

module _ (c : Connection) (es : List Event) (w : Holds c.progress es) where
  -- What a step leaves is counted.
  abbrev Counted : ℕ → Stepped → Type 0
  Counted i s = Holds s.connection.progress (accepted (said s.answer) i es) × Counts (said s.answer) i es

  -- An answer that is none of a piece's counts nothing.
  idle : {s : Said} {i : ℕ} → is_taken s ≡ false → is_repeat s ≡ false → is_complete s ≡ false → Counts s i es
  idle a b c = record { count = λ e. loud (rw (a, b, c) at e); new = λ e. loud (rw (a, c) at e); known = λ e. loud (rw b at e) }

  connect-counts : (i session : ℕ) (p : List ℕ) (v : ℕ) → Counted i (connect c session p v)
  connect-counts i session p v =
      connect-cases c session p v (Counted i) (w, idle refl refl refl) (λ t. (w, idle refl refl refl)) (λ t s. (w, idle refl refl refl))
      (λ t s. (w, idle refl refl refl)) (λ z. (w, idle refl refl refl)) (λ t s. (w, idle refl refl refl))

  join-counts : (q : Piece) (p report : List ℕ) → Counted q.index (joined c (join c.size c.progress q p report))
  join-counts q p report =
      let same = sym (w.alike q.index) in
      let told = told-now c.size c.progress q p report es w in
      join-cases c.size c.progress q p report (λ j b. Counted q.index (joined c j)) (λ z. (w, idle refl refl refl))
      (λ z k. (w, record { count = λ e. told z; new = loud; known = λ e. same ∙ k }))
      (λ z k d. (nothing-holds _ refl, record { count = λ e. told z; new = λ e. same ∙ k; known = loud }))
      (λ z k d. (
        extended-holds c.size c.progress q p report es w z,
        record { count = λ e. told z; new = λ e. same ∙ k; known = loud },
      ))

  step_counts : (b : List ℕ) (x : Call) → Counted (index_in x) (step c x.message x.keys x.working b x.verdict)
  step_counts b x =
      step-cases c x.message x.keys x.working b x.verdict (λ s b'. Counted (index_in x) s) (λ n. (w, idle refl refl refl))
      (λ z found e.
      let h = found.header in
      let p = payload x.message (working_after x.message x.keys x.working) (Ok found) in
      rw (ap (λ (h : Header). h.index) (read-header x.message x.keys x.working found e))
      (hear-cases c h p b x.verdict (λ s b'. Counted h.index s) (λ f. (w, idle refl refl refl))
      (λ f k. connect-counts h.index h.session p x.verdict) (λ f j. join-counts (piece_in h) p b) (λ f k j. (w, idle refl refl refl))))

since : (p : Standing) (es : List Event) → Holds p.connection.progress es → (xs : List Call)
    → Holds (after_all p xs).connection.progress (accepted_all p xs es)
since p es w [] = w
since p es w (x ∷ xs) =
    since (after p x) (accepted (says p x) (index_in x) es) (step_counts p.connection es w p.report x).0 xs

pub heard-count : HeardCount
heard-count p e xs x =
    let q = after_all p xs in
    (step_counts q.connection (accepted_all p xs []) (since p [] (nothing-holds p.connection.progress e) xs) q.report x).1
