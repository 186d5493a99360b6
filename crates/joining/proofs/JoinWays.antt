-- SPDX-License-Identifier: MPL-2.0
-- The cases of what joining answers.
use Rattle.laws.proofs.Kit.{ℕ, ◌+◌, ◌-◌, ◌*◌, ◌≡◌, true, false, List, length, eqb, eqb-true}
use Rattle.laws.proofs.Cases.{on}
use Rattle.joining.specs.declared.Progress.{Progress}
use Rattle.joining.specs.declared.Piece.{Piece}
use Rattle.joining.specs.declared.Joined.{Joined}
use Rattle.joining.specs.declared.Arrival.TheVariants.{Refused, Taken, Repeat, Complete}
use Rattle.joining.specs.Heard.{has}
use Rattle.joining.specs.Report.{put}
use Rattle.joining.specs.Join.{last_of, expecting, extended, told, completes, join_refusal, join, report_after}

-- A property of what joining answers and leaves is one of each of its four answers.
module _ (F : ℕ) (h : Progress) (p : Piece) (bytes b : List ℕ) (G : Joined → List ℕ → Type 0) where
  pub join-cases : (eqb (join_refusal F h p bytes b) 0 ≡ false → G (record { progress = h; answer = Refused (join_refusal F h p bytes b) }) b)
      → (join_refusal F h p bytes b ≡ 0 → has h.heard p.index ≡ true → G (record { progress = h; answer = Repeat (told h p) }) b)
      → (join_refusal F h p bytes b ≡ 0 → has h.heard p.index ≡ false → completes h p ≡ true
      → G (record { progress = expecting (h.expected + 1); answer = Complete (F * (p.count - 1) + last_of h p (length bytes)) (told h p) })
      (put b (F * p.index) bytes))
      → (join_refusal F h p bytes b ≡ 0 → has h.heard p.index ≡ false → completes h p ≡ false
      → G (record { progress = extended h p (length bytes); answer = Taken (told h p) }) (put b (F * p.index) bytes))
      → G (join F h p bytes b) (report_after F h p bytes b)
  unfolding join report_after
  join-cases refused repeated complete new =
      on (eqb (join_refusal F h p bytes b) 0)
      (λ e.
      let z = eqb-true (join_refusal F h p bytes b) 0 e in
      on (has h.heard p.index) (λ k. rw (e, k) (repeated z k))
      (λ k. on (completes h p) (λ d. rw (e, k, d) (complete z k d)) (λ d. rw (e, k, d) (new z k d))))
      (λ e. rw e (refused e))
