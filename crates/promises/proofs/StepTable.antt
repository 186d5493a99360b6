-- SPDX-License-Identifier: MPL-2.0
-- Demand 1 for the hub's step: after 14 its rows are the host's.
use Rattle.laws.proofs.Kit.{ℕ, ◌≡◌, refl, sym, ◌∙◌, ap, false, List, le-ltb, lt-leb}
use Rattle.laws.proofs.Kit.{eqb-false, arith}
use Rattle.laws.specs.Rows.{first}
use Rattle.laws.proofs.Firsts.{loud-first}
use Rattle.payloads.specs.Reading.{connect_type, read_request}
use Rattle.wire.specs.Reader.{header_of, refusal_of}
use Rattle.wire.specs.declared.header.Header.{Header}
use Rattle.wire.proofs.Sound as wire
use Rattle.sha256.specs.Digests.{digest}
use Rattle.joining.specs.Answers.{refused}
use Rattle.joining.specs.Heard.{most}
use Rattle.joining.specs.Cut.{bad_size}
use Rattle.joining.specs.Join.{bad_index, join_refusal, join}
use Rattle.joining.proofs.JoinWays.{join-cases}
use Rattle.hub.specs.declared.Connection.{Connection}
use Rattle.hub.specs.declared.Stepped.{Stepped}
use Rattle.hub.specs.declared.Answer.{Answer}
use Rattle.hub.specs.declared.Answer.TheVariants.{Refused, Reply, Again, Failure, Taken, Repeat, Complete}
use Rattle.hub.specs.Answers.{said, is_quiet}
use Rattle.hub.specs.Host.{host_rows, host, refuse}
use Rattle.hub.specs.Hear.{certificate, connect, piece_in, joined, hear}
use Rattle.hub.specs.Step.{step}
use Rattle.hub.proofs.HostWays.{connect-cases}
use Rattle.hub.proofs.StepCases.{connect-apart, hear-cases}
use Rattle.hub.proofs.QuietKeeps.{step-still}
use Rattle.promises.specs.Refusals.{host_table, StepExact, LeavesAlone}
use Rattle.promises.proofs.Admitting.{Firm, role-exact}

-- The number of a step's refusal, 0 where it does not refuse.
abbrev number : Stepped → ℕ
number s = (said s.answer).refusal

module _ (c : Connection) (h : Header) (p b : List ℕ) (v : ℕ) (sized : bad_size c.size ≡ false)
    (indexed : bad_index h.count h.index ≡ false) where
  -- Joining's refusal is the step's.
  join-number : number (joined c (join c.size c.progress (piece_in h) p b)) ≡ join_refusal c.size c.progress (piece_in h) p b
  join-number =
      join-cases c.size c.progress (piece_in h) p b (λ j b'. number (joined c j) ≡ join_refusal c.size c.progress (piece_in h) p b)
      (λ z. refl) (λ z k. sym z) (λ z k d. sym z) (λ z k d. sym z)

  hear-number : number (hear c h p b v) ≡ first (host_table c h p b v)
  unfolding connect host join_refusal
  hear-number =
      let rows = host_rows c (connect_type p) h.session (read_request p) (digest (certificate p)) v in
      hear-cases c h p b v (λ s b'. number s ≡ first (host_table c h p b v)) (λ f. rw f)
      (λ f k. rw (f, k, connect-apart c h k) (loud-first number rows (refuse c 15) refl))
      (λ f j. rw (f, j) (join-number ∙ rw (sized, indexed)))
      (λ f k j. rw (f, k, j))

-- What passed 7 has an index under its count.
indexed : (m : List ℕ) → refusal_of m ≡ 0 → bad_index (header_of m).count (header_of m).index ≡ false
indexed m z =
    let p = wire.piece _ (header_of m).index (header_of m).count (wire.good m z).piece in
    rw (le-ltb most (header_of m).count p.few, lt-leb (header_of m).count (header_of m).index p.under)

refused-is : (a : Answer) (n : ℕ) → (n ≡ 0 → ⊥) → (said a).refusal ≡ n → said a ≡ refused n
refused-is (Refused k) n z e = ap refused e
refused-is (Reply t) n z e = absurd (z (sym e))
refused-is (Again t) n z e = absurd (z (sym e))
refused-is Failure n z e = absurd (z (sym e))
refused-is (Taken k) n z e = absurd (z (sym e))
refused-is (Repeat k) n z e = absurd (z (sym e))
refused-is (Complete l k) n z e = absurd (z (sym e))

module _ (c : Connection) (h : Header) (p b : List ℕ) (v : ℕ) where
  hear-firm : Firm (said (hear c h p b v).answer)
  hear-firm =
      hear-cases c h p b v (λ s b'. Firm (said s.answer)) (λ f k n. omega arith)
      (λ f t.
      connect-cases c h.session p v (λ s. Firm (said s.answer)) (λ k n. omega arith) (λ t k n. omega arith) (λ t s k n. omega arith)
      (λ t s k n. omega arith) (λ z k n. omega arith) (λ t s k n. omega arith))
      (λ f j.
      join-cases c.size c.progress (piece_in h) p b (λ j b'. Firm (said (joined c j).answer)) (λ z k n. eqb-false _ 0 z n)
      (λ z i k n. omega arith) (λ z i d k n. omega arith) (λ z i d k n. omega arith))
      (λ f k j e n. omega arith)

module _ (c : Connection) (m keys working report : List ℕ) (v : ℕ) where
  pub step-exact : StepExact c m keys working report v
  unfolding step
  step-exact n bytes =
      role-exact (λ (s : Stepped). said s.answer) (refuse c) (λ h p. hear c h p report v) c.size v m keys working
      (λ p. host_table c (header_of m) p report v)
      (record { told = λ n. refl; only = λ s n. refused-is s.answer n; firm = λ h p. hear-firm c h p report v })
      (λ p sized z. hear-number c (header_of m) p report v sized (indexed m z)) refl n bytes

  pub leaves-alone : LeavesAlone c m keys working report v
  leaves-alone n e = step-still c report m keys working v (ap is_quiet e)
