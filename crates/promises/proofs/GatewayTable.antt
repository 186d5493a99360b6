-- SPDX-License-Identifier: MPL-2.0
-- Demand 1 for the gateway: its opener, and its step, whose rows after 14 are 16 and 15; and what is sent again is what was sent.
use Rattle.laws.proofs.Kit.{ℕ, ◌≡◌, refl, sym, ◌∙◌, ap, Bool, true, false, true≢false, not, cond, List, eqb, ltb, leb, eqb-true, eqb-false, ne_eqb}
use Rattle.laws.proofs.Kit.{arith, le-leb, lt-leb, ltb-true, ltb-false}
use Rattle.laws.specs.Rows.{first}
use Rattle.laws.proofs.Bools.{or-none}
use Rattle.laws.proofs.Cases.{on}
use Rattle.std.specs.Prelude.{Option}
use Rattle.wire.specs.Reader.{header_of}
use Rattle.wire.specs.declared.header.Header.{Header}
use Rattle.payloads.specs.Reading.{connect_type, code_of}
use Rattle.joining.specs.Answers.{refused}
use Rattle.joining.specs.Cut.{bad_size}
use Rattle.admission.specs.Admission.{another_session}
use Rattle.gateway.specs.declared.Gateway.{Gateway}
use Rattle.gateway.specs.declared.Stepped.{Stepped}
use Rattle.gateway.specs.declared.Opened.{Opened}
use Rattle.gateway.specs.declared.Answer.{Answer}
use Rattle.gateway.specs.declared.Answer.TheVariants.{Refused, Next, Ready, Failed, Again}
use Rattle.gateway.specs.Answers.{said}
use Rattle.gateway.specs.Opening.{opened}
use Rattle.gateway.specs.Client.{refuse, fails, replied, take, client}
use Rattle.gateway.specs.Step.{hear, step}
use Rattle.gateway.proofs.Ways.{hear-has}
use Rattle.promises.specs.Refusals.{open_table}
use Rattle.promises.specs.Gateway.{has_come, not_opened, GatewayOpens, client_table, GatewayExact, SameBytes}
use Rattle.promises.proofs.Exactly.{exactly}
use Rattle.promises.proofs.Admitting.{Firm, role-exact}
use Rattle.promises.proofs.ReadBack.{is-message}
use Rattle.promises.proofs.FieldsBack.{is}

-- The number of a step's refusal, 0 where it does not refuse.
abbrev number : Stepped → ℕ
number s = (said s.answer).refusal

-- A reply is refused before its state alone.
replied-number : (g : Gateway) (awaited : ℕ) (a : Answer) (d : Option ℕ) → (said a).refusal ≡ 0
    → number (replied g awaited a d) ≡ cond (leb awaited g.state) 0 15
replied-number g awaited a d z =
    on (eqb g.state awaited)
    (λ e. let s = eqb-true g.state awaited e in rw (e, le-leb awaited g.state (omega arith)) z)
    (λ e.
    on (ltb awaited g.state) (λ l. rw (e, l, le-leb awaited g.state (omega (arith, ltb-true awaited g.state l))))
    (λ l.
    let s = eqb-false g.state awaited e in
    let k = ltb-false awaited g.state l in
    rw (e, l, lt-leb awaited g.state (omega arith))))

take-number : (g : Gateway) (t : ℕ) → number (take g t) ≡ cond (has_come g t) 0 15
unfolding take
take-number g t =
    on (eqb t 1) (λ a. rw a (replied-number g 0 _ _ refl ∙ rw (le-leb 0 g.state (omega arith))))
    (λ a.
    on (eqb t 3)
    (λ b.
    let k = eqb-true t 3 b in
    rw (a, b, ne_eqb t 7 (λ e. omega arith), or-none (leb 1 g.state)) (replied-number g 1 _ _ refl))
    (λ b. on (eqb t 7) (λ c. rw (a, b, c) (replied-number g 2 _ _ refl)) (λ c. rw (a, b, c))))

turned : (t : Bool) → cond {A = ℕ} t 0 15 ≡ cond (not t) 15 0
turned true = refl
turned false = refl

module _ (g : Gateway) (h : Header) (p : List ℕ) (v : ℕ) where
  hear-number : number (hear g h p v) ≡ first (client_table g h p v)
  unfolding hear client
  hear-number =
      let t = connect_type p in
      on (another_session h g.session) (λ f. rw f)
      (λ f.
      on (eqb h.kind 2)
      (λ k.
      on (ltb 3 g.state) (λ l. rw (f, k, l, lt-leb g.state 3 (ltb-true 3 g.state l)))
      (λ l.
      let u = le-leb g.state 3 (ltb-false 3 g.state l) in
      on (fails t (code_of p) v) (λ e. rw (f, k, l, u, e)) (λ e. rw (f, k, l, u, e) (take-number g t ∙ turned (has_come g t)))))
      (λ k. rw (f, k)))

  hear-firm : Firm (said (hear g h p v).answer)
  hear-firm =
      hear-has g (λ s. Firm (said s.answer)) (λ k n. omega arith) (λ d k n. omega arith) (λ k n. omega arith) (λ s k n. omega arith)
      (λ s k n. omega arith) (λ s k n. omega arith) (λ k n. omega arith) h p v

refused-is : (a : Answer) (n : ℕ) → (n ≡ 0 → ⊥) → (said a).refusal ≡ n → said a ≡ refused n
refused-is (Refused k) n z e = ap refused e
refused-is (Next t) n z e = absurd (z (sym e))
refused-is Ready n z e = absurd (z (sym e))
refused-is Failed n z e = absurd (z (sym e))
refused-is (Again d) n z e = absurd (z (sym e))

pub gateway-exact : (g : Gateway) (m keys working : List ℕ) (v : ℕ) → GatewayExact g m keys working v
unfolding step
gateway-exact g m keys working v n bytes =
    role-exact (λ (s : Stepped). said s.answer) (refuse g) (λ h p. hear g h p v) g.size v m keys working
    (λ p. client_table g (header_of m) p v)
    (record { told = λ n. refl; only = λ s n. refused-is s.answer n; firm = λ h p. hear-firm g h p v })
    (λ p sized z. hear-number g (header_of m) p v) refl n bytes

pub gateway-opens : (F session : ℕ) → GatewayOpens F session
unfolding opened
gateway-opens F session =
    record {
      exact = λ n.
          exactly (opened F session ≡ not_opened n) n (open_table F) refl
          (λ p.
          on (bad_size F)
          (λ b. let q : 24 ≡ n = ap (λ (o : Opened). o.refusal) (rw b at p) in (λ z. omega arith, rw b q))
          (λ b. let q : F ≡ 0 = ap (λ (o : Opened). o.gateway.size) (rw b at p) in absurd (true≢false (rw q at b))))
          (λ z p. on (bad_size F) (λ b. let q : 24 ≡ n = rw b at p in rw b (ap not_opened q)) (λ b. absurd (z (sym (rw b at p)))));
      keeps = λ q. rw q.0;
    }

pub same_bytes : SameBytes
same_bytes =
    record {
      payloads = λ f v p q a b. is f v p a ∙ sym (is f v q b);
      messages = λ h chain payload keys m n a b. is-message h chain payload keys m a ∙ sym (is-message h chain payload keys n b);
    }
