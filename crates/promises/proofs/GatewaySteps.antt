-- SPDX-License-Identifier: MPL-2.0
-- A step of the gateway whose message is read hears it, and the first line of "Gateway states" that applies is the one of the sentence.
use Rattle.laws.proofs.Kit.{ℕ, ◌≤◌, ◌<◌, ◌≡◌, refl, ◌∙◌, ap, Bool, true, false, List, cond, eqb, ltb, eqb-true, eqb-false, eq-eqb, ne_eqb, lt-ltb}
use Rattle.laws.proofs.Kit.{le-ltb, inl, inr, arith, ◌+◌}
use mathlib.Core.Logic.{◌⊎◌}
use Rattle.std.specs.Prelude.{Option, Some, None}
use Rattle.wire.specs.declared.header.Header.{Header}
use Rattle.payloads.specs.Reading.{connect_type, code_of}
use Rattle.joining.specs.declared.answer.Said.{Said}
use Rattle.joining.specs.Answers.{refused}
use Rattle.admission.specs.Admission.{another_session}
use Rattle.admission.specs.Calls.{Call}
use Rattle.gateway.specs.declared.Gateway.{Gateway}
use Rattle.gateway.specs.declared.Stepped.{Stepped}
use Rattle.gateway.specs.declared.Answer.{Answer}
use Rattle.gateway.specs.declared.Answer.TheVariants.{Next, Ready, Failed, Again}
use Rattle.gateway.specs.Answers.{said, due_in, next, again, now_ready, now_failed}
use Rattle.gateway.specs.Client.{stepped, refuse, in_state, fails, replied, take, client}
use Rattle.gateway.specs.Step.{hear, step}
use Rattle.gateway.proofs.Ways.{step-has}
use Rattle.promises.specs.Gateway.{Admitted, Does, ByGatewayStates, GatewayLeavesAlone, GatewayKeeps, DueNames}
use Rattle.promises.proofs.Admitting.{role-hears}

-- The lines of "Gateway states", each where its sentence says.
module _ (g : Gateway) (t c v : ℕ) where
  -- All is 15 after state 3.
  ends : 4 ≤ g.state → client g t c v ≡ refuse g 15
  unfolding client
  ends h = rw (lt-ltb 3 g.state h)

  -- Another Result or Status, a verdict of 0.
  failing : g.state ≤ 3 → fails t c v ≡ true → client g t c v ≡ stepped (in_state g 4) Failed
  unfolding client
  failing l e = rw (le-ltb 3 g.state l, e)

  -- Else the reply is taken for what it is.
  taking : g.state ≤ 3 → fails t c v ≡ false → client g t c v ≡ take g t
  unfolding client
  taking l e = rw (le-ltb 3 g.state l, e)

-- A reply that is awaited in a state: there, later and before.
module _ (g : Gateway) (awaited : ℕ) (a : Answer) (d : Option ℕ) where
  here : g.state ≡ awaited → replied g awaited a d ≡ stepped (in_state g (awaited + 1)) a
  here e = rw (eq-eqb g.state awaited e)

  later : awaited < g.state → replied g awaited a d ≡ stepped g (Again d)
  later l = rw (ne_eqb g.state awaited (λ e. omega arith), lt-ltb awaited g.state l)

  early : g.state < awaited → replied g awaited a d ≡ refuse g 15
  early l = rw (ne_eqb g.state awaited (λ e. omega arith), le-ltb awaited g.state (omega arith))

-- The same either way.
either : {A : Type 0} (t : Bool) (a : A) → cond t a a ≡ a
either true a = refl
either false a = refl

-- Of each type.
module _ (g : Gateway) where
  first : take g 1 ≡ replied g 0 (Next 2) (Some 2)
  unfolding take
  first = refl

  second : take g 3 ≡ replied g 1 (Next 6) (Some 6)
  unfolding take
  second = refl

  third : take g 7 ≡ replied g 2 Ready None
  unfolding take
  third = refl

  none : (t : ℕ) → (t ≡ 1 → ⊥) → (t ≡ 3 → ⊥) → (t ≡ 7 → ⊥) → take g t ≡ refuse g 15
  unfolding take
  none t a b e = rw (ne_eqb t 1 a, ne_eqb t 3 b, ne_eqb t 7 e)

  -- Requests and every other type are 15 in each state.
  other : (t c v : ℕ) → (t ≡ 1 → ⊥) → (t ≡ 3 → ⊥) → (t ≡ 7 → ⊥) → client g t c v ≡ refuse g 15
  unfolding client
  other t c v a b e = rw (ne_eqb t 1 a, ne_eqb t 3 b, ne_eqb t 7 e, none t a b e) (either (ltb 3 g.state) (refuse g 15))

-- A message of the gateway's session that was read: a Connect message by its type and code; any other is 15.
module _ (g : Gateway) (h : Header) (p : List ℕ) (v : ℕ) (own : another_session h g.session ≡ false) where
  hear-connect : (t c : ℕ) → h.kind ≡ 2 → connect_type p ≡ t → code_of p ≡ c → hear g h p v ≡ client g t c v
  unfolding hear
  hear-connect t c k e f = rw (own, k, e, f)

  hear-other : (h.kind ≡ 2 → ⊥) → hear g h p v ≡ refuse g 15
  unfolding hear
  hear-other n = rw (own, ne_eqb h.kind 2 n)

module _ (g : Gateway) (x : Call) (h : Admitted g x) where
  abbrev p : List ℕ
  p = h.content.payload

  -- The call's message is heard.
  heard : step g x.message x.keys x.working x.verdict ≡ hear g h.content.header p x.verdict
  unfolding step
  heard =
      role-hears (refuse g) (λ k q. hear g k q x.verdict) g.size x.verdict h.content.header p x.message x.keys x.working
      h.size h.verdict h.content.reads

  does : (s : Stepped) → hear g h.content.header p x.verdict ≡ s → Does g x (said s.answer) s.gateway
  does s e = let q = heard ∙ e in (ap (λ (s : Stepped). said s.answer) q, ap (λ (s : Stepped). s.gateway) q)

  connects : (t c : ℕ) (s : Stepped) → h.content.header.kind ≡ 2 → connect_type p ≡ t → code_of p ≡ c → client g t c x.verdict ≡ s
      → Does g x (said s.answer) s.gateway
  connects t c s k e f q = does s (hear-connect g h.content.header p x.verdict h.own t c k e f ∙ q)

  other-kind : (h.content.header.kind ≡ 2 → ⊥) → Does g x (refused 15) g
  other-kind n = does (refuse g 15) (hear-other g h.content.header p x.verdict h.own n)

pub by-gateway-states : ByGatewayStates
by-gateway-states g x h =
    let p = h.content.payload in
    let v = x.verdict in
    record {
      failed = λ l. ended l (eqb h.content.header.kind 2) refl;
      other_result = λ r i n l. connects g x h 1 r (stepped (in_state g 4) Failed) i.0.0 i.0.1 i.1 (failing g 1 r v l (rw (ne_eqb r 1 n)));
      other-status = λ r i n l. connects g x h 7 r (stepped (in_state g 4) Failed) i.0.0 i.0.1 i.1 (failing g 7 r v l (rw (ne_eqb r 0 n)));
      not-accepted = λ i z l. connects g x h 3 (code_of p) (stepped (in_state g 4) Failed) i.0 i.1 refl (failing g 3 (code_of p) v l (rw z));
      response = λ i s.
          connects g x h 1 1 (stepped (in_state g 1) (Next 2)) i.0.0 i.0.1 i.1
          (taking g 1 1 v (omega arith) refl ∙ first g ∙ here g 0 (Next 2) (Some 2) s);
      device = λ i s.
          connects g x h 3 (code_of p) (stepped (in_state g 2) (Next 6)) i.0.0 i.0.1 refl
          (taking g 3 (code_of p) v (omega arith) (rw i.1) ∙ second g ∙ here g 1 (Next 6) (Some 6) s);
      finish = λ i s.
          connects g x h 7 0 (stepped (in_state g 3) Ready) i.0.0 i.0.1 i.1
          (taking g 7 0 v (omega arith) refl ∙ third g ∙ here g 2 Ready None s);
      response-again = λ i l u.
          connects g x h 1 1 (stepped g (Again (Some 2))) i.0.0 i.0.1 i.1
          (taking g 1 1 v u refl ∙ first g ∙ later g 0 (Next 2) (Some 2) l);
      device-again = λ i l u.
          connects g x h 3 (code_of p) (stepped g (Again (Some 6))) i.0.0 i.0.1 refl
          (taking g 3 (code_of p) v u (rw i.1) ∙ second g ∙ later g 1 (Next 6) (Some 6) l);
      finish-again = λ i s.
          connects g x h 7 0 (stepped g (Again None)) i.0.0 i.0.1 i.1
          (taking g 7 0 v (omega arith) refl ∙ third g ∙ later g 2 Ready None (omega arith));
      device-early = λ i s.
          connects g x h 3 (code_of p) (refuse g 15) i.0.0 i.0.1 refl
          (taking g 3 (code_of p) v (omega arith) (rw i.1) ∙ second g ∙ early g 1 (Next 6) (Some 6) (omega arith));
      finish-early = λ i l.
          connects g x h 7 0 (refuse g 15) i.0.0 i.0.1 i.1
          (taking g 7 0 v (omega arith) refl ∙ third g ∙ early g 2 Ready None (omega arith));
      other-type = λ t i a b e. connects g x h t (code_of p) (refuse g 15) i.0 i.1 refl (other g t (code_of p) v a b e);
      other-kind = other-kind g x h;
    }
  where
    ended : 4 ≤ g.state → (t : Bool) → eqb h.content.header.kind 2 ≡ t → Does g x (refused 15) g
    ended l true e = connects g x h _ _ (refuse g 15) (eqb-true h.content.header.kind 2 e) refl refl (ends g _ _ _ l)
    ended l false e = other-kind g x h (eqb-false h.content.header.kind 2 e)

-- An answer of another kind.
apart : {A : Type 0} (a b : Said) → eqb a.kind b.kind ≡ false → a ≡ b → A
apart a b n e = absurd (eqb-false a.kind b.kind n (ap (λ (s : Said). s.kind) e))

pub gateway-leaves-alone : GatewayLeavesAlone
gateway-leaves-alone g x =
    step-has g
    (λ s. ((n : ℕ) → said s.answer ≡ refused n → s.gateway ≡ g) × ((d : Option ℕ) → said s.answer ≡ again d → s.gateway ≡ g))
    ((λ k e. refl), (λ d e. refl)) (λ d. ((λ k e. refl), (λ d e. refl)))
    ((λ n. apart _ _ refl), (λ d. apart _ _ refl)) (λ s. ((λ n. apart _ _ refl), (λ d. apart _ _ refl)))
    (λ s. ((λ n. apart _ _ refl), (λ d. apart _ _ refl))) (λ s. ((λ n. apart _ _ refl), (λ d. apart _ _ refl)))
    (λ n. ((λ k e. refl), (λ d e. refl))) x.message x.keys x.working x.verdict

pub gateway-keeps : GatewayKeeps
gateway-keeps g x =
    step-has g (λ s. (s.gateway.size ≡ g.size) × (s.gateway.session ≡ g.session)) (refl, refl) (λ d. (refl, refl)) (refl, refl)
    (λ s. (refl, refl)) (λ s. (refl, refl)) (λ s. (refl, refl)) (λ n. (refl, refl)) x.message x.keys x.working x.verdict

pub due-names : DueNames
due-names =
    record {
      first = refl;
      second = refl;
      third = refl;
      none = λ s l. rw (ne_eqb s 0 (λ e. omega arith), ne_eqb s 1 (λ e. omega arith), ne_eqb s 2 (λ e. omega arith));
      same = λ g x.
          step-has g (λ s. Same g s) (inl refl) (λ d. inl refl) (inr (inl refl)) (λ s. inr (inr (inr (inl refl)))) (λ s. inr (inr (inr (inr refl))))
          (λ s. inr (inr (inl refl))) (λ n. inl refl) x.message x.keys x.working x.verdict;
      named = λ g x t.
          step-has g (λ s. said s.answer ≡ next t → due_in s.gateway.state ≡ Some t) (apart _ _ refl) (λ d. apart _ _ refl)
          (apart _ _ refl) (λ s e. ap Some (ap (λ (s : Said). s.value) e)) (λ s e. ap Some (ap (λ (s : Said). s.value) e))
          (λ s. apart _ _ refl) (λ n. apart _ _ refl) x.message x.keys x.working x.verdict;
    }
  where
    Same : Gateway → Stepped → Type 0
    Same g s = (due_in s.gateway.state ≡ due_in g.state)
        ⊎ ((said s.answer ≡ now_failed) ⊎ ((said s.answer ≡ now_ready) ⊎ ((said s.answer ≡ next 2) ⊎ (said s.answer ≡ next 6))))
