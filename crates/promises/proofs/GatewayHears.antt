-- SPDX-License-Identifier: MPL-2.0
-- What the gateway does with a letter of the hub's side, at any place that it has come to.
use Rattle.laws.proofs.Kit.{ℕ, ◌+◌, ◌≤◌, ◌<◌, ◌≡◌, refl, sym, ◌∙◌, ap, false, and-false, eqb, eqb-true, eqb-false, eq-eqb}
use Rattle.laws.proofs.Kit.{not, subst, inr, arith}
use Rattle.laws.proofs.Cases.{on}
use Rattle.joining.specs.declared.answer.Said.{Said}
use Rattle.joining.specs.Cut.{bad_size}
use Rattle.admission.specs.Admission.{another_session}
use Rattle.admission.specs.Calls.{Call}
use Rattle.gateway.specs.declared.Gateway.{Gateway}
use Rattle.gateway.specs.Answers.{due_in, due_number}
use Rattle.gateway.specs.Client.{in_state}
use Rattle.gateway.specs.Calls as gateway
use Rattle.promises.specs.Gateway as client
use Rattle.promises.specs.TwoSides.{Sides, Letter, Replies}
use Rattle.promises.specs.TwoSides.{due_types, asked, Given}
use Rattle.promises.proofs.GatewaySteps.{by-gateway-states}
use Rattle.promises.proofs.SidesSay.{reply_type, three, Replied, replies, Past, onward, stood, content}

-- A gateway that goes on.
pub record GatewayAt (s : Sides) (g : Gateway) : Type 0 where
  pub size : bad_size g.size ≡ false
  pub low : g.state ≤ 3
  pub session : g.session ≡ s.session

-- What the gateway does with the reply at place k: what it then names is the request at the place after it, if there is one.
pub record GatewayWent (s : Sides) (k : ℕ) (g : Gateway) (x : Call) : Type 0 where
  pub at : GatewayAt s (gateway.after g x)
  pub past : Past k g.state (gateway.after g x).state
  pub told : asked (gateway.says g x) ≡ due_types (due_number (due_in (k + 1)))
  pub taken : (gateway.says g x).refusal ≡ 0

module _ (s : Sides) (d : Gateway) (a : GatewayAt s d) (l : Letter s) (x : Call) (g : Given s l x)
    (session : l.header.session ≡ s.session) where
  near : another_session l.header d.session ≡ false
  near = rw (eq-eqb l.header.session d.session (session ∙ sym a.session)) (and-false (not (eqb l.header.kind 1)))

  abbrev lines : client.GatewayStates d x (content s l x g)
  lines = by-gateway-states d x (record { content = content s l x g; verdict = g.verdict; size = a.size; own = near })

  goes : (k : ℕ) (said : Said) (e : Gateway) → client.Does d x said e → GatewayAt s e → Past k d.state e.state
      → asked said ≡ due_types (due_number (due_in (k + 1))) → said.refusal ≡ 0 → GatewayWent s k d x
  goes k said e q at past told taken =
      record {
        at = subst (GatewayAt s) (sym q.1) at;
        past = subst (λ (e : Gateway). Past k d.state e.state) (sym q.1) past;
        told = ap asked q.0 ∙ told;
        taken = ap (λ (a : Said). a.refusal) q.0 ∙ taken;
      }

  -- It goes on by one.
  next : (n : ℕ) → n ≤ 3 → GatewayAt s (in_state d n)
  next n low = record { size = a.size; low = low; session = a.session }

  responds : Replied 1 l.payload → GatewayWent s 0 d x
  responds f =
      let i : client.Pending (content s l x g) = ((l.kind, f.is), f.pending refl) in
      on (eqb d.state 0)
      (λ e. let z = eqb-true d.state 0 e in goes 0 _ _ (lines.response i z) (next 1 (omega arith)) (onward 0 d.state 1 z refl) refl refl)
      (λ e.
      let n = eqb-false d.state 0 e in
      let o : 1 ≤ d.state = omega arith in
      goes 0 _ d (lines.response-again i o a.low) a (stood 0 d.state d.state o refl) refl refl)

  accepts : 1 ≤ d.state → Replied 3 l.payload → GatewayWent s 1 d x
  accepts o f =
      let i : client.Accepted (content s l x g) = ((l.kind, f.is), g.accepted (inr f.is)) in
      on (eqb d.state 1)
      (λ e. let z = eqb-true d.state 1 e in goes 1 _ _ (lines.device i z) (next 2 (omega arith)) (onward 1 d.state 2 z refl) refl refl)
      (λ e.
      let n = eqb-false d.state 1 e in
      let u : 2 ≤ d.state = omega arith in
      goes 1 _ d (lines.device-again i u a.low) a (stood 1 d.state d.state u refl) refl refl)

  ends : 2 ≤ d.state → Replied 7 l.payload → GatewayWent s 2 d x
  ends o f =
      let i : client.Done (content s l x g) = ((l.kind, f.is), f.success refl) in
      on (eqb d.state 2)
      (λ e. let z = eqb-true d.state 2 e in goes 2 _ _ (lines.finish i z) (next 3 (omega arith)) (onward 2 d.state 3 z refl) refl refl)
      (λ e.
      let n = eqb-false d.state 2 e in
      let t : d.state ≡ 3 = omega (arith, a.low) in
      goes 2 _ d (lines.finish-again i t) a (stood 2 d.state d.state (omega arith) refl) refl refl)

  -- At any place that the gateway has come to.
  pub gateway-went : (k : ℕ) → k < 3 → k ≤ d.state → Replies (reply_type k) l.payload → GatewayWent s k d x
  gateway-went =
      three (λ k. k ≤ d.state → Replies (reply_type k) l.payload → GatewayWent s k d x)
      (λ o q. responds (replies 1 l.payload q)) (λ o q. accepts o (replies 3 l.payload q)) (λ o q. ends o (replies 7 l.payload q))
