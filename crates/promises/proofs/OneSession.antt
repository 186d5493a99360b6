-- SPDX-License-Identifier: MPL-2.0
-- Two sides begin steadily, and so are at every moment.
use Rattle.laws.proofs.Kit.{ℕ, ◌≡◌, refl, sym, ◌∙◌, ap, subst, false, List, eqb, eqb-true, eqb-false, inl, inr}
use Rattle.laws.proofs.Kit.{Bool, true, cond, ⊎_elim, arith}
use Rattle.laws.proofs.Cases.{on}
use Rattle.joining.specs.Cut.{bad_size}
use Rattle.hub.specs.declared.Connection.{Connection}
use Rattle.hub.specs.declared.Opened.{Opened}
use Rattle.hub.specs.Opening.{blank, opened}
use Rattle.gateway.specs.declared.Gateway.{Gateway}
use Rattle.gateway.specs.declared.Opened as gateway
use Rattle.gateway.specs.Opening as opening
use Rattle.gateway.specs.Answers.{due_in, due_number}
use Rattle.promises.specs.TwoSides.{Sides, Letter, IsRequest, Each, due_types, Moment, Begins, OneOf}
use Rattle.promises.specs.TwoSides.{OneSession}
use Rattle.promises.proofs.SidesSay.{request_type}
use Rattle.promises.proofs.HubHears.{HubAt, hub-went}
use Rattle.promises.proofs.GatewayHears.{GatewayAt, gateway-went}
use Rattle.promises.proofs.TwoSides.{Has, Requested, Steady, for-due, always}

-- What a call that refuses by one test gave, where it refused nothing.
not-refused : {A : Type 0} (number : A → ℕ) (t : Bool) (bad good given : A) → number bad ≡ 24 → number given ≡ 0 → cond t bad good ≡ given
    → (t ≡ false) × (good ≡ given)
not-refused number true bad good given b g e = absurd (omega (arith, sym b ∙ ap number e ∙ g))
not-refused number false bad good given b g e = (refl, e)

opened-hub : (F : ℕ) (c : Connection) → opened F ≡ record { refusal = 0; connection = c } → (bad_size F ≡ false) × (blank F ≡ c)
unfolding opened
opened-hub F c e =
    let k = not-refused (λ (o : Opened). o.refusal) (bad_size F) _ _ _ refl refl e in (k.0, ap (λ (o : Opened). o.connection) k.1)

opened-gateway : (F session : ℕ) (g : Gateway) → opening.opened F session ≡ record { refusal = 0; gateway = g }
    → (bad_size F ≡ false) × (opening.waiting F session ≡ g)
unfolding opening.opened
opened-gateway F session g e =
    let k = not-refused (λ (o : gateway.Opened). o.refusal) (bad_size F) _ _ _ refl refl e in (k.0, ap (λ (o : gateway.Opened). o.gateway) k.1)

module _ (s : Sides) (p : Moment s) (b : Begins s p) where
  -- Both wait, and the gateway's first request is written.
  abbrev FirstWritten : List (Letter s) → Type 0
  FirstWritten ls = ((l : Letter s) → OneOf l ls → Requested s 0 l) × Has s (IsRequest s 0) ls

  pub begins-steady : Steady s p
  begins-steady =
      let h = opened-hub s.hub_size p.hub.connection b.hub in
      let g = opened-gateway s.gateway_size s.session p.gateway b.gateway in
      let h0 : p.hub.connection.state ≡ 0 = sym (ap (λ (c : Connection). c.state) h.1) in
      let g0 : p.gateway.state ≡ 0 = sym (ap (λ (g : Gateway). g.state) g.1) in
      let written : FirstWritten p.requests =
      for-due s FirstWritten 0
      (λ few l is. (
        λ m. ⊎_elim (λ e. record { place = 0; few = few; low = omega arith; is = subst (IsRequest s 0) e is }) (λ o. absurd o),
        record { letter = l; one = inl refl; is = is },
      ))
      (λ full. absurd (omega arith)) (omega arith) p.requests
      (subst (λ (n : ℕ). Each (IsRequest s) (due_types (due_number (due_in n))) p.requests) g0 b.requests) in
      record {
        hub = subst (HubAt s) h.1
            (record {
              size = h.0;
              low = omega arith;
              session = λ o. absurd (omega arith);
              nonce = λ o. absurd (omega arith);
              x = λ o. absurd (omega arith);
              y = λ o. absurd (omega arith);
              digest = λ o. absurd (omega arith);
            });
        gateway = subst (GatewayAt s) g.1 (record { size = g.0; low = omega arith; session = refl });
        behind = omega arith;
        ahead = omega arith;
        requests = λ l o. subst (λ (n : ℕ). Requested s n l) (sym g0) (written.0 l o);
        replies = λ l o. absurd (subst (OneOf l) b.replies o);
        due = λ k few low. let z : k ≡ 0 = omega arith in subst (λ (k : ℕ). Has s (IsRequest s (request_type k)) p.requests) (sym z) written.1;
        named = λ k few low. absurd (omega arith);
      }

pub one-session : OneSession
one-session s n p q b r =
    let i = always s r (begins-steady s p b) in
    let c = q.hub.connection in
    record {
      one-session = on (eqb c.state 0) (λ e. inl (eqb-true c.state 0 e))
          (λ e. let z = eqb-false c.state 0 e in inr (i.hub.session (omega arith) ∙ sym i.gateway.session));
      keeps = i.gateway.session;
      no-stranger = λ o. (i.hub.nonce o, i.hub.x o, i.hub.y o);
      certified = i.hub.digest;
      going = (i.hub.low, i.gateway.low);
      hub-takes = λ l x one given.
          let r = i.requests l one in
          (hub-went s q.hub i.hub l x given r.is.0 r.place r.few (omega (arith, r.low, i.behind)) r.is.1).taken;
      gateway-takes = λ l x one given.
          let r = i.replies l one in
          (gateway-went s q.gateway i.gateway l x given r.is.0 r.place r.few (omega (arith, r.low, i.ahead)) r.is.1).taken;
    }
