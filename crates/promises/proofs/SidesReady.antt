-- SPDX-License-Identifier: MPL-2.0
-- Losses cannot wedge two sides: whichever of them is behind hears the letter at its place, which the other has written, and the letters that it then
-- writes can be written.
use Rattle.laws.proofs.Kit.{ℕ, zero, suc, ◌+◌, ◌≤◌, ◌<◌, ◌≡◌, refl, sym, ◌∙◌, ap, subst, List, [], ◌∷◌, ◌++◌, length, replicate}
use Rattle.laws.proofs.Kit.{length-replicate, ⊎_elim, arith}
use Rattle.laws.proofs.Order.{lt-or-ge}
use Rattle.seal.specs.Padding.{sealed_size}
use Rattle.admission.specs.Calls.{Call}
use Rattle.hub.specs.Opening.{blank, opened}
use Rattle.hub.specs.Calls.{Standing, after, says}
use Rattle.gateway.specs.declared.Gateway.{Gateway}
use Rattle.gateway.specs.Opening as opening
use Rattle.gateway.specs.Answers.{due_in, due_number}
use Rattle.gateway.specs.Calls as client
use Rattle.promises.specs.TwoSides.{Sides, Letter}
use Rattle.promises.specs.TwoSides.{IsRequest, IsReply, Each, named, due_types, asked, Moment, Given}
use Rattle.promises.specs.TwoSides.{Happens, hub-hears, gateway-hears, stays, goes, Writable, EndsReady, NeverWedged, CanBegin}
use Rattle.promises.proofs.SidesSay.{three}
use Rattle.promises.proofs.HubHears.{hub-went}
use Rattle.promises.proofs.GatewayHears.{gateway-went}
use Rattle.promises.proofs.TwoSides.{Steady, hub-steady, gateway-steady, always}
use Rattle.promises.proofs.OneSession.{begins-steady}
use Rattle.promises.proofs.SidesWrite.{request, reply}

module _ (s : Sides) (can : Writable s) where
  -- A call that gives a letter to a step.
  abbrev call : Letter s → Call
  call l = record { message = l.message; keys = s.keys; working = replicate (sealed_size (length l.payload)) 0; verdict = 1 }

  given : (l : Letter s) → Given s l (call l)
  given l =
      record {
        message = refl;
        room = λ e. let n = sealed_size (length l.payload) in omega (arith, length-replicate {A = ℕ} n 0);
        keys = λ e. refl;
        verdict = omega arith;
        accepted = λ e. refl;
      }

  -- One more, before it.
  before : {n : ℕ} {p q : Moment s} → Happens s p q → EndsReady s n q → EndsReady s (suc n) p
  before e w =
      record { events = w.events + 1; few = omega (arith, w.few); last = w.last; run = goes e w.run; ready = w.ready }

  -- The hub hears the request at its place: it goes on by one, and its reply is written.
  pub record HubGoes (p : Moment s) : Type 0 where
    pub next : Moment s
    pub event : Happens s p next
    pub steady : Steady s next
    pub up : next.hub.connection.state ≡ p.hub.connection.state + 1
    pub same : next.gateway ≡ p.gateway

  hub-goes : (p : Moment s) → Steady s p → p.hub.connection.state ≡ p.gateway.state → p.gateway.state < 3 → HubGoes p
  hub-goes p i e few =
      let k = p.gateway.state in
      let h = i.due k few (omega arith) in
      let l = h.letter in
      let x = call l in
      let w = hub-went s p.hub i.hub l x (given l) h.is.0 k few (omega arith) h.is.1 in
      let r = reply s can k few in
      let own = w.at.session (omega (arith, w.past.past)) in
      let new : Each (IsReply s (after p.hub x).connection.session) (named (says p.hub x)) (r.letter ∷ []) =
      subst (λ (ts : List ℕ). Each (IsReply s (after p.hub x).connection.session) ts (r.letter ∷ [])) (sym w.told)
      ((r.is.0 ∙ sym own, r.is.1), tt) in
      record {
        next = record { hub = after p.hub x; gateway = p.gateway; requests = p.requests; replies = r.letter ∷ p.replies };
        event = hub-hears l x (r.letter ∷ []) h.one (given l) new;
        steady = hub-steady s p i l x (r.letter ∷ []) h.one (given l) new;
        up = let b = w.past.bound (k + 1) (omega arith) (omega arith) in omega (arith, w.past.past);
        same = refl;
      }

  -- The gateway hears the reply at its place: it goes on by one, and the request that follows is written.
  pub record GatewayGoes (p : Moment s) : Type 0 where
    pub next : Moment s
    pub event : Happens s p next
    pub steady : Steady s next
    pub up : next.gateway.state ≡ p.gateway.state + 1
    pub same : next.hub ≡ p.hub

  -- Letters for the request at a place, if there is one.
  pub record Requests (k : ℕ) : Type 0 where
    pub letters : List (Letter s)
    pub each : Each (IsRequest s) (due_types (due_number (due_in k))) letters

  requests : (k : ℕ) → k < 3 → Requests (k + 1)
  requests =
      let a = request s can 1 (omega arith) in
      let b = request s can 2 (omega arith) in
      three (λ k. Requests (k + 1)) (record { letters = a.letter ∷ []; each = (a.is, tt) })
      (record { letters = b.letter ∷ []; each = (b.is, tt) }) (record { letters = []; each = tt })

  gateway-goes : (p : Moment s) → Steady s p → p.gateway.state < p.hub.connection.state → GatewayGoes p
  gateway-goes p i less =
      let k = p.gateway.state in
      let few : k < 3 = omega (arith, i.hub.low) in
      let h = i.named k few less in
      let l = h.letter in
      let x = call l in
      let w = gateway-went s p.gateway i.gateway l x (given l) h.is.0 k few (omega arith) h.is.1 in
      let r = requests k few in
      let new : Each (IsRequest s) (asked (client.says p.gateway x)) r.letters =
      subst (λ (ts : List ℕ). Each (IsRequest s) ts r.letters) (sym w.told) r.each in
      record {
        next = record { hub = p.hub; gateway = client.after p.gateway x; requests = r.letters ++ p.requests; replies = p.replies };
        event = gateway-hears l x r.letters h.one (given l) new;
        steady = gateway-steady s p i l x r.letters h.one (given l) new;
        up = let b = w.past.bound (k + 1) (omega arith) (omega arith) in omega (arith, w.past.past);
        same = refl;
      }

  -- As many events as are missing.
  ready : (n : ℕ) (p : Moment s) → Steady s p → 6 ≤ n + p.hub.connection.state + p.gateway.state → EndsReady s n p
  ready zero p i m =
      let h = i.hub.low in
      let g = i.gateway.low in
      record { events = 0; few = omega arith; last = p; run = stays; ready = (omega arith, omega arith) }
  ready (suc n) p i m =
      ⊎_elim
      (λ (less : p.gateway.state < p.hub.connection.state).
      let g = gateway-goes p i less in
      before g.event
      (ready n g.next g.steady (let e = ap (λ (h : Standing). h.connection.state) g.same in omega (arith, g.up))))
      (λ (least : p.hub.connection.state ≤ p.gateway.state).
      let e : p.hub.connection.state ≡ p.gateway.state = omega (arith, i.behind) in
      ⊎_elim
      (λ (few : p.gateway.state < 3).
      let h = hub-goes p i e few in
      before h.event (ready n h.next h.steady (let e = ap (λ (g : Gateway). g.state) h.same in omega (arith, h.up))))
      (λ (full : 3 ≤ p.gateway.state).
      record { events = 0; few = omega arith; last = p; run = stays; ready = (omega (arith, i.gateway.low), omega (arith, i.gateway.low)) })
      (lt-or-ge p.gateway.state 3)) (lt-or-ge p.gateway.state p.hub.connection.state)

pub never-wedged : NeverWedged
never-wedged s w n p q b r = ready s w _ q (always s r (begins-steady s p b)) (omega arith)

pub can-begin : CanBegin
unfolding opened opening.opened
can-begin s w h g report =
    let r = request s w 0 (omega arith) in
    record {
      moment = record {
        hub = record { connection = blank s.hub_size; report = report };
        gateway = opening.waiting s.gateway_size s.session;
        requests = r.letter ∷ [];
        replies = [];
      };
      begins = record { hub = rw h; gateway = rw g; requests = (r.is, tt); replies = refl };
      lent = refl;
    }
