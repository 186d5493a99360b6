-- SPDX-License-Identifier: MPL-2.0
-- At every moment of a run the hub has taken as many requests as the gateway has replies, or one more; all that either has written is of a place
-- that it has come to; and so neither hears anything out of order.
use Rattle.laws.proofs.Kit.{ℕ, ◌+◌, ◌≤◌, ◌<◌, ◌≡◌, refl, sym, subst, ◌-◌, List, eqb, eqb-true, eqb-false, [], ◌∷◌, ◌++◌, inl, inr}
use Rattle.laws.proofs.Kit.{⊎_elim, arith}
use mathlib.Core.Logic.{◌⊎◌}
use Rattle.laws.proofs.Order.{lt-or-ge}
use Rattle.laws.proofs.Cases.{on}
use Rattle.admission.specs.Calls.{Call}
use Rattle.hub.specs.Calls.{after, says}
use Rattle.gateway.specs.declared.Gateway.{Gateway}
use Rattle.gateway.specs.Answers.{due_in, due_number}
use Rattle.gateway.specs.Calls as client
use Rattle.promises.specs.TwoSides.{Sides, Letter, IsRequest, IsReply, Each, named, due_types, asked, Moment, OneOf, Given}
use Rattle.promises.specs.TwoSides.{Happens, hub-hears, gateway-hears, gateway-writes, Run, stays, goes}
use Rattle.promises.proofs.SidesSay.{request_type, reply_type, three}
use Rattle.promises.proofs.HubHears.{HubAt, hub-went}
use Rattle.promises.proofs.GatewayHears.{GatewayAt, gateway-went}

module _ (s : Sides) where
  -- A letter of a list with a property.
  pub record Has (P : Letter s → Type 0) (ls : List (Letter s)) : Type 0 where
    pub letter : Letter s
    pub one : OneOf letter ls
    pub is : P letter

  -- The request at a place that the gateway's state g has come to, and the reply at a place that the hub's state h has gone past.
  pub record Requested (g : ℕ) (l : Letter s) : Type 0 where
    pub place : ℕ
    pub few : place < 3
    pub low : place ≤ g
    pub is : IsRequest s (request_type place) l

  pub record Answered (h : ℕ) (l : Letter s) : Type 0 where
    pub place : ℕ
    pub few : place < 3
    pub low : place < h
    pub is : IsReply s s.session (reply_type place) l

  -- What holds at every moment.
  pub record Steady (p : Moment s) : Type 0 where
    pub hub : HubAt s p.hub.connection
    pub gateway : GatewayAt s p.gateway
    pub behind : p.gateway.state ≤ p.hub.connection.state
    pub ahead : p.hub.connection.state ≤ p.gateway.state + 1
    pub requests : (l : Letter s) → OneOf l p.requests → Requested p.gateway.state l
    pub replies : (l : Letter s) → OneOf l p.replies → Answered p.hub.connection.state l
    pub due : (k : ℕ) → k < 3 → k ≤ p.gateway.state → Has (IsRequest s (request_type k)) p.requests
    pub named : (k : ℕ) → k < 3 → k < p.hub.connection.state → Has (IsReply s s.session (reply_type k)) p.replies

  -- Letters for one type are one letter, and for none none.
  for-one : (is : ℕ → Letter s → Type 0) (G : List (Letter s) → Type 0) (t : ℕ) → ((l : Letter s) → is t l → G (l ∷ []))
      → (new : List (Letter s)) → Each is (t ∷ []) new → G new
  for-one is G t f [] e = absurd e
  for-one is G t f (l ∷ []) e = f l e.0
  for-one is G t f (l ∷ m ∷ ls) e = absurd e.1

  for-none : (is : ℕ → Letter s → Type 0) (new : List (Letter s)) → Each is [] new → new ≡ []
  for-none is [] e = refl
  for-none is (l ∷ ls) e = absurd e

  -- A letter more.
  older : {P : Letter s → Type 0} {ls : List (Letter s)} (m : Letter s) → Has P ls → Has P (m ∷ ls)
  older m h = record { letter = h.letter; one = inr h.one; is = h.is }

  -- The hub hears a letter: it goes on or stays, and its new letter is the reply at the letter's place.
  pub hub-steady : (p : Moment s) → Steady p → (l : Letter s) (x : Call) (new : List (Letter s)) → OneOf l p.requests → Given s l x
      → Each (IsReply s (after p.hub x).connection.session) (named (says p.hub x)) new
      → Steady (record { hub = after p.hub x; gateway = p.gateway; requests = p.requests; replies = new ++ p.replies })
  hub-steady p i l x new one given each =
      let r = i.requests l one in
      let k = r.place in
      let w = hub-went s p.hub i.hub l x given r.is.0 k r.few (omega (arith, r.low, i.behind)) r.is.1 in
      let own = w.at.session (omega (arith, w.past.past)) in
      let new_is : Each (IsReply s s.session) (reply_type k ∷ []) new =
      subst (λ (t : ℕ). Each (IsReply s t) (reply_type k ∷ []) new) own
      (subst (λ (ts : List ℕ). Each (IsReply s (after p.hub x).connection.session) ts new) w.told each) in
      for-one (IsReply s s.session)
      (λ ls. Steady (record { hub = after p.hub x; gateway = p.gateway; requests = p.requests; replies = ls ++ p.replies })) (reply_type k)
      (λ m is.
      record {
        hub = w.at;
        gateway = i.gateway;
        behind = omega (arith, i.behind, w.past.up);
        ahead = w.past.bound _ i.ahead (omega (arith, r.low));
        requests = i.requests;
        replies = λ n.
            ⊎_elim (λ e. record { place = k; few = r.few; low = w.past.past; is = subst (IsReply s s.session (reply_type k)) e is })
            (λ o.
            let q = i.replies n o in
            record { place = q.place; few = q.few; low = omega (arith, q.low, w.past.up); is = q.is });
        due = i.due;
        named = λ j few low.
            on (eqb j k)
            (λ e. record { letter = m; one = inl refl; is = subst (λ (k : ℕ). IsReply s s.session (reply_type k) m) (sym (eqb-true j k e)) is })
            (λ e.
            let n = eqb-false j k e in
            ⊎_elim (λ h. older m (i.named j few h))
            (λ (h : p.hub.connection.state ≤ j).
            absurd (omega (arith, low, w.past.bound j h (omega (arith, r.low, i.behind))))) (lt-or-ge j p.hub.connection.state));
      })
      new new_is

  -- Letters for the request at place j, if there is one.
  pub for-due : (G : List (Letter s) → Type 0) (j : ℕ) → (j < 3 → (l : Letter s) → IsRequest s (request_type j) l → G (l ∷ []))
      → (3 ≤ j → G []) → j ≤ 3 → (new : List (Letter s)) → Each (IsRequest s) (due_types (due_number (due_in j))) new → G new
  for-due G j f g low new =
      on (eqb j 3)
      (λ e.
      let t = eqb-true j 3 e in
      subst (λ (j : ℕ). Each (IsRequest s) (due_types (due_number (due_in j))) new → G new) (sym t)
      (λ each. subst G (sym (for-none (IsRequest s) new each)) (g (omega arith))))
      (λ e.
      let n = eqb-false j 3 e in
      three
      (λ k.
      (k < 3 → (l : Letter s) → IsRequest s (request_type k) l → G (l ∷ [])) → Each (IsRequest s) (due_types (due_number (due_in k))) new → G new)
      (λ f. for-one (IsRequest s) G 0 (f (omega arith)) new) (λ f. for-one (IsRequest s) G 2 (f (omega arith)) new)
      (λ f. for-one (IsRequest s) G 6 (f (omega arith)) new) j (omega arith) f)

  -- The gateway's side writes the request at a place j that it has come to, if there is one; all requests at places up to its state are then written.
  more-requests : (p : Moment s) → Steady p → (g : Gateway) → GatewayAt s g → p.gateway.state ≤ g.state → g.state ≤ p.hub.connection.state
      → (j : ℕ) → j ≤ g.state → ((i : ℕ) → i < 3 → i ≤ g.state → (i ≡ j) ⊎ (i ≤ p.gateway.state))
      → (new : List (Letter s)) → Each (IsRequest s) (due_types (due_number (due_in j))) new
      → Steady (record { hub = p.hub; gateway = g; requests = new ++ p.requests; replies = p.replies })
  more-requests p i g at up behind j come covers =
      let still : (m : Letter s) → OneOf m p.requests → Requested g.state m =
      λ m o.
      let q = i.requests m o in
      record { place = q.place; few = q.few; low = omega (arith, q.low); is = q.is } in
      let with-new : (ls : List (Letter s)) → ((m : Letter s) → OneOf m (ls ++ p.requests) → Requested g.state m)
      → ((k : ℕ) → k < 3 → k ≤ g.state → Has (IsRequest s (request_type k)) (ls ++ p.requests))
      → Steady (record { hub = p.hub; gateway = g; requests = ls ++ p.requests; replies = p.replies }) =
      λ ls requests due.
      record {
        hub = i.hub;
        gateway = at;
        behind = behind;
        ahead = omega (arith, i.ahead);
        requests = requests;
        replies = i.replies;
        due = due;
        named = i.named;
      } in
      for-due (λ ls. Steady (record { hub = p.hub; gateway = g; requests = ls ++ p.requests; replies = p.replies })) j
      (λ few m is.
      with-new (m ∷ []) (λ n. ⊎_elim (λ e. record { place = j; few = few; low = come; is = subst (IsRequest s (request_type j)) e is }) (still n))
      (λ k small low.
      ⊎_elim (λ e. record { letter = m; one = inl refl; is = subst (λ (k : ℕ). IsRequest s (request_type k) m) (sym e) is })
      (λ h. older m (i.due k small h)) (covers k small low)))
      (λ full.
      with-new [] still
      (λ k small low. ⊎_elim (λ e. absurd (omega arith)) (λ h. i.due k small h) (covers k small low)))
      (omega (arith, at.low))

  -- The gateway hears a letter: it goes on or stays, and its new letter is the request at the place after the letter's, if there is one.
  pub gateway-steady : (p : Moment s) → Steady p → (l : Letter s) (x : Call) (new : List (Letter s)) → OneOf l p.replies → Given s l x
      → Each (IsRequest s) (asked (client.says p.gateway x)) new
      → Steady (record { hub = p.hub; gateway = client.after p.gateway x; requests = new ++ p.requests; replies = p.replies })
  gateway-steady p i l x new one given each =
      let r = i.replies l one in
      let k = r.place in
      let come : k ≤ p.gateway.state = omega (arith, r.low, i.ahead) in
      let w = gateway-went s p.gateway i.gateway l x given r.is.0 k r.few come r.is.1 in
      more-requests p i (client.after p.gateway x) w.at w.past.up (w.past.bound _ i.behind r.low) (k + 1)
      (omega (arith, w.past.past))
      (λ j few low.
      on (eqb j (k + 1)) (λ e. inl (eqb-true j (k + 1) e))
      (λ e.
      let n = eqb-false j (k + 1) e in
      ⊎_elim (λ (h : p.gateway.state < j). absurd (omega (arith, low, w.past.bound (j - 1) (omega arith) (omega arith))))
      (λ (h : j ≤ p.gateway.state). inr h) (lt-or-ge p.gateway.state j)))
      new (subst (λ (ts : List ℕ). Each (IsRequest s) ts new) w.told each)

  -- It writes the request that is due once more.
  due-steady : (p : Moment s) → Steady p → (new : List (Letter s)) → Each (IsRequest s) (due_types (due_number (due_in p.gateway.state))) new
      → Steady (record { hub = p.hub; gateway = p.gateway; requests = new ++ p.requests; replies = p.replies })
  due-steady p i new each =
      more-requests p i p.gateway i.gateway (omega arith) i.behind p.gateway.state (omega arith) (λ j few low. inr low) new each

  -- So whatever happens keeps it.
  steady : {p q : Moment s} → Happens s p q → Steady p → Steady q
  steady {p} (hub-hears l x new one given each) i = hub-steady p i l x new one given each
  steady {p} (gateway-hears l x new one given each) i = gateway-steady p i l x new one given each
  steady {p} (gateway-writes new each) i = due-steady p i new each

  pub always : {n : ℕ} {p q : Moment s} → Run s n p q → Steady p → Steady q
  always stays i = i
  always (goes e r) i = always r (steady e i)
