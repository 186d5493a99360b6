-- SPDX-License-Identifier: MPL-2.0
-- What the hub does with a letter of the gateway's side, at any place that it has come to.
use Rattle.laws.proofs.Kit.{ℕ, ◌≤◌, ◌<◌, ◌≡◌, refl, sym, ◌∙◌, ap, false, and-false, [], ◌∷◌, eqb, eqb-true, eqb-false, eq-eqb}
use Rattle.laws.proofs.Kit.{not, subst, inl, arith}
use Rattle.laws.proofs.Cases.{on}
use Rattle.payloads.specs.declared.reading.Request.{Request}
use Rattle.sha256.specs.Digests.{digest}
use Rattle.joining.specs.declared.answer.Said.{Said}
use Rattle.joining.specs.Cut.{bad_size}
use Rattle.admission.specs.Calls.{Call}
use Rattle.hub.specs.declared.Connection.{Connection}
use Rattle.hub.specs.Hear.{is_foreign}
use Rattle.hub.specs.Calls.{Standing, after, says}
use Rattle.promises.specs.HostStates.{Does, HostStates}
use Rattle.promises.specs.TwoSides.{Sides, Letter, Asks}
use Rattle.promises.specs.TwoSides.{named, Given}
use Rattle.promises.proofs.HostSteps.{by-host-states}
use Rattle.promises.proofs.SidesSay.{request_type, reply_type, three, Asked, asks, Past, onward, stood, content}

-- A hub that knows the gateway, as far as it has come.
pub record HubAt (s : Sides) (c : Connection) : Type 0 where
  pub size : bad_size c.size ≡ false
  pub low : c.state ≤ 3
  pub session : 1 ≤ c.state → c.session ≡ s.session
  pub nonce : 1 ≤ c.state → c.nonce ≡ s.exchange.nonce
  pub x : 1 ≤ c.state → c.x ≡ s.exchange.x
  pub y : 1 ≤ c.state → c.y ≡ s.exchange.y
  pub digest : 2 ≤ c.state → c.digest ≡ digest s.certificate

-- What the hub does with the request at place k.
pub record HubWent (s : Sides) (k : ℕ) (p : Standing) (x : Call) : Type 0 where
  pub at : HubAt s (after p x).connection
  pub past : Past k p.connection.state (after p x).connection.state
  pub told : named (says p x) ≡ reply_type k ∷ []
  pub taken : (says p x).refusal ≡ 0

module _ (s : Sides) (p : Standing) (a : HubAt s p.connection) (l : Letter s) (x : Call) (g : Given s l x)
    (session : l.header.session ≡ s.session) where
  -- 16 does not apply.
  own : is_foreign p.connection l.header ≡ false
  own =
      on (eqb p.connection.state 0) (λ e. rw e)
      (λ e.
      let n = eqb-false p.connection.state 0 e in
      let q = session ∙ sym (a.session (omega arith)) in
      rw (e, eq-eqb l.header.session p.connection.session q) (and-false (not (eqb l.header.kind 1))))

  abbrev rows : HostStates p x (content s l x g)
  rows = by-host-states p x (record { content = content s l x g; verdict = g.verdict; size = a.size; own = own })

  went : (k : ℕ) (said : Said) (c : Connection) → Does p x said c → HubAt s c → Past k p.connection.state c.state
      → named said ≡ reply_type k ∷ [] → said.refusal ≡ 0 → HubWent s k p x
  went k said c d at past told taken =
      record {
        at = subst (HubAt s) (sym d.1) at;
        past = subst (λ (c : Connection). Past k p.connection.state c.state) (sym d.1) past;
        told = ap named d.0 ∙ told;
        taken = ap (λ (a : Said). a.refusal) d.0 ∙ taken;
      }

  -- A Connection Request: the hub remembers it, or knows it.
  requests : Asked s 0 l.payload → HubWent s 0 p x
  requests f =
      let c = p.connection in
      let r = f.request refl in
      on (eqb c.state 0)
      (λ e.
      let z = eqb-true c.state 0 e in
      went 0 _ _ (rows.request (l.kind, f.is) z)
      (record {
        size = a.size;
        low = omega arith;
        session = λ o. session;
        nonce = λ o. ap (λ (r : Request). r.nonce) r;
        x = λ o. ap (λ (r : Request). r.x) r;
        y = λ o. ap (λ (r : Request). r.y) r;
        digest = λ o. absurd (omega arith);
      })
      (onward 0 c.state 1 z refl) refl refl)
      (λ e.
      let n = eqb-false c.state 0 e in
      let o : 1 ≤ c.state = omega arith in
      went 0 _ c
      (rows.request-again (l.kind, f.is) o a.low (a.nonce o ∙ sym (ap (λ (r : Request). r.nonce) r))
      (a.x o ∙ sym (ap (λ (r : Request). r.x) r)) (a.y o ∙ sym (ap (λ (r : Request). r.y) r)))
      a (stood 0 c.state c.state o refl) refl refl)

  -- A Device Authentication Request, once the hub has come so far: it remembers the certificate's digest, or knows it.
  shows : 1 ≤ p.connection.state → Asked s 2 l.payload → HubWent s 1 p x
  shows o f =
      let c = p.connection in
      let d = ap digest (f.shown refl) in
      on (eqb c.state 1)
      (λ e.
      let z = eqb-true c.state 1 e in
      went 1 _ _ (rows.passed (l.kind, f.is) z (g.accepted (inl f.is)))
      (record {
        size = a.size;
        low = omega arith;
        session = λ u. a.session o;
        nonce = λ u. a.nonce o;
        x = λ u. a.x o;
        y = λ u. a.y o;
        digest = λ u. d;
      })
      (onward 1 c.state 2 z refl) refl refl)
      (λ e.
      let n = eqb-false c.state 1 e in
      let u : 2 ≤ c.state = omega arith in
      went 1 _ c (rows.passed-again (l.kind, f.is) u a.low (a.digest u ∙ sym d)) a (stood 1 c.state c.state u refl) refl refl)

  -- An Authentication Done Request, once the hub has come so far.
  finishes : 2 ≤ p.connection.state → Asked s 6 l.payload → HubWent s 2 p x
  finishes o f =
      let c = p.connection in
      let i : 1 ≤ c.state = omega arith in
      on (eqb c.state 2)
      (λ e.
      let z = eqb-true c.state 2 e in
      went 2 _ _ (rows.done (l.kind, f.is) z)
      (record {
        size = a.size;
        low = omega arith;
        session = λ u. a.session i;
        nonce = λ u. a.nonce i;
        x = λ u. a.x i;
        y = λ u. a.y i;
        digest = λ u. a.digest o;
      })
      (onward 2 c.state 3 z refl) refl refl)
      (λ e.
      let n = eqb-false c.state 2 e in
      let t : c.state ≡ 3 = omega (arith, a.low) in
      went 2 _ c (rows.done-again (l.kind, f.is) t) a (stood 2 c.state c.state (omega arith) refl) refl refl)

  -- At any place that the hub has come to.
  pub hub-went : (k : ℕ) → k < 3 → k ≤ p.connection.state → Asks s (request_type k) l.payload → HubWent s k p x
  hub-went =
      three (λ k. k ≤ p.connection.state → Asks s (request_type k) l.payload → HubWent s k p x)
      (λ o q. requests (asks s 0 l.payload q)) (λ o q. shows o (asks s 2 l.payload q)) (λ o q. finishes o (asks s 6 l.payload q))
