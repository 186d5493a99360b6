-- SPDX-License-Identifier: MPL-2.0
-- What a repeat is compared with: a message that was answered with a reply is known to the connection since, and a known message gets Again.
use Rattle.laws.proofs.Kit.{ℕ, ◌≤◌, ◌≡◌, refl, sym, ◌∙◌, true, false, List, eq-eqb, ne_eqb, eqb-true, le-leb, not-false, arith}
use Rattle.laws.specs.Same.{same}
use Rattle.laws.proofs.Sames.{same_refl}
use Rattle.payloads.specs.Reading.{connect_type, read_request}
use Rattle.wire.specs.declared.header.Header.{Header}
use Rattle.sha256.specs.Digests.{digest}
use Rattle.joining.specs.Cut.{bad_size}
use Rattle.joining.specs.Join.{join}
use Rattle.hub.specs.declared.Connection.{Connection}
use Rattle.hub.specs.declared.Stepped.{Stepped}
use Rattle.hub.specs.declared.Answer.TheVariants.{Reply, Again}
use Rattle.hub.specs.Host.{host, stepped, requested, with_digest_and_state, knows}
use Rattle.hub.specs.Hear.{certificate, connect, piece_in, is_foreign, hear}
use Rattle.hub.proofs.HostWays.{connect-cases}
use Rattle.hub.proofs.StepCases.{hear-cases}
use Rattle.promises.specs.Enrolment.{SameStep}
use Rattle.promises.proofs.Apart.{apart, arrival-apart}
use Rattle.promises.proofs.StateKept.{Keeps}

-- What a repeat is compared with is what the connection remembers.
pub data Compared (c : Connection) (p : List ℕ) : ℕ → Type 0 where
  request : connect_type p ≡ 0 → knows c (read_request p) ≡ true → Compared c p 1
  device : connect_type p ≡ 2 → 2 ≤ c.state → same c.digest (digest (certificate p)) ≡ true → Compared c p 3
  finish : connect_type p ≡ 6 → c.state ≡ 3 → Compared c p 7

pub record Known (c : Connection) (h : Header) (p : List ℕ) (t : ℕ) : Type 0 where
  pub sized : bad_size c.size ≡ false
  pub kind : h.kind ≡ 2
  pub session : h.session ≡ c.session
  pub low : 1 ≤ c.state
  pub high : c.state ≤ 3
  pub compared : Compared c p t

still-compared : (c d : Connection) (p : List ℕ) (t : ℕ) → Keeps c d → Compared c p t → Compared d p t
still-compared c d p _ k (request e w) = request e (rw (k.nonce, k.x, k.y) w)
still-compared c d p _ k (device e l w) = device e (omega (arith, k.up)) (rw (k.digest l) w)
still-compared c d p _ k (finish e s) = finish e (omega (arith, k.up, k.top))

pub still-known : (c d : Connection) (h : Header) (p : List ℕ) (t : ℕ) → Keeps c d → Known c h p t → Known d h p t
still-known c d h p t k w =
    record {
      sized = rw k.size w.sized;
      kind = w.kind;
      session = w.session ∙ sym k.session;
      low = omega (arith, k.up, w.low);
      high = k.top;
      compared = still-compared c d p t k w.compared;
    }

-- Who asks for the same step is compared with the same.
same-compared : (c : Connection) (p q : List ℕ) (t : ℕ) → SameStep p q → Compared c p t → Compared c q t
same-compared c p q _ s (request e w) = request (s.type ∙ e) (rw (s.nonce e, s.x e, s.y e) w)
same-compared c p q _ s (device e l w) = device (s.type ∙ e) l (rw (s.digested e) w)
same-compared c p q _ s (finish e l) = finish (s.type ∙ e) l

pub same_known : (c : Connection) (h g : Header) (p q : List ℕ) (t : ℕ) → g.kind ≡ 2 → g.session ≡ h.session → SameStep p q → Known c h p t
    → Known c g q t
same_known c h g p q t k s a w =
    record {
      sized = w.sized;
      kind = k;
      session = s ∙ w.session;
      low = w.low;
      high = w.high;
      compared = same-compared c p q t a w.compared;
    }

-- A known message gets Again.
module _ (c : Connection) (h : Header) (p report : List ℕ) (v : ℕ) where
  connect-again : (t : ℕ) → 1 ≤ c.state → c.state ≤ 3 → Compared c p t → connect c h.session p v ≡ stepped c (Again t)
  unfolding connect host
  connect-again _ l u (request e w) =
      rw (e, ne_eqb c.state 0 (λ z. omega arith), le-leb 1 c.state l, le-leb c.state 3 u, w)
  connect-again _ l u (device e k w) =
      rw (e, ne_eqb c.state 1 (λ z. omega arith), le-leb 2 c.state k, le-leb c.state 3 u, w)
  connect-again _ l u (finish e s) = rw (e, s)

  pub again : (t : ℕ) → Known c h p t → hear c h p report v ≡ stepped c (Again t)
  unfolding hear
  again t w =
      rw (w.kind, ne_eqb c.state 0 (λ z. omega (arith, w.low)), eq-eqb h.session c.session w.session)
      (connect-again t w.low w.high w.compared)

-- A message that was answered with a reply is known.
module _ (c : Connection) (sized : bad_size c.size ≡ false) (h : Header) (p report : List ℕ) (v : ℕ) where
  abbrev Replied : Stepped → Type 0
  Replied s = (t : ℕ) → s.answer ≡ Reply t → Known s.connection h p t

  module _ (near : is_foreign c h ≡ false) (kind : h.kind ≡ 2) where
    ours : 1 ≤ c.state → h.session ≡ c.session
    ours l = eqb-true h.session c.session (not-false _ (rw (kind, ne_eqb c.state 0 (λ z. omega arith)) at near))

    -- In this session, in a state of 1 to 3.
    told : (d : Connection) (k : ℕ) → d.size ≡ c.size → h.session ≡ d.session → 1 ≤ d.state → d.state ≤ 3 → Compared d p k
        → Replied (stepped d (Reply k))
    told d k z s l u w t e =
        let q : k ≡ t = cc in
        record { sized = rw z sized; kind = kind; session = s; low = l; high = u; compared = rw (← q) w }

    connect-replied : Replied (connect c h.session p v)
    connect-replied =
        let r = read_request p in
        let d = digest (certificate p) in
        connect-cases c h.session p v Replied (λ t e. apart (cc)) (λ k t e. apart (cc))
        (λ k s.
        told (requested c h.session r) 1 refl refl (omega arith) (omega arith)
        (request k (rw (same_refl r.nonce, same_refl r.x, same_refl r.y))))
        (λ k s. told (with_digest_and_state c d 2) 3 refl (ours (omega arith)) (omega arith) (omega arith) (device k (omega arith) (same_refl d)))
        (λ z t e. apart (cc))
        (λ k s. told (with_digest_and_state c c.digest 3) 7 refl (ours (omega arith)) (omega arith) (omega arith) (finish k refl))

  pub hear-replied : Replied (hear c h p report v)
  hear-replied =
      hear-cases c h p report v (λ s b. Replied s) (λ f t e. apart (cc)) (λ f k. connect-replied f (eqb-true h.kind 2 k))
      (λ f j t e. absurd ((arrival-apart (join c.size c.progress (piece_in h) p report).answer).0 t e))
      (λ f k j t e. apart (cc))
