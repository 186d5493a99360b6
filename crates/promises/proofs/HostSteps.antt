-- SPDX-License-Identifier: MPL-2.0
-- A step whose message is read hears it, and the first row of "Host states" that applies is the one of the sentence.
use Rattle.laws.proofs.Kit.{ℕ, ◌≤◌, ◌≡◌, ◌∙◌, ap, Bool, true, false, ◌&&◌, and-false, List, eqb, ne_eqb, le-leb, lt-leb, arith}
use Rattle.laws.proofs.Cases.{on}
use Rattle.laws.specs.Same.{same}
use Rattle.laws.proofs.Sames.{same_refl, same→eq}
use Rattle.laws.proofs.Bools.{and-true}
use Rattle.payloads.specs.Reading.{connect_type, read_request}
use Rattle.payloads.specs.declared.reading.Request.{Request}
use Rattle.sha256.specs.Digests.{digest}
use Rattle.wire.specs.declared.header.Header.{Header}
use Rattle.joining.specs.Join.{join}
use Rattle.hub.specs.declared.Connection.{Connection}
use Rattle.hub.specs.declared.Stepped.{Stepped}
use Rattle.hub.specs.declared.Answer.TheVariants.{Refused, Reply, Again, Failure}
use Rattle.hub.specs.Answers.{said}
use Rattle.hub.specs.Host.{stepped, requested, with_digest_and_state, knows, host}
use Rattle.hub.specs.Hear.{certificate, connect, piece_in, joined, is_foreign, hear}
use Rattle.admission.specs.Calls.{Call}
use Rattle.hub.specs.Calls.{Standing}
use Rattle.hub.proofs.Telling.{said_of}
use Rattle.promises.specs.Enrolment.{Content, IsConnect}
use Rattle.promises.specs.HostStates.{Admitted, Does, ByHostStates}
use Rattle.promises.proofs.ReadBack.{step-hears}

-- A test that does not hold.
is_false : (t : Bool) → (t ≡ true → ⊥) → t ≡ false
is_false t n = on t (λ e. absurd (n e)) (λ e. e)

-- The rows of "Host states", each where its sentence says.
module _ (c : Connection) (session : ℕ) (r : Request) (d : List ℕ) (v : ℕ) where
  requests : c.state ≡ 0 → host c 0 session r d v ≡ stepped (requested c session r) (Reply 1)
  unfolding host
  requests s = rw s

  requests-again : 1 ≤ c.state → c.state ≤ 3 → c.nonce ≡ r.nonce → c.x ≡ r.x → c.y ≡ r.y → host c 0 session r d v ≡ stepped c (Again 1)
  unfolding host
  requests-again low high n x y =
      rw (ne_eqb c.state 0 (λ z. omega arith), le-leb 1 c.state low, le-leb c.state 3 high)
      (rw (n, x, y, same_refl r.nonce, same_refl r.x, same_refl r.y))

  passes : c.state ≡ 1 → v ≡ 1 → host c 2 session r d v ≡ stepped (with_digest_and_state c d 2) (Reply 3)
  unfolding host
  passes s z = rw (s, z)

  fails : c.state ≡ 1 → v ≡ 0 → host c 2 session r d v ≡ stepped (with_digest_and_state c d 4) Failure
  unfolding host
  fails s z = rw (s, z)

  passes-again : 2 ≤ c.state → c.state ≤ 3 → c.digest ≡ d → host c 2 session r d v ≡ stepped c (Again 3)
  unfolding host
  passes-again low high e =
      rw (ne_eqb c.state 1 (λ z. omega arith), le-leb 2 c.state low, le-leb c.state 3 high, ← e, same_refl c.digest)

  finishes : c.state ≡ 2 → host c 6 session r d v ≡ stepped (with_digest_and_state c c.digest 3) (Reply 7)
  unfolding host
  finishes s = rw s

  finishes-again : c.state ≡ 3 → host c 6 session r d v ≡ stepped c (Again 7)
  unfolding host
  finishes-again s = rw s

  -- No row applies.
  another-request : 1 ≤ c.state → ((c.nonce ≡ r.nonce) × (c.x ≡ r.x) × (c.y ≡ r.y) → ⊥) → host c 0 session r d v ≡ stepped c (Refused 15)
  unfolding host
  another-request low n =
      let unlike : knows c r ≡ false = is_false (knows c r) λ e.
      let a = and-true (same c.nonce r.nonce && same c.x r.x) (same c.y r.y) e in
      let b = and-true (same c.nonce r.nonce) (same c.x r.x) a.0 in
      n (same→eq _ _ b.0, same→eq _ _ b.1, same→eq _ _ a.1) in
      rw (ne_eqb c.state 0 (λ z. omega arith), unlike) (simp and-false)

  another-certificate : 2 ≤ c.state → (c.digest ≡ d → ⊥) → host c 2 session r d v ≡ stepped c (Refused 15)
  unfolding host
  another-certificate low n =
      let unlike : same c.digest d ≡ false = is_false (same c.digest d) (λ e. n (same→eq _ _ e)) in
      rw (ne_eqb c.state 1 (λ z. omega arith), unlike) (simp and-false)

  device-early : c.state ≡ 0 → host c 2 session r d v ≡ stepped c (Refused 15)
  unfolding host
  device-early s = rw s

  done-early : c.state ≤ 1 → host c 6 session r d v ≡ stepped c (Refused 15)
  unfolding host
  done-early low = rw (ne_eqb c.state 2 (λ z. omega arith), ne_eqb c.state 3 (λ z. omega arith))

  other-type : (t : ℕ) → (t ≡ 0 → ⊥) → (t ≡ 2 → ⊥) → (t ≡ 6 → ⊥) → host c t session r d v ≡ stepped c (Refused 15)
  unfolding host
  other-type t a b e = rw (ne_eqb t 0 a, ne_eqb t 2 b, ne_eqb t 6 e)

  ends : (type : ℕ) → 4 ≤ c.state → host c type session r d v ≡ stepped c (Refused 15)
  unfolding host
  ends type high =
      rw (ne_eqb c.state 0 (λ z. omega arith), ne_eqb c.state 1 (λ z. omega arith), ne_eqb c.state 2 (λ z. omega arith))
      (rw (ne_eqb c.state 3 (λ z. omega arith), lt-leb c.state 3 (omega arith)) (simp and-false))

-- A message that 16 does not refuse.
module _ (c : Connection) (h : Header) (q report : List ℕ) (v : ℕ) (own : is_foreign c h ≡ false) where
  hears-connect : (type : ℕ) → h.kind ≡ 2 → connect_type q ≡ type
      → hear c h q report v ≡ host c type h.session (read_request q) (digest (certificate q)) v
  unfolding hear connect
  hears-connect type t e = rw (own, t, e)

  hears-session : h.kind ≡ 4 → c.state ≡ 3 → hear c h q report v ≡ joined c (join c.size c.progress (piece_in h) q report)
  unfolding hear
  hears-session t s = rw (own, t, s)

  session-early : h.kind ≡ 4 → c.state ≤ 2 → hear c h q report v ≡ stepped c (Refused 15)
  unfolding hear
  session-early t low = rw (own, t, ne_eqb c.state 3 (λ z. omega arith))

  discovery : h.kind ≡ 1 → hear c h q report v ≡ stepped c (Refused 15)
  unfolding hear
  discovery t = rw (own, t)

  hears-ended : 4 ≤ c.state → hear c h q report v ≡ stepped c (Refused 15)
  unfolding hear connect
  hears-ended high =
      rw (own, ends c h.session (read_request q) (digest (certificate q)) v (connect_type q) high)
      (on (eqb h.kind 2) (λ z. rw z) (λ z. rw (z, ne_eqb c.state 3 (λ z. omega arith), and-false)))

module _ (p : Standing) (x : Call) (h : Admitted p x) where
  abbrev k : Content x
  k = h.content

  so : (s : Stepped) → hear p.connection k.header k.payload p.report x.verdict ≡ s → Does p x (said s.answer) s.connection
  so s e =
      let is = step-hears p.connection k.header k.payload x.message x.keys x.working p.report x.verdict h.size h.verdict
      k.reads in
      (ap (λ (s : Stepped). said s.answer) (is.0 ∙ e), ap (λ (s : Stepped). s.connection) (is.0 ∙ e))

  -- A Connect message does what the row of its type does.
  by_row : (type : ℕ) (s : Stepped) → IsConnect k type
      → host p.connection type k.header.session (read_request k.payload) (digest (certificate k.payload)) x.verdict ≡ s
      → Does p x (said s.answer) s.connection
  by_row type s t e =
      so s (hears-connect p.connection k.header k.payload p.report x.verdict h.own type t.0 t.1 ∙ e)

pub by-host-states : ByHostStates
by-host-states p x h =
    let c = p.connection in
    let k = h.content in
    let row = by_row p x h in
    let d = digest (certificate k.payload) in
    let r = read_request k.payload in
    let n = k.header.session in
    let v = x.verdict in
    let j = join c.size c.progress (piece_in k.header) k.payload p.report in
    record {
      request = λ t s. row 0 _ t (requests c n r d v s);
      request-again = λ t low high a b e. row 0 _ t (requests-again c n r d v low high a b e);
      passed = λ t s z. row 2 _ t (passes c n r d v s z);
      failed = λ t s z. row 2 _ t (fails c n r d v s z);
      passed-again = λ t low high e. row 2 _ t (passes-again c n r d v low high e);
      done = λ t s. row 6 _ t (finishes c n r d v s);
      done-again = λ t s. row 6 _ t (finishes-again c n r d v s);
      session = λ t s. let q = so p x h _ (hears-session c k.header k.payload p.report v h.own t s) in (q.0 ∙ said_of j.answer, q.1);
      another-request = λ t low n. row 0 _ t (another-request c _ r d v low n);
      another-certificate = λ t low n. row 2 _ t (another-certificate c _ r d v low n);
      device-early = λ t s. row 2 _ t (device-early c _ r d v s);
      done-early = λ t low. row 6 _ t (done-early c _ r d v low);
      session-early = λ t low. so p x h _ (session-early c k.header k.payload p.report v h.own t low);
      other-type = λ n t a b e. row n _ t (other-type c _ r d v n a b e);
      discovery = λ t. so p x h _ (discovery c k.header k.payload p.report v h.own t);
      ended = λ high. so p x h _ (hears-ended c k.header k.payload p.report v h.own high);
    }
