-- SPDX-License-Identifier: MPL-2.0
-- What a Connect message does, by the row that applies: the table of "Host states" is gone through here, and nowhere else.
use Rattle.laws.proofs.Kit.{ℕ, ◌≡◌, Bool, true, ◌&&◌, List, eqb, eqb-true}
use Rattle.laws.proofs.Bools.{and-true}
use Rattle.laws.proofs.Firsts.{◌also◌, first-row}
use Rattle.payloads.specs.Types.{connect_number}
use Rattle.payloads.specs.declared.types.ConnectType.{ConnectType}
use Rattle.payloads.specs.declared.types.ConnectType.TheVariants.{ConnectionResponse, DeviceResponse, DoneResponse}
use Rattle.payloads.specs.Reading.{connect_type, read_request}
use Rattle.sha256.specs.Digests.{digest}
use Rattle.hub.specs.declared.Connection.{Connection}
use Rattle.hub.specs.declared.Stepped.{Stepped}
use Rattle.hub.specs.declared.Answer.TheVariants.{Reply, Again, Failure}
use Rattle.hub.specs.Host.{stepped, refuse, requested, with_digest_and_state, host_rows, host}
use Rattle.hub.specs.Hear.{certificate, connect}

-- A row of one Connect type applies to that type.
typed : (type own : ℕ) (t : Bool) → (eqb type own && t) ≡ true → (type ≡ own) × (t ≡ true)
typed type own t e = let a = and-true (eqb type own) t e in (eqb-true type own a.0, a.1)

-- The ways of a Connect message: 15, Again with the number of a type, the three steps of an enrolment with a verdict of 0 between them, each with
-- what its row says.
module _ (c : Connection) (session : ℕ) (p : List ℕ) (v : ℕ) (G : Stepped → Type 0) where
  pub connect-cases : G (refuse c 15) → ((t : ConnectType) → G (stepped c (Again (connect_number t))))
      → (connect_type p ≡ 0 → c.state ≡ 0 → G (stepped (requested c session (read_request p)) (Reply 1)))
      → (connect_type p ≡ 2 → c.state ≡ 1 → G (stepped (with_digest_and_state c (digest (certificate p)) 2) (Reply 3)))
      → (v ≡ 0 → G (stepped (with_digest_and_state c (digest (certificate p)) 4) Failure))
      → (connect_type p ≡ 6 → c.state ≡ 2 → G (stepped (with_digest_and_state c c.digest 3) (Reply 7)))
      → G (connect c session p v)
  unfolding connect host
  connect-cases refused again requests passes fails finishes =
      let type = connect_type p in
      first-row G (host_rows c type session (read_request p) (digest (certificate p)) v) (refuse c 15)
      ((λ e. let a = typed type 0 _ e in requests a.0 (eqb-true c.state 0 a.1))
      also (λ e. again ConnectionResponse)
      also (λ e. let a = typed type 2 _ e in passes a.0 (typed c.state 1 _ a.1).0)
      also (λ e. fails (eqb-true v 0 (typed c.state 1 _ (typed type 2 _ e).1).1))
      also (λ e. again DeviceResponse)
      also (λ e. let a = typed type 6 _ e in finishes a.0 (eqb-true c.state 2 a.1))
      also (λ e. again DoneResponse)
      also tt)
      refused
