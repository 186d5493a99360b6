-- SPDX-License-Identifier: MPL-2.0
-- What each writer tests is whether its values fit their format, and what it answers is the length of their bytes.
use Rattle.laws.proofs.Kit.{ℕ, ◌+◌, ◌≤◌, ◌≡◌, refl, sym, Bool, true, not, ◌&&◌, ◌||◌, List, [], ◌∷◌, ◌++◌, length, sets, length-append, eqb, leb, ltb}
use Rattle.laws.proofs.Kit.{eq-eqb, eqb-true, ne_eqb, le-leb, leb-true, rules, arith}
use Rattle.laws.proofs.Bools.{and_one, and_assoc, and-true}
use Rattle.payloads.specs.Format.{one, fixed, ◌then◌, ◌and◌, fits, write}
use Rattle.payloads.specs.Shapes.{of_type, exchange, either, presence_request, other_response, device_authentication, done_request}
use Rattle.payloads.specs.Shapes.{done_response, presence_response}
use Rattle.laws.specs.Bytes.{bytes16}
use Rattle.payloads.specs.declared.reading.Request.{Request}
use Rattle.writer.specs.Payload.{exchange_values}
use Rattle.writer.proofs.Writing.{stored}
use Rattle.writer.proofs.Puts.{stored_exchange, stored_device, stored_presence}

pub fits_presence_request : fits presence_request tt ≡ true
unfolding fits
fits_presence_request = refl

pub bytes_presence_request : write presence_request tt ≡ 0 ∷ []
unfolding write
bytes_presence_request = refl

module _ (mode : ℕ) where
  pub fits_done_request : fits done_request (mode and tt) ≡ leb mode 2
  unfolding fits
  fits_done_request = rw and_one

  pub bytes_done_request : write done_request (mode and tt) ≡ bytes16 mode ++ (6 ∷ [])
  unfolding write
  bytes_done_request = refl

  pub fits_done_response : (status : ℕ) → fits done_response (mode and status and tt) ≡ (leb mode 2 && leb status 4)
  unfolding fits
  fits_done_response status = rw (and_one (leb status 4))

  pub bytes_done_response : (status : ℕ) → write done_response (mode and status and tt) ≡ bytes16 mode ++ (7 ∷ status ∷ [])
  unfolding write
  bytes_done_response status = refl

  pub fits_other_response : (result : ℕ) → (result ≡ 1 → ⊥) → fits other_response (mode and result and tt) ≡ (leb mode 2 && leb result 3)
  unfolding fits
  fits_other_response result p = rw (ne_eqb result 1 p) (simp and_one)

module _ (mode connect code : ℕ) (r : Request) (n : length r.nonce ≡ 8) (x : length r.x ≡ 32) (y : length r.y ≡ 32) where
  pub fits_exchange : fits (of_type connect (fixed one code then exchange)) (exchange_values mode r) ≡ leb mode 2
  unfolding fits
  fits_exchange = rw (eq-eqb (length r.nonce) 8 n, eq-eqb (length r.x) 32 x, eq-eqb (length r.y) 32 y, and_one)

  pub length_exchange : length (write (of_type connect (fixed one code then exchange)) (exchange_values mode r)) ≡ 86
  unfolding write
  length_exchange = simp length-append (omega arith)

module _ (mode connect : ℕ) (c t : List ℕ) where
  pub fits_device : fits device_authentication (mode and connect and c and t and tt)
      ≡ (leb mode 2 && either 2 3 connect && leb 1 (length c) && leb (length c) 2048 && leb (length t) 512)
  unfolding fits
  fits_device = rw (le-leb 0 (length t) (omega arith)) (simp (and_assoc, and_one))

  pub length_device : length (write device_authentication (mode and connect and c and t and tt)) ≡ 7 + length c + length t
  unfolding write
  length_device = simp length-append (omega arith)

module _ (mode : ℕ) (name salt hash : List ℕ) where
  -- What a Presence Response's writer tests: mode, name, salt and hash are well formed.
  abbrev tested : Bool
  tested = leb mode 2 && leb (length name) 64 && eqb (length salt) 4 && eqb (length hash) 4

  pub fits-presence : (device : ℕ) → tested ≡ fits presence_response (mode and device and name and salt and hash and tt)
  unfolding fits
  fits-presence device = rw (le-leb 0 (length name) (omega arith)) (simp (and_assoc, and_one))

  pub right-presence : tested ≡ true → (mode ≤ 2) × (length name ≤ 64) × (length salt ≡ 4) × (length hash ≡ 4)
  right-presence e =
      let a = and-true (leb mode 2 && leb (length name) 64 && eqb (length salt) 4) (eqb (length hash) 4) e in
      let b = and-true (leb mode 2 && leb (length name) 64) (eqb (length salt) 4) a.0 in
      let c = and-true (leb mode 2) (leb (length name) 64) b.0 in
      (leb-true mode 2 c.0, leb-true (length name) 64 c.1, eqb-true (length salt) 4 b.1, eqb-true (length hash) 4 a.1)

  pub size_presence : (device : ℕ) → length (write presence_response (mode and device and name and salt and hash and tt))
      ≡ 7 + length name + length salt + length hash
  unfolding write
  size_presence device = simp length-append (omega arith)

  pub length-presence : (device : ℕ) → tested ≡ true
      → length (write presence_response (mode and device and name and salt and hash and tt)) ≡ 15 + length name
  length-presence device e = omega (arith, size_presence device, right-presence e)

-- The laws by which a payload's writer is proved.
pub ruleset writing = (
  rules,
  stored,
  fits_presence_request,
  bytes_presence_request,
  fits_done_request,
  bytes_done_request,
  fits_done_response,
  bytes_done_response,
  fits_exchange,
  length_exchange,
  stored_exchange,
  fits_device,
  length_device,
  stored_device,
  fits-presence,
  size_presence,
  stored_presence,
)
