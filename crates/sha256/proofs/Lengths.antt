-- SPDX-License-Identifier: MPL-2.0
-- A digest and an HMAC have thirty-two bytes.
use Rattle.laws.proofs.Kit.{ℕ, ◌^◌, ◌≡◌, List, length, ltb}
use Rattle.laws.proofs.Cases.{on}
use Rattle.sha256.specs.Digests.{bytes_of, digest}
use Rattle.sha256.specs.Macs.{hmac}

length-digest : (m : List ℕ) → length (digest m) ≡ 32
unfolding digest bytes_of
length-digest m = on (ltb (length m) (2 ^ 61)) (λ e. rw e) (λ e. rw e)

pub length-hmac : (key text : List ℕ) → length (hmac key text) ≡ 32
unfolding hmac
length-hmac key text = length-digest _
