-- SPDX-License-Identifier: MPL-2.0
-- The digest of a message m after `front`, which was hashed already.
use Rattle.laws.proofs.Kit.{ℕ, ◌+◌, ◌^◌, ◌≤◌, ◌<◌, ◌≡◌, List, ◌++◌, append_assoc, length, replicate, length-append, lt-ltb, le-ltb, arith}
use Rattle.compression.specs.declared.Vars.{Vars}
use Rattle.sha256.specs.Digests.{padding, H0, hashed, bytes_of, digest}

module _ (front m : List ℕ) (done : ℕ) (l : length front ≡ done) where
  joined-length : length (front ++ m) ≡ done + length m
  joined-length = rw length-append (omega arith)

  pub digest_by : (v : Vars) (total : ℕ) → total ≡ done + length m → total < 2 ^ 61 → ((x : List ℕ) → hashed H0 (front ++ x) ≡ hashed v x)
      → bytes_of (hashed v (m ++ padding total)) ≡ digest (front ++ m)
  unfolding digest
  digest_by v total e h after = rw (joined-length, ← e, lt-ltb total (2 ^ 61) h, append_assoc front, after)

  pub digest_none : 2 ^ 61 ≤ done + length m → replicate 32 0 ≡ digest (front ++ m)
  unfolding digest
  digest_none h = rw (joined-length, le-ltb (done + length m) (2 ^ 61) h)
