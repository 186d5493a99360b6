-- SPDX-License-Identifier: MPL-2.0
-- The bytes of the number at a place of a list of bytes are the bytes there.
use Rattle.laws.proofs.Kit.{ℕ, ◌+◌, ◌*◌, ◌/◌, ◌%◌, ◌<◌, ◌≡◌, List, [], ◌∷◌, ◌++◌, add-zero, arith}
use native.Mathlib.Nat.{mul-add-div_right, div-eq_of_lt, mul-add-mod_self_right, mod-eq_of_lt}
use Rattle.laws.specs.Bytes.{AreBytes, be8, be16, be32, be64, bytes_at, bytes16, bytes32, bytes64}
use Rattle.laws.proofs.Numbers.{be16-below, be32-below}
use Rattle.laws.proofs.Parts.{bytes_at-append}

-- The two digits of a number in base w.
digits : (w a b : ℕ) → b < w → ((a * w + b) / w ≡ a) × ((a * w + b) % w ≡ b)
digits w a b h =
    let z : 0 < w = omega arith in
    (rw (mul-add-div_right z a b, div-eq_of_lt h) (add-zero a), rw (mul-add-mod_self_right a w b) (mod-eq_of_lt h))

module _ (m : List ℕ) (bytes : AreBytes m) where
  pub bytes-be8 : (at : ℕ) → bytes_at m at 1 ≡ be8 m at ∷ []
  unfolding bytes_at
  bytes-be8 at = rw (add-zero at)

  -- A number of twice as many bytes: its two digits in base w, of n bytes each.
  double : (w n : ℕ) (write : ℕ → List ℕ) (read : ℕ → ℕ) → ((at : ℕ) → bytes_at m at n ≡ write (read at)) → ((at : ℕ) → read at < w) → (at : ℕ)
      → bytes_at m at (n + n) ≡ write ((read at * w + read (at + n)) / w) ++ write ((read at * w + read (at + n)) % w)
  double w n write read back below at =
      let d = digits w (read at) (read (at + n)) (below (at + n)) in
      rw (d.0, d.1, ← back at, ← back (at + n)) (bytes_at-append m at n n)

  pub bytes-be16 : (at : ℕ) → bytes_at m at 2 ≡ bytes16 (be16 m at)
  bytes-be16 = double 256 1 (λ (x : ℕ). x ∷ []) (be8 m) bytes-be8 bytes.at

  pub bytes-be32 : (at : ℕ) → bytes_at m at 4 ≡ bytes32 (be32 m at)
  bytes-be32 = double 65536 2 bytes16 (be16 m) bytes-be16 (be16-below m bytes)

  pub bytes-be64 : (at : ℕ) → bytes_at m at 8 ≡ bytes64 (be64 m at)
  bytes-be64 = double 4294967296 4 bytes32 (be32 m) bytes-be32 (be32-below m bytes)
