-- SPDX-License-Identifier: MPL-2.0
-- Bytes as numbers: the bounds of what is read, and what stands after the front of a list.
use Rattle.laws.proofs.Kit.{ℕ, ◌+◌, ◌<◌, ◌≡◌, sym, ◌∙◌, ap, List, ◌++◌, length, arith}
use native.Mathlib.Nat.{add_assoc}
use lib.Seq.{get_or-append-add}
use Rattle.laws.specs.Bytes.{AreBytes, be8, be16, be32}

module _ (m : List ℕ) (bytes : AreBytes m) where
  pub be16-below : (at : ℕ) → be16 m at < 65536
  be16-below at = omega (arith, bytes.at at, bytes.at (at + 1))

  pub be32-below : (at : ℕ) → be32 m at < 4294967296
  be32-below at = omega (arith, be16-below at, be16-below (at + 2))

-- Numbers after the first n elements of a list.
module _ (a b : List ℕ) (n : ℕ) (e : length a ≡ n) where
  pub be8-past : (i : ℕ) → be8 (a ++ b) (n + i) ≡ be8 b i
  be8-past i = ap (λ (k : ℕ). be8 (a ++ b) (k + i)) (sym e) ∙ get_or-append-add a b i 0

  pub be16-past : (i : ℕ) → be16 (a ++ b) (n + i) ≡ be16 b i
  be16-past i = rw (be8-past i, add_assoc n i 1, be8-past (i + 1))

  pub be32-past : (i : ℕ) → be32 (a ++ b) (n + i) ≡ be32 b i
  be32-past i = rw (be16-past i, add_assoc n i 2, be16-past (i + 2))
