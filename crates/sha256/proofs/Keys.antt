-- SPDX-License-Identifier: MPL-2.0
-- A key filled up to a block, and masked.
use Rattle.laws.proofs.Kit.{ℕ, suc, ◌+◌, ◌-◌, ◌≤◌, ◌<◌, ◌≡◌, refl, ap₂, List, [], ◌∷◌, ◌++◌, length, drop, get_or, replicate, length-replicate}
use Rattle.laws.proofs.Kit.{drop_at, bit_xor, arith}
use lib.ListN.{replicate-append-replicate}
use Rattle.sha256.specs.Macs.{filled, masked}

-- zeros in two runs
pub zeros-split : (n m : ℕ) → n ≤ m → replicate {A = ℕ} m 0 ≡ replicate n 0 ++ replicate (m - n) 0
zeros-split n m h = let e : n + (m - n) ≡ m = omega arith in rw (replicate-append-replicate, e)

-- a key copied over zeros
pub filled_by : (key y : List ℕ) → length key ≤ 64 → y ≡ key → y ++ drop (length key) (replicate 64 0) ≡ filled key
unfolding filled
filled_by key y h e =
    let z = length-replicate {A = ℕ} (length key) 0 in
    rw (e, zeros-split (length key) 64 h, drop_at)

-- each byte masked at its place
pub masked_by : (pad : ℕ) (key ys : List ℕ) → length ys ≡ length key
    → ((i : ℕ) → i < length key → get_or ys i 0 ≡ bit_xor (get_or key i 0) pad) → ys ≡ masked pad key
unfolding masked
masked_by pad [] [] l each = refl
masked_by pad [] (y ∷ ys) l each = absurd (omega arith)
masked_by pad (x ∷ key) [] l each = absurd (omega arith)
masked_by pad (x ∷ key) (y ∷ ys) l each =
    ap₂ (λ (z : ℕ) (zs : List ℕ). z ∷ zs) (each 0 (omega arith)) (masked_by pad key ys (omega arith) (λ i h. each (suc i) (omega arith)))
