-- SPDX-License-Identifier: MPL-2.0
-- Ch and Maj by fewer operations than the standard writes, on words of any width. A term of ⊕ and ∧ is known by its half and its last bit, so
-- two that agree on bits agree on words.
use Rattle.laws.proofs.Kit.{ℕ, zero, suc, ◌-◌, ◌*◌, ◌/◌, ◌%◌, ◌^◌, ◌<◌, ◌≡◌, refl, sym, List, [], ◌∷◌, get_or, mod-lt, bit_xor, xor_shr, arith}
use Rattle.std.proofs.Common.{map, zero-lt-suc, pow-suc}
use lib.Arith.{lt-one}
use lib.Bits.{bit_and, and_shr, and_mod, xor_mod}
use lib.ListN.{get_or-map}
use Rattle.compression.specs.Words.{complement, Ch, Maj}

-- The terms over words, which they name by their place.
data Term : Type 0 where
  word : ℕ → Term
  xor : Term → Term → Term
  and : Term → Term → Term

eval : List ℕ → Term → ℕ
eval w (word i) = get_or w i 0
eval w (xor s t) = bit_xor (eval w s) (eval w t)
eval w (and s t) = bit_and (eval w s) (eval w t)

module _ (f : ℕ → ℕ) (none : f 0 ≡ 0) (xors : (a b : ℕ) → f (bit_xor a b) ≡ bit_xor (f a) (f b))
    (ands : (a b : ℕ) → f (bit_and a b) ≡ bit_and (f a) (f b)) where
  eval-map : (w : List ℕ) (t : Term) → f (eval w t) ≡ eval (map f w) t
  unfolding eval
  eval-map w (word i) = sym (rw none at (get_or-map f w i 0))
  eval-map w (xor s t) = rw (xors (eval w s) (eval w t), eval-map w s, eval-map w t)
  eval-map w (and s t) = rw (ands (eval w s) (eval w t), eval-map w s, eval-map w t)

half : (w : List ℕ) (t : Term) → eval w t / 2 ≡ eval (map (λ a. a / 2) w) t
half = eval-map (λ a. a / 2) refl (λ a b. xor_shr a b 1) (λ a b. and_shr a b 1)

odd : (w : List ℕ) (t : Term) → eval w t % 2 ≡ eval (map (λ a. a % 2) w) t
odd = eval-map (λ a. a % 2) refl (λ a b. xor_mod a b 1) (λ a b. and_mod a b 1)

bit : (P : ℕ → Type 0) → P 0 → P 1 → (n : ℕ) → n < 2 → P n
bit P p q zero h = p
bit P p q (suc zero) h = q
bit P p q (suc (suc n)) h = absurd (omega arith)

last : (a : ℕ) → a % 2 < 2
last a = mod-lt a (zero-lt-suc 1)

-- Two terms over a word x, its complement n, and y and z.
module _ (s t : Term) where
  abbrev Same : ℕ → ℕ → ℕ → ℕ → Type 0
  Same x n y z = eval (x ∷ n ∷ y ∷ z ∷ []) s ≡ eval (x ∷ n ∷ y ∷ z ∷ []) t

  module _ (none : Same 0 0 0 0) (a : Same 0 1 0 0) (b : Same 0 1 0 1) (c : Same 0 1 1 0) (d : Same 0 1 1 1)
      (e : Same 1 0 0 0) (f : Same 1 0 0 1) (g : Same 1 0 1 0) (h : Same 1 0 1 1) where
    on-bits : (x y z : ℕ) → x < 2 → y < 2 → z < 2 → Same x (1 - x) y z
    on-bits x y z hx hy hz =
        bit (λ (x : ℕ). Same x (1 - x) y z)
        (bit (λ (y : ℕ). Same 0 1 y z) (bit (λ (z : ℕ). Same 0 1 0 z) a b z hz) (bit (λ (z : ℕ). Same 0 1 1 z) c d z hz) y hy)
        (bit (λ (y : ℕ). Same 1 0 y z) (bit (λ (z : ℕ). Same 1 0 0 z) e f z hz) (bit (λ (z : ℕ). Same 1 0 1 z) g h z hz) y hy) x hx

    on-words : (k x n y z : ℕ) → x < 2 ^ k → y < 2 ^ k → z < 2 ^ k → n ≡ (2 ^ k - 1) - x → Same x n y z
    on-words zero x n y z hx hy hz p =
        let m : n ≡ 0 = omega arith in
        rw (lt-one hx, m, lt-one hy, lt-one hz) none
    on-words (suc k) x n y z hx hy hz p =
        let w = x ∷ n ∷ y ∷ z ∷ [] in
        let q : 2 ^ suc k ≡ 2 ^ k * 2 = pow-suc 2 k in
        let o : n % 2 ≡ 1 - x % 2 = omega arith in
        let halves : eval w s / 2 ≡ eval w t / 2 =
        rw (half w s, half w t) (on-words k (x / 2) (n / 2) (y / 2) (z / 2) (omega arith) (omega arith) (omega arith) (omega arith)) in
        let bits : eval w s % 2 ≡ eval w t % 2 = rw (odd w s, odd w t, o) (on-bits (x % 2) (y % 2) (z % 2) (last x) (last y) (last z)) in
        omega (arith, halves, bits)

-- Of any width.
module _ (k x y z : ℕ) (hx : x < 2 ^ k) (hy : y < 2 ^ k) (hz : z < 2 ^ k) where
  -- ((x ⊕ y) ∧ (y ⊕ z)) ⊕ y = (x ∧ y) ⊕ (x ∧ z) ⊕ (y ∧ z)
  pub maj-by : bit_xor (bit_and (bit_xor x y) (bit_xor y z)) y ≡ bit_xor (bit_xor (bit_and x y) (bit_and x z)) (bit_and y z)
  unfolding eval
  maj-by =
      on-words (xor (and (xor (word 0) (word 2)) (xor (word 2) (word 3))) (word 2))
      (xor (xor (and (word 0) (word 2)) (and (word 0) (word 3))) (and (word 2) (word 3)))
      refl refl refl refl refl refl refl refl refl k x _ y z hx hy hz refl

  -- z ⊕ (x ∧ (y ⊕ z)) = (x ∧ y) ⊕ (¬x ∧ z)
  pub ch-by : bit_xor z (bit_and x (bit_xor y z)) ≡ bit_xor (bit_and x y) (bit_and ((2 ^ k - 1) - x) z)
  unfolding eval
  ch-by =
      on-words (xor (word 3) (and (word 0) (xor (word 2) (word 3)))) (xor (and (word 0) (word 2)) (and (word 1) (word 3)))
      refl refl refl refl refl refl refl refl refl k x _ y z hx hy hz refl

-- Of the words of SHA-256, as FIPS 180-4 names the two.
module _ (x y z : ℕ) (hx : x < 2 ^ 32) (hy : y < 2 ^ 32) (hz : z < 2 ^ 32) where
  pub maj_by : Maj x y z ≡ bit_xor (bit_and (bit_xor x y) (bit_xor y z)) y
  unfolding Maj
  maj_by = sym (maj-by 32 x y z hx hy hz)

  pub ch_by : Ch x y z ≡ bit_xor z (bit_and x (bit_xor y z))
  unfolding Ch complement
  ch_by = sym (ch-by 32 x y z hx hy hz)
