-- SPDX-License-Identifier: MPL-2.0
-- The product of bytes: either factor may come first, three may be put together either way, and 1 changes nothing. Both sides keep sums in each
-- factor, so that a test over the binary digits is enough.
use Rattle.laws.proofs.Kit.{ℕ, ◌^◌, ◌<◌, ◌≡◌, refl, ◌∙◌, Bool, eqb, lit<, eqb-true}
use Rattle.field.specs.Xor.{xor}
use Rattle.field.specs.Field.{xtime, times, mul}
use Rattle.field.proofs.Linear.{mul-byte, mul-xor, xor-mul}
use Rattle.field.proofs.Additive.{Additive, at_zero, additive-same}
use Rattle.laws.proofs.Below.{every, below, agree, bounded}

-- in the second factor, and in the first
by : (k : ℕ) → Additive (mul k)
by k = record { sum = mul-xor k }

of : (b : ℕ) → b < 256 → Additive (λ a. mul a b)
of b h = record { sum = λ a c ha hc. xor-mul a c b h }

digit-byte : (j : ℕ) → j < 8 → 2 ^ j < 256
digit-byte = bounded (λ j. 2 ^ j) 256 8 refl

pub mul-zero : (k : ℕ) → mul k 0 ≡ 0
mul-zero k = at_zero (mul k) (by k)

pub one-times : (x : ℕ) → x < 256 → mul 1 x ≡ x
unfolding mul times xtime xor
one-times =
    additive-same (mul 1) (λ x. x) (by 1) (record { sum = λ a b ha hb. refl }) (agree (λ j. mul 1 (2 ^ j)) (λ j. 2 ^ j) 8 refl)

-- ---- either factor first

abbrev commute : ℕ → ℕ → Bool
commute i j = eqb (mul (2 ^ i) (2 ^ j)) (mul (2 ^ j) (2 ^ i))

digits-commute : (i j : ℕ) → i < 8 → j < 8 → mul (2 ^ i) (2 ^ j) ≡ mul (2 ^ j) (2 ^ i)
unfolding mul times xtime xor
digits-commute i j hi hj = eqb-true _ _ (below (commute i) 8 (below (λ i. every (commute i) 8) 8 refl i hi) j hj)

pub times-comm : (a b : ℕ) → a < 256 → b < 256 → mul a b ≡ mul b a
times-comm a b ha hb = additive-same (λ x. mul x b) (mul b) (of b hb) (by b) one a ha
  where
    one : (i : ℕ) → i < 8 → mul (2 ^ i) b ≡ mul b (2 ^ i)
    one i hi =
        additive-same (mul (2 ^ i)) (λ x. mul x (2 ^ i)) (by (2 ^ i)) (of (2 ^ i) (digit-byte i hi)) (λ j hj. digits-commute i j hi hj) b hb

pub zero-times : (x : ℕ) → x < 256 → mul 0 x ≡ 0
zero-times x h = times-comm 0 x (lit< tt) h ∙ mul-zero x

-- ---- three factors

abbrev associate : ℕ → ℕ → ℕ → Bool
associate i j k = eqb (mul (mul (2 ^ i) (2 ^ j)) (2 ^ k)) (mul (2 ^ i) (mul (2 ^ j) (2 ^ k)))

digits-associate : (i j k : ℕ) → i < 8 → j < 8 → k < 8 → mul (mul (2 ^ i) (2 ^ j)) (2 ^ k) ≡ mul (2 ^ i) (mul (2 ^ j) (2 ^ k))
unfolding mul times xtime xor
digits-associate i j k hi hj hk =
    let all = below (λ i. every (λ j. every (associate i j) 8) 8) 8 refl i hi in
    eqb-true _ _ (below (associate i j) 8 (below (λ j. every (associate i j) 8) 8 all j hj) k hk)

pub times-assoc : (a b c : ℕ) → a < 256 → b < 256 → c < 256 → mul (mul a b) c ≡ mul a (mul b c)
times-assoc a b c ha hb hc =
    additive-same (λ x. mul (mul x b) c) (λ x. mul x (mul b c)) (record { sum = λ p q hp hq. simp xor-mul })
    (of (mul b c) (mul-byte b c hc)) one a ha
  where
    two : (i j : ℕ) → i < 8 → j < 8 → mul (mul (2 ^ i) (2 ^ j)) c ≡ mul (2 ^ i) (mul (2 ^ j) c)
    two i j hi hj =
        additive-same (mul (mul (2 ^ i) (2 ^ j))) (λ x. mul (2 ^ i) (mul (2 ^ j) x)) (by (mul (2 ^ i) (2 ^ j)))
        (record { sum = λ p q hp hq. simp (mul-xor, mul-byte) }) (λ k hk. digits-associate i j k hi hj hk) c hc

    one : (i : ℕ) → i < 8 → mul (mul (2 ^ i) b) c ≡ mul (2 ^ i) (mul b c)
    one i hi =
        additive-same (λ x. mul (mul (2 ^ i) x) c) (λ x. mul (2 ^ i) (mul x c)) (record { sum = λ p q hp hq. simp (mul-xor, xor-mul) })
        (record { sum = λ p q hp hq. simp (xor-mul, mul-xor, mul-byte) }) (λ j hj. two i j hi hj) b hb
