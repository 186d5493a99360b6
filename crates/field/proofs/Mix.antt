-- SPDX-License-Identifier: MPL-2.0
-- InvMixColumns undoes MixColumns: the inverse row times the row, turned four times, has the coefficients 1, 0, 0, 0.
use Rattle.laws.proofs.Kit.{ℕ, ◌+◌, ◌<◌, ◌≡◌, refl, sym, ◌∙◌, lit<, arith}
use Rattle.field.specs.Xor.{xor}
use Rattle.field.specs.Field.{xtime, times, mul}
use Rattle.field.specs.Mix.{xor4, row, mixed, unmixed}
use Rattle.field.proofs.Xor.{comm, zero-r, byte, assoc, swap4}
use Rattle.field.proofs.Linear.{mul-byte, mul-xor, xor-mul}
use Rattle.field.proofs.Product.{one-times, zero-times, times-assoc}

-- ---- sums of four

pub xor4-byte : (a b c d : ℕ) → a < 256 → b < 256 → c < 256 → d < 256 → xor4 a b c d < 256
unfolding xor4
xor4-byte a b c d ha hb hc hd = byte a (xor b (xor c d)) ha (byte b (xor c d) hb (byte c d hc hd))

pub turn : (a b c d : ℕ) → xor4 a b c d ≡ xor4 d a b c
unfolding xor4
turn a b c d = rw (← assoc b c d, ← assoc a (xor b c) d, comm (xor a (xor b c)) d)

-- two sums, term by term
zip : (a b c d e f g h : ℕ) → xor (xor4 a b c d) (xor4 e f g h) ≡ xor4 (xor a e) (xor b f) (xor c g) (xor d h)
unfolding xor4
zip a b c d e f g h = rw (swap4 a _ e, swap4 b _ f, swap4 c d)

-- a square of sixteen, by rows and by columns
by-columns : (a b c d e f g h i j k l m n o p : ℕ)
    → xor4 (xor4 a b c d) (xor4 e f g h) (xor4 i j k l) (xor4 m n o p)
    ≡ xor4 (xor4 a e i m) (xor4 b f j n) (xor4 c g k o) (xor4 d h l p)
unfolding xor4
by-columns a b c d e f g h i j k l m n o p = rw (zip i, zip e, zip a b)

xor4-same : {a b c d e f g h : ℕ} → a ≡ e → b ≡ f → c ≡ g → d ≡ h → xor4 a b c d ≡ xor4 e f g h
xor4-same p q r s = λ i. xor4 (p i) (q i) (r i) (s i)

alone : (a : ℕ) → xor4 a 0 0 0 ≡ a
unfolding xor4
alone a = simp zero-r

-- ---- rows

row-byte : (k l m n a b c d : ℕ) → a < 256 → b < 256 → c < 256 → d < 256 → row k l m n a b c d < 256
unfolding row
row-byte k l m n a b c d ha hb hc hd =
    xor4-byte (mul k a) (mul l b) (mul m c) (mul n d) (mul-byte k a ha) (mul-byte l b hb) (mul-byte m c hc) (mul-byte n d hd)

-- a row of sums
pub row-xor : (k l m n a b c d e f g h : ℕ) → a < 256 → b < 256 → c < 256 → d < 256 → e < 256 → f < 256 → g < 256 → h < 256
    → row k l m n (xor a e) (xor b f) (xor c g) (xor d h) ≡ xor (row k l m n a b c d) (row k l m n e f g h)
unfolding row
row-xor k l m n a b c d e f g h ha hb hc hd he hf hg hh = simp mul-xor (sym (zip _ _ _ _ _ _ _ _))

pub mixed-byte : (a b c d : ℕ) → a < 256 → b < 256 → c < 256 → d < 256 → mixed a b c d < 256
unfolding mixed
mixed-byte = row-byte 2 3 1 1

pub unmixed-byte : (a b c d : ℕ) → a < 256 → b < 256 → c < 256 → d < 256 → unmixed a b c d < 256
unfolding unmixed
unmixed-byte = row-byte 14 11 13 9

mul-row : (j k l m n a b c d : ℕ) → a < 256 → b < 256 → c < 256 → d < 256
    → mul j (row k l m n a b c d) ≡ xor4 (mul j (mul k a)) (mul j (mul l b)) (mul j (mul m c)) (mul j (mul n d))
unfolding row xor4
mul-row j k l m n a b c d ha hb hc hd = simp (mul-xor, mul-byte, byte)

-- a row times a column, of small numbers both, is w: so it is times the column's multiples by a byte, each multiplied by w
row-mul : (j k l m a b c d w x : ℕ) → j + k + l + m + a + b + c + d < 256 → x < 256 → row j k l m a b c d ≡ w
    → xor4 (mul j (mul a x)) (mul k (mul b x)) (mul l (mul c x)) (mul m (mul d x)) ≡ mul w x
unfolding row xor4
row-mul j k l m a b c d w x h hx e =
    let one = times-assoc j a x (omega arith) (omega arith) hx in
    let two = times-assoc k b x (omega arith) (omega arith) hx in
    let three = times-assoc l c x (omega arith) (omega arith) hx in
    let four = times-assoc m d x (omega arith) (omega arith) hx in
    rw (← e, xor-mul, xor-mul, xor-mul, one, two, three, four)

-- the inverse row times the columns of the matrix
products : (row 14 11 13 9 2 1 1 3 ≡ 1) × (row 14 11 13 9 3 2 1 1 ≡ 0) × (row 14 11 13 9 1 3 2 1 ≡ 0) × (row 14 11 13 9 1 1 3 2 ≡ 0)
unfolding row xor4 mul times xtime xor
products = (refl, refl, refl, refl)

pub unmixed-mixed : (a b c d : ℕ) → a < 256 → b < 256 → c < 256 → d < 256
    → unmixed (mixed a b c d) (mixed b c d a) (mixed c d a b) (mixed d a b c) ≡ a
unfolding unmixed row mixed
unmixed-mixed a b c d ha hb hc hd =
    xor4-same (mul-row 14 2 3 1 1 a b c d ha hb hc hd) (mul-row 11 2 3 1 1 b c d a hb hc hd ha ∙ turn _ _ _ _)
    (mul-row 13 2 3 1 1 c d a b hc hd ha hb ∙ turn _ _ _ _ ∙ turn _ _ _ _)
    (mul-row 9 2 3 1 1 d a b c hd ha hb hc ∙ turn _ _ _ _ ∙ turn _ _ _ _ ∙ turn _ _ _ _)
    ∙ by-columns _ _ _ _ _ _ _ _ _ _ _ _ _ _ _ _
    ∙ xor4-same (row-mul 14 11 13 9 2 1 1 3 1 a (lit< tt) ha products.0 ∙ one-times a ha)
    (row-mul 14 11 13 9 3 2 1 1 0 b (lit< tt) hb products.1 ∙ zero-times b hb)
    (row-mul 14 11 13 9 1 3 2 1 0 c (lit< tt) hc products.2 ∙ zero-times c hc)
    (row-mul 14 11 13 9 1 1 3 2 0 d (lit< tt) hd products.3 ∙ zero-times d hd)
    ∙ alone a
