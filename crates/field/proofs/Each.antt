-- SPDX-License-Identifier: MPL-2.0
-- A word byte by byte: its multiples, their sums and the column that turned ones make.
use Rattle.laws.proofs.Kit.{ℕ, ◌+◌, ◌-◌, ◌*◌, ◌/◌, ◌%◌, ◌^◌, ◌<◌, ◌≡◌, refl, sym, ◌∙◌, ap, ap₂, lit<, mod-lt, arith}
use native.Mathlib.Nat.{div-one, div-div-eq-div-mul, mod-eq_of_lt}
use Rattle.std.specs.Int.{w32, rotate_right}
use lib.Bits.{or_shifted_r, bit_and, and_block, and_mask, and_high}
use Rattle.field.specs.Xor.{xor}
use Rattle.field.specs.Field.{xtime, times, mul}
use Rattle.field.specs.Mix.{xor4, row}
use Rattle.field.specs.Words.{word, byte_at, each, column}
use Rattle.laws.proofs.Below.{agree}
use Rattle.field.proofs.Xor.{byte, assoc}
use Rattle.field.proofs.Linear.{mul-byte, xor-mul}
use Rattle.field.proofs.Product.{one-times, times-assoc}
use Rattle.field.proofs.Words.{words, xor-word}

-- ---- the word of what is made of each byte

pub byte_at-lt : (x m : ℕ) → byte_at x m < 256
byte_at-lt x m = mod-lt _ (lit< tt)

pub of-bytes : (x : ℕ) → x < 4294967296 → x ≡ word (byte_at x 0) (byte_at x 1) (byte_at x 2) (byte_at x 3)
of-bytes x h =
    let top : byte_at x 3 ≡ x / 16777216 = mod-eq_of_lt (omega arith) in
    let third : x / 16777216 * 256 + byte_at x 2 ≡ x / 65536 = omega (arith, div-div-eq-div-mul x 65536 256) in
    let second : x / 65536 * 256 + byte_at x 1 ≡ x / 256 = omega (arith, div-div-eq-div-mul x 256 256) in
    rw (top, third, second, div-one x) (omega arith)

-- functions that make the same of each byte make the same word
each_same : (f g : ℕ → ℕ) → ((b : ℕ) → b < 256 → f b ≡ g b) → (x : ℕ) → each f x ≡ each g x
unfolding each
each_same f g h x = words (h _ (byte_at-lt x 0)) (h _ (byte_at-lt x 1)) (h _ (byte_at-lt x 2)) (h _ (byte_at-lt x 3))

-- the bytes of a word, and so what is made of each
module _ (a b c d : ℕ) (ha : a < 256) (hb : b < 256) (hc : c < 256) (hd : d < 256) where
  pub word-at0 : byte_at (word a b c d) 0 ≡ a
  word-at0 = rw (div-one (word a b c d)) (omega arith)

  pub word-at1 : byte_at (word a b c d) 1 ≡ b
  word-at1 = omega arith

  pub word-at2 : byte_at (word a b c d) 2 ≡ c
  word-at2 = omega arith

  pub word-at3 : byte_at (word a b c d) 3 ≡ d
  word-at3 = let top : word a b c d / 16777216 ≡ d = omega arith in rw top (mod-eq_of_lt hd)

  each_word : (f : ℕ → ℕ) → each f (word a b c d) ≡ word (f a) (f b) (f c) (f d)
  unfolding each
  each_word f = words (ap f word-at0) (ap f word-at1) (ap f word-at2) (ap f word-at3)

-- ---- multiples

-- a multiple of a multiple, and the sum of two
each-each : (j k l x : ℕ) → j < 256 → k < 256 → mul j k ≡ l → each (mul j) (each (mul k) x) ≡ each (mul l) x
unfolding each
each-each j k l x hj hk e =
    simp (each_word, mul-byte, byte_at-lt)
    (each_same (λ b. mul j (mul k b)) (mul l) (λ b h. sym (times-assoc j k b hj hk h) ∙ ap (λ (i : ℕ). mul i b) e) x)

each-sum : (j k l x : ℕ) → xor j k ≡ l → xor (each (mul j) x) (each (mul k) x) ≡ each (mul l) x
unfolding each
each-sum j k l x e =
    simp (xor-word, mul-byte, byte_at-lt)
    (each_same (λ b. xor (mul j b) (mul k b)) (mul l) (λ b h. sym (xor-mul j k b h) ∙ ap (λ (i : ℕ). mul i b) e) x)

each-one : (x : ℕ) → x < 4294967296 → x ≡ each (mul 1) x
unfolding each
each-one x h = of-bytes x h ∙ each_same (λ b. b) (mul 1) (λ b g. sym (one-times b g)) x

-- ---- twice a word, by its digits

and_word : (a b c d e f g h : ℕ) → a < 256 → b < 256 → c < 256 → e < 256 → f < 256 → g < 256
    → bit_and (word a b c d) (word e f g h) ≡ word (bit_and a e) (bit_and b f) (bit_and c g) (bit_and d h)
and_word a b c d e f g h ha hb hc he hf hg = rw (and_block 8 _ _ a e ha he, and_block 8 _ _ b f hb hf, and_block 8 d h c g hc hg)

-- a byte's digits below the eighth, the eighth, and what comes of it
low : (a : ℕ) → bit_and a 127 ≡ a % 128
low a = and_mask a 7

eighth : (a : ℕ) → a < 256 → bit_and a 128 ≡ a / 128 * 128
eighth a h = and_high a 1 7 ∙ omega arith

out : (n : ℕ) → n < 2 → bit_and (n * 127) 27 ≡ n * 27
out = agree (λ n. bit_and (n * 127) 27) (λ n. n * 27) 2 refl

doubled-byte : (a : ℕ) → a < 256 → xor (a % 128 * 2) (a / 128 * 27) ≡ mul 2 a
unfolding mul times xtime xor
doubled-byte = agree (λ a. xor (a % 128 * 2) (a / 128 * 27)) (mul 2) 256 refl

module _ (a b c d : ℕ) (ha : a < 256) (hb : b < 256) (hc : c < 256) (hd : d < 256) where
  lows : bit_and (word a b c d) 0x7f7f7f7f * 2 ≡ word (a % 128 * 2) (b % 128 * 2) (c % 128 * 2) (d % 128 * 2)
  lows = rw (and_word a b c d 127 127 127 127 ha hb hc (lit< tt) (lit< tt) (lit< tt), low a, low b, low c, low d) (omega arith)

  eighths : bit_and (word a b c d) 0x80808080 ≡ word (a / 128) (b / 128) (c / 128) (d / 128) * 128
  eighths =
      rw (and_word a b c d 128 128 128 128 ha hb hc (lit< tt) (lit< tt) (lit< tt), eighth a ha, eighth b hb, eighth c hc, eighth d hd) (omega arith)

  outs : (e : ℕ) → e ≡ word (a / 128) (b / 128) (c / 128) (d / 128) * 128
      → bit_and (e - e / 128) 0x1b1b1b1b ≡ word (a / 128 * 27) (b / 128 * 27) (c / 128 * 27) (d / 128 * 27)
  outs e h =
      let less : e - e / 128 ≡ word (a / 128 * 127) (b / 128 * 127) (c / 128 * 127) (d / 128 * 127) = omega arith in
      let fit : (n : ℕ) → n < 256 → n / 128 * 127 < 256 = λ n g. omega arith in
      rw (less, and_word _ _ _ _ 27 27 27 27 (fit a ha) (fit b hb) (fit c hc) (lit< tt) (lit< tt) (lit< tt))
      (words (out _ (omega arith)) (out _ (omega arith)) (out _ (omega arith)) (out _ (omega arith)))

  word-doubled : xor (bit_and (word a b c d) 0x7f7f7f7f * 2)
      (bit_and (bit_and (word a b c d) 0x80808080 - bit_and (word a b c d) 0x80808080 / 128) 0x1b1b1b1b)
      ≡ word (mul 2 a) (mul 2 b) (mul 2 c) (mul 2 d)
  word-doubled =
      let l : (n : ℕ) → n < 256 → n % 128 * 2 < 256 = λ n g. omega arith in
      let o : (n : ℕ) → n < 256 → n / 128 * 27 < 256 = λ n g. omega arith in
      rw (lows, outs _ eighths, xor-word _ _ _ _ _ _ _ _ (l a ha) (l b hb) (l c hc) (o a ha) (o b hb) (o c hc))
      (words (doubled-byte a ha) (doubled-byte b hb) (doubled-byte c hc) (doubled-byte d hd))

pub doubled : (x : ℕ) → x < 4294967296
    → xor (bit_and x 0x7f7f7f7f * 2) (bit_and (bit_and x 0x80808080 - bit_and x 0x80808080 / 128) 0x1b1b1b1b) ≡ each (mul 2) x
unfolding each
doubled x h =
    ap (λ (x : ℕ). xor (bit_and x 0x7f7f7f7f * 2) (bit_and (bit_and x 0x80808080 - bit_and x 0x80808080 / 128) 0x1b1b1b1b)) (of-bytes x h)
    ∙ word-doubled _ _ _ _ (byte_at-lt x 0) (byte_at-lt x 1) (byte_at-lt x 2) (byte_at-lt x 3)

-- ---- a word turned

module _ (a b c d : ℕ) (ha : a < 256) (hb : b < 256) (hc : c < 256) (hd : d < 256) where
  word-up1 : rotate_right w32 (word a b c d) 8 ≡ word b c d a
  word-up1 =
      let e : word a b c d * 16777216 % 4294967296 ≡ a * 2 ^ 24 = omega arith in
      rw (e, or_shifted_r a 24 (word a b c d / 256) (omega arith)) (omega arith)

  word-up2 : rotate_right w32 (word a b c d) 16 ≡ word c d a b
  word-up2 =
      let e : word a b c d * 65536 % 4294967296 ≡ (b * 256 + a) * 2 ^ 16 = omega arith in
      rw (e, or_shifted_r (b * 256 + a) 16 (word a b c d / 65536) (omega arith)) (omega arith)

  word-up3 : rotate_right w32 (word a b c d) 24 ≡ word d a b c
  word-up3 =
      let e : word a b c d * 256 % 4294967296 ≡ ((c * 256 + b) * 256 + a) * 2 ^ 8 = omega arith in
      rw (e, or_shifted_r ((c * 256 + b) * 256 + a) 8 (word a b c d / 16777216) (omega arith)) (omega arith)

pub up1 : (x : ℕ) → x < 4294967296 → rotate_right w32 x 8 ≡ word (byte_at x 1) (byte_at x 2) (byte_at x 3) (byte_at x 0)
up1 x h =
    ap (λ (x : ℕ). rotate_right w32 x 8) (of-bytes x h)
    ∙ word-up1 _ _ _ _ (byte_at-lt x 0) (byte_at-lt x 1) (byte_at-lt x 2) (byte_at-lt x 3)

-- ---- the column

-- the multiples 14, 11, 13 and 9 of a word, the last three turned by one, two and three places
module _ (x : ℕ) where
  abbrev m : ℕ → ℕ → ℕ
  m k i = mul k (byte_at x i)

  m-byte : (k i : ℕ) → m k i < 256
  m-byte k i = mul-byte k (byte_at x i) (byte_at-lt x i)

  two : (j k i n : ℕ) → xor (m j i) (m k n) < 256
  two j k i n = byte _ _ (m-byte j i) (m-byte k n)

  column-summed : xor (xor (xor (word (m 14 0) (m 14 1) (m 14 2) (m 14 3)) (word (m 11 1) (m 11 2) (m 11 3) (m 11 0)))
      (word (m 13 2) (m 13 3) (m 13 0) (m 13 1))) (word (m 9 3) (m 9 0) (m 9 1) (m 9 2))
      ≡ column 14 11 13 9 (byte_at x 0) (byte_at x 1) (byte_at x 2) (byte_at x 3)
  unfolding column row xor4
  column-summed = simp (xor-word, byte, two, m-byte, assoc) refl

-- the numbers of the inverse row, by twos
numbers : (mul 2 2 ≡ 4) × (mul 2 4 ≡ 8) × (xor 8 1 ≡ 9) × (xor 9 2 ≡ 11) × (xor 9 4 ≡ 13) × (xor 8 4 ≡ 12) × (xor 12 2 ≡ 14)
unfolding mul times xtime xor
numbers = (refl, refl, refl, refl, refl, refl, refl)

-- what the code makes of the word x: x2, x4 and x8 are its multiples
module _ (x x2 x4 x8 : ℕ) (h : x < 4294967296) (e2 : x2 ≡ each (mul 2) x) (f4 : x4 ≡ each (mul 2) x2) (f8 : x8 ≡ each (mul 2) x4) where
  by4 : x4 ≡ each (mul 4) x
  by4 = f4 ∙ ap (each (mul 2)) e2 ∙ each-each 2 2 4 x (lit< tt) (lit< tt) numbers.0

  by8 : x8 ≡ each (mul 8) x
  by8 = f8 ∙ ap (each (mul 2)) by4 ∙ each-each 2 4 8 x (lit< tt) (lit< tt) numbers.1

  by9 : xor x8 x ≡ each (mul 9) x
  by9 = ap₂ xor by8 (each-one x h) ∙ each-sum 8 1 9 x numbers.2

  by11 : xor (xor x8 x) x2 ≡ each (mul 11) x
  by11 = ap₂ xor by9 e2 ∙ each-sum 9 2 11 x numbers.3

  by13 : xor (xor x8 x) x4 ≡ each (mul 13) x
  by13 = ap₂ xor by9 by4 ∙ each-sum 9 4 13 x numbers.4

  by14 : xor (xor x8 x4) x2 ≡ each (mul 14) x
  by14 = ap₂ xor (ap₂ xor by8 by4 ∙ each-sum 8 4 12 x numbers.5) e2 ∙ each-sum 12 2 14 x numbers.6

  pub column_by :
      xor (xor (xor (xor (xor x8 x4) x2) (rotate_right w32 (xor (xor x8 x) x2) 8)) (rotate_right w32 (xor (xor x8 x) x4) 16))
      (rotate_right w32 (xor x8 x) 24)
      ≡ column 14 11 13 9 (byte_at x 0) (byte_at x 1) (byte_at x 2) (byte_at x 3)
  unfolding each
  column_by =
      let f : (k i : ℕ) → mul k (byte_at x i) < 256 = m-byte x in
      rw (
        by14,
        by11,
        by13,
        by9,
        word-up1 _ _ _ _ (f 11 0) (f 11 1) (f 11 2) (f 11 3),
        word-up2 _ _ _ _ (f 13 0) (f 13 1) (f 13 2) (f 13 3),
        word-up3 _ _ _ _ (f 9 0) (f 9 1) (f 9 2) (f 9 3),
      )
      (column-summed x)
