-- SPDX-License-Identifier: MPL-2.0
-- Four looked-up words, added, are the column: the rows of their sum are the rows of the matrix, turned.
use Rattle.laws.proofs.Kit.{ℕ, ◌+◌, ◌*◌, ◌/◌, ◌%◌, ◌<◌, ◌≡◌, refl, sym, ◌∙◌, ap, lit<, arith}
use native.Mathlib.Nat.{mul-add-div_right, div-eq_of_lt}
use lib.Bits.{xor_block}
use Rattle.field.specs.Xor.{xor}
use Rattle.field.specs.Field.{mul}
use Rattle.field.specs.Mix.{xor4, row}
use Rattle.field.specs.Words.{word, column, spread, twice, turned, mixes, unmixes}
use Rattle.field.proofs.Xor.{byte, assoc}
use Rattle.field.proofs.Linear.{mul-byte}
use Rattle.field.proofs.Sbox.{sbox_by, sbox-by, inv_sbox_by, inv_sbox-by}
use Rattle.field.proofs.Mix.{turn}

-- two words are added byte by byte; the highest byte may be any number
pub xor-word : (a b c d e f g h : ℕ) → a < 256 → b < 256 → c < 256 → e < 256 → f < 256 → g < 256
    → xor (word a b c d) (word e f g h) ≡ word (xor a e) (xor b f) (xor c g) (xor d h)
unfolding xor
xor-word a b c d e f g h ha hb hc he hf hg = rw (xor_block 8 _ _ a e ha he, xor_block 8 _ _ b f hb hf, xor_block 8 d h c g hc hg)

pub words : {a b c d e f g h : ℕ} → a ≡ e → b ≡ f → c ≡ g → d ≡ h → word a b c d ≡ word e f g h
words p q r s = λ i. word (p i) (q i) (r i) (s i)

spread-column : (k l m n a b c d : ℕ) → a < 256 → b < 256 → c < 256 → d < 256
    → xor (xor (xor (spread k l m n a) (spread l m n k b)) (spread m n k l c)) (spread n k l m d) ≡ column k l m n a b c d
unfolding spread column row xor4
spread-column k l m n a b c d ha hb hc hd =
    simp (xor-word, byte, mul-byte, assoc)
    (words refl (sym (turn (mul k b) (mul l c) (mul m d) (mul n a))) (turn _ _ _ _ ∙ turn _ _ _ _) (turn _ _ _ _))

-- ---- a word read out of two: turned by as many bytes as it is read below the top, it serves that many rows below

-- the digits of x in the middle: above l, which is below n, and below h
middle : (n x h r l : ℕ) → 0 < n → l < n → r < 4294967296 → x ≡ (h * 4294967296 + r) * n + l → x / n % 4294967296 ≡ r
middle n x h r l hn hl hr e = rw (e, mul-add-div_right hn (h * 4294967296 + r) l, div-eq_of_lt hl) (omega arith)

module _ (a b c d : ℕ) (ha : a < 256) (hb : b < 256) (hc : c < 256) (hd : d < 256) where
  turn0 : turned (twice (word a b c d)) 0 ≡ word a b c d
  unfolding twice
  turn0 = middle 4294967296 _ 0 _ (word a b c d) (lit< tt) (omega arith) (omega arith) (omega arith)

  turn1 : turned (twice (word a b c d)) 1 ≡ word d a b c
  unfolding twice
  turn1 = middle 16777216 _ d _ (word a b c 0) (lit< tt) (omega arith) (omega arith) (omega arith)

  turn2 : turned (twice (word a b c d)) 2 ≡ word c d a b
  unfolding twice
  turn2 = middle 65536 _ (word c d 0 0) _ (word a b 0 0) (lit< tt) (omega arith) (omega arith) (omega arith)

  turn3 : turned (twice (word a b c d)) 3 ≡ word b c d a
  unfolding twice
  turn3 = middle 256 _ (word b c d 0) _ a (lit< tt) (omega arith) (omega arith) (omega arith)

-- four words looked up and added to another are that one and the column of what the table makes of the four bytes
module _ (f : ℕ → ℕ) (k l m n : ℕ) where
  abbrev entry : ℕ → ℕ
  entry x = twice (spread k l m n (f x))

  pub looked-up : ((x : ℕ) → x < 256 → f x < 256) → (j a b c d : ℕ) → a < 256 → b < 256 → c < 256 → d < 256
      → xor (xor (xor (xor j (turned (entry a) 0)) (turned (entry b) 1)) (turned (entry c) 2)) (turned (entry d) 3)
      ≡ xor j (column k l m n (f a) (f b) (f c) (f d))
  unfolding spread
  looked-up bytes j a b c d ha hb hc hd =
      simp (turn0, turn1, turn2, turn3, mul-byte, bytes, assoc)
      (ap (xor j) (simp assoc at (spread-column k l m n (f a) (f b) (f c) (f d) (bytes a ha) (bytes b hb) (bytes c hc) (bytes d hd))))

-- ---- what the tables of words are tested against: the substitution by the list of inverses

unfoldable pub mixes_by : ℕ → ℕ
mixes_by x = twice (spread 0x02 0x03 0x01 0x01 (sbox_by x))

unfoldable pub unmixes_by : ℕ → ℕ
unmixes_by x = twice (spread 0x0E 0x0B 0x0D 0x09 (inv_sbox_by x))

pub mixes-by : (x : ℕ) → x < 256 → mixes_by x ≡ mixes x
unfolding mixes_by mixes
mixes-by x h = ap (λ (s : ℕ). twice (spread 2 3 1 1 s)) (sbox-by x h)

pub unmixes-by : (x : ℕ) → x < 256 → unmixes_by x ≡ unmixes x
unfolding unmixes_by unmixes
unmixes-by x h = ap (λ (s : ℕ). twice (spread 14 11 13 9 s)) (inv_sbox-by x h)
