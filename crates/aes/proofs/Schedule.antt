-- SPDX-License-Identifier: MPL-2.0
-- The round keys: each is a block, and the code makes the next.
use Rattle.laws.proofs.Kit.{ℕ, zero, suc, ◌/◌, ◌%◌, ◌<◌, ◌≡◌, refl, List, [], lit<, arith}
use Rattle.laws.specs.Runs.{run}
use Rattle.field.specs.Xor.{xor}
use Rattle.field.specs.Sbox.{sbox}
use Rattle.field.specs.Words.{word, byte_at, each}
use Rattle.laws.proofs.Runs.{run-from-zero}
use Rattle.field.proofs.Xor.{zero-r, byte, assoc}
use Rattle.field.proofs.Linear.{xtime-byte}
use Rattle.field.proofs.Sbox.{sbox-byte}
use Rattle.field.proofs.Each.{byte_at-lt, word-at0, word-at1, word-at2, word-at3}
use Rattle.aes.specs.declared.columns.State.{State}
use Rattle.aes.specs.State.{block, Block, Keys}
use Rattle.aes.specs.Words.{bytes_of}
use Rattle.aes.specs.Key.{rcon, turned_byte, next_byte, next_key, round_key, expand_key}
use Rattle.aes.proofs.Steps.{all-bytes, block_of}
use Rattle.aes.proofs.StateWords.{byte_at-sum}

-- ---- one round key more

-- as the code adds its words: to the first the substitutes p of the last word y, turned, and the round constant c, and each sum to the next
module _ (k : State) (c y p : ℕ) where
  abbrev first : ℕ
  first = xor (xor k.a p) c

  abbrev second : ℕ
  second = xor k.b first

  abbrev third : ℕ
  third = xor k.c second

  pub next_words : c < 256 → y ≡ word (byte_at k.d 1) (byte_at k.d 2) (byte_at k.d 3) (byte_at k.d 0) → p ≡ each sbox y
      → bytes_of (record { a = first; b = second; c = third; d = xor k.d third }) ≡ next_key (bytes_of k) c
  unfolding each next_key next_byte turned_byte block run bytes_of
  next_words h ey ep =
      let sub : (m : ℕ) → sbox (byte_at y m) < 256 = λ m. sbox-byte _ (byte_at-lt y m) in
      let of : (m : ℕ) → byte_at k.d m < 256 = byte_at-lt k.d in
      let p0 : byte_at p 0 ≡ sbox (byte_at y 0) = rw ep (word-at0 _ _ _ _ (sub 0) (sub 1) (sub 2) (sub 3)) in
      let p1 : byte_at p 1 ≡ sbox (byte_at y 1) = rw ep (word-at1 _ _ _ _ (sub 0) (sub 1) (sub 2) (sub 3)) in
      let p2 : byte_at p 2 ≡ sbox (byte_at y 2) = rw ep (word-at2 _ _ _ _ (sub 0) (sub 1) (sub 2) (sub 3)) in
      let p3 : byte_at p 3 ≡ sbox (byte_at y 3) = rw ep (word-at3 _ _ _ _ (sub 0) (sub 1) (sub 2) (sub 3)) in
      let y0 : byte_at y 0 ≡ byte_at k.d 1 = rw ey (word-at0 _ _ _ _ (of 1) (of 2) (of 3) (of 0)) in
      let y1 : byte_at y 1 ≡ byte_at k.d 2 = rw ey (word-at1 _ _ _ _ (of 1) (of 2) (of 3) (of 0)) in
      let y2 : byte_at y 2 ≡ byte_at k.d 3 = rw ey (word-at2 _ _ _ _ (of 1) (of 2) (of 3) (of 0)) in
      let y3 : byte_at y 3 ≡ byte_at k.d 0 = rw ey (word-at3 _ _ _ _ (of 1) (of 2) (of 3) (of 0)) in
      let c0 : byte_at c 0 ≡ c = omega arith in
      let c1 : byte_at c 1 ≡ 0 = omega arith in
      let c2 : byte_at c 2 ≡ 0 = omega arith in
      let c3 : byte_at c 3 ≡ 0 = omega arith in
      simp (byte_at-sum, p0, p1, p2, p3, y0, y1, y2, y3, c0, c1, c2, c3, zero-r, assoc) refl

-- ---- round keys are blocks

rcon-byte : (n : ℕ) → rcon n < 256
unfolding rcon
rcon-byte zero = lit< tt
rcon-byte (suc n) = xtime-byte (rcon n) (rcon-byte n)

turned-byte : (k : List ℕ) (c r : ℕ) → c < 256 → Block k → turned_byte k c r < 256
unfolding turned_byte
turned-byte k c zero hc b = byte _ _ (sbox-byte _ (all-bytes b 13)) hc
turned-byte k c (suc r) hc b = sbox-byte _ (all-bytes b _)

next-byte : (k : List ℕ) (c j r : ℕ) → c < 256 → Block k → next_byte k c j r < 256
unfolding next_byte
next-byte k c zero r hc b = byte _ _ (all-bytes b r) (turned-byte k c r hc b)
next-byte k c (suc j) r hc b = byte _ _ (all-bytes b _) (next-byte k c j r hc b)

next-block : (k : List ℕ) (c : ℕ) → c < 256 → Block k → Block (next_key k c)
unfolding next_key
next-block k c hc b = block_of _ (λ i h. next-byte k c (i / 4) (i % 4) hc b)

round_key-block : (key : List ℕ) → Block key → (n : ℕ) → Block (round_key key n)
unfolding round_key
round_key-block key b zero = b
round_key-block key b (suc n) = next-block (round_key key n) (rcon n) (rcon-byte n) (round_key-block key b n)

pub expand_key-keys : (key : List ℕ) → Block key → Keys (expand_key key)
unfolding expand_key
expand_key-keys key b i h = rw (run-from-zero (round_key key) 11 i [] h) (round_key-block key b i)
