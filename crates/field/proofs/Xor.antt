-- SPDX-License-Identifier: MPL-2.0
-- The laws of `xor`.
use Rattle.laws.proofs.Kit.{ℕ, ◌*◌, ◌/◌, ◌%◌, ◌<◌, ◌≡◌, refl, sym, lit<, add-zero, bit_xor, xor_shr}
use lib.Bits.{xor_comm, xor_self, xor_zero_r, xor_zero_l, xor_mod, xor_lt, xor_block}
use Rattle.laws.proofs.Xor.{xor_assoc}
use Rattle.field.specs.Xor.{xor}

pub is-bit-xor : (a b : ℕ) → xor a b ≡ bit_xor a b
unfolding xor
is-bit-xor a b = refl

pub comm : (a b : ℕ) → xor a b ≡ xor b a
unfolding xor
comm = xor_comm

pub self : (a : ℕ) → xor a a ≡ 0
unfolding xor
self = xor_self

pub zero-r : (a : ℕ) → xor a 0 ≡ a
unfolding xor
zero-r = xor_zero_r

pub zero-l : (a : ℕ) → xor 0 a ≡ a
unfolding xor
zero-l = xor_zero_l

pub byte : (a b : ℕ) → a < 256 → b < 256 → xor a b < 256
unfolding xor
byte a b ha hb = xor_lt 8 a b ha hb

pub assoc : (a b c : ℕ) → xor (xor a b) c ≡ xor a (xor b c)
unfolding xor
assoc = xor_assoc

-- twice the same cancels
pub cancel : (a b : ℕ) → xor (xor a b) b ≡ a
cancel a b = rw (assoc a b b, self b, zero-r a)

-- two sums of two, regrouped
pub swap4 : (a b c d : ℕ) → xor (xor a b) (xor c d) ≡ xor (xor a c) (xor b d)
swap4 a b c d = rw (assoc a b, ← assoc b c d, comm b c, assoc c b d, ← assoc a c)

-- a sum doubled and halved, its lowest digit and its eighth
pub double : (a b : ℕ) → xor a b * 2 ≡ xor (a * 2) (b * 2)
unfolding xor
double a b = simp add-zero at (sym (xor_block 1 a b 0 0 (lit< tt) (lit< tt)))

pub half : (a b : ℕ) → xor a b / 2 ≡ xor (a / 2) (b / 2)
unfolding xor
half a b = xor_shr a b 1

pub lowest : (a b : ℕ) → xor a b % 2 ≡ xor (a % 2) (b % 2)
unfolding xor
lowest a b = xor_mod a b 1

pub top : (a b : ℕ) → xor a b / 128 ≡ xor (a / 128) (b / 128)
unfolding xor
top a b = xor_shr a b 7
