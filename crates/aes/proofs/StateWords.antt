-- SPDX-License-Identifier: MPL-2.0
-- The state as four words: their bytes, also with the words of a key added, and words that are made of a block's columns.
use Rattle.laws.proofs.Kit.{ℕ, ◌*◌, ◌/◌, ◌^◌, ◌≡◌, refl, ◌∙◌, ap, List, [], ◌∷◌, get_or, xor_shr, arith}
use Rattle.std.specs.Int.{w32, from_le_bytes, to_le_bytes}
use native.Mathlib.Nat.{div-one}
use lib.Bits.{xor_mod}
use Rattle.laws.specs.Bytes.{AreBytes}
use Rattle.laws.proofs.ByteLists.{nil-bytes, cons-bytes, append-bytes}
use Rattle.laws.specs.Runs.{run}
use Rattle.field.specs.Xor.{xor}
use Rattle.field.specs.Words.{word, byte_at}
use Rattle.field.proofs.Each.{byte_at-lt, word-at0, word-at1, word-at2, word-at3}
use Rattle.aes.specs.declared.columns.State.{State}
use Rattle.aes.specs.State.{block, Block, add_round_key}
use Rattle.aes.specs.Words.{bytes_of}
use Rattle.aes.proofs.Steps.{all-bytes, block-is}

-- ---- words and their bytes

-- the four words are the four columns of the list m
abbrev pub Columns : List ℕ → ℕ → ℕ → ℕ → ℕ → Type 0
Columns m a b c d = (a ≡ word (get_or m 0 0) (get_or m 1 0) (get_or m 2 0) (get_or m 3 0))
    × (b ≡ word (get_or m 4 0) (get_or m 5 0) (get_or m 6 0) (get_or m 7 0))
    × (c ≡ word (get_or m 8 0) (get_or m 9 0) (get_or m 10 0) (get_or m 11 0))
    × (d ≡ word (get_or m 12 0) (get_or m 13 0) (get_or m 14 0) (get_or m 15 0))

-- the bytes of a word
abbrev pub four : ℕ → List ℕ
four x = byte_at x 0 ∷ byte_at x 1 ∷ byte_at x 2 ∷ byte_at x 3 ∷ []

four_bytes : (x : ℕ) → AreBytes (four x)
four_bytes x = cons-bytes (byte_at-lt x 0) (cons-bytes (byte_at-lt x 1) (cons-bytes (byte_at-lt x 2) (cons-bytes (byte_at-lt x 3) nil-bytes)))

pub bytes_of-block : (s : State) → Block (bytes_of s)
unfolding bytes_of
bytes_of-block s =
    let all = append-bytes (four_bytes s.a) (append-bytes (four_bytes s.b) (append-bytes (four_bytes s.c) (four_bytes s.d))) in
    record { len = refl; bytes = λ i h. all.at i }

pub block-by : (s : State) (b : List ℕ) → bytes_of s ≡ b → Block b
block-by s b e = rw (← e) (bytes_of-block s)

-- a word put together of its bytes, and taken apart
pub joined : (a b c d : ℕ) → from_le_bytes w32 (a ∷ b ∷ c ∷ d ∷ []) ≡ word a b c d
joined a b c d = omega arith

pub apart : (x : ℕ) → to_le_bytes w32 x ≡ four x
apart x = rw (div-one x)

-- ---- words added: AddRoundKey

pub byte_at-sum : (x y m : ℕ) → byte_at (xor x y) m ≡ xor (byte_at x m) (byte_at y m)
unfolding xor
byte_at-sum x y m = rw (xor_shr x y (8 * m), xor_mod (x / 2 ^ (8 * m)) (y / 2 ^ (8 * m)) 8)

pub words-added : (s k : State)
    → bytes_of (record { a = xor s.a k.a; b = xor s.b k.b; c = xor s.c k.c; d = xor s.d k.d })
    ≡ add_round_key (bytes_of s) (bytes_of k)
unfolding bytes_of add_round_key block run
words-added s k = simp byte_at-sum refl

-- ---- words made of columns

-- the words of a list alone
pub columns-bytes : (m : List ℕ) → Block m → (s : State) → Columns m s.a s.b s.c s.d → bytes_of s ≡ m
unfolding bytes_of block run
columns-bytes m b s (ea, eb, ec, ed) =
    rw (ea, eb, ec, ed)
    (simp (word-at0, word-at1, word-at2, word-at3, all-bytes b) (block-is (λ i. get_or m i 0) m b.len (λ i h. refl)))

-- the words of a list with the words of a key added
pub columns-added : (m : List ℕ) → Block m → (s k : State) (p q r u : ℕ) → Columns m p q r u
    → s.a ≡ xor p k.a → s.b ≡ xor q k.b → s.c ≡ xor r k.c → s.d ≡ xor u k.d → bytes_of s ≡ add_round_key m (bytes_of k)
columns-added m b s k p q r u e ea eb ec ed =
    (λ t. bytes_of (record { a = ea t; b = eb t; c = ec t; d = ed t }))
    ∙ words-added (record { a = p; b = q; c = r; d = u }) k ∙ ap (λ (x : List ℕ). add_round_key x (bytes_of k)) (columns-bytes m b _ e)
