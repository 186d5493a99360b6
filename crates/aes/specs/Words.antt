-- SPDX-License-Identifier: MPL-2.0
-- The state as the code holds it: words, a column to each, its first byte the lowest; and what a round makes of them.
use Rattle.std.specs.Prelude.{List, [], ◌∷◌, ℕ, zero, suc, get_or}
use Rattle.field.specs.Xor.{xor}
use Rattle.field.specs.Words.{word, byte_at, turned}
use Rattle.aes.specs.declared.columns.State.{State}

-- The sixteen bytes of the four words.
unfoldable pub bytes_of : State → List ℕ
bytes_of s =
    byte_at s.a 0 ∷ byte_at s.a 1 ∷ byte_at s.a 2 ∷ byte_at s.a 3 ∷
    byte_at s.b 0 ∷ byte_at s.b 1 ∷ byte_at s.b 2 ∷ byte_at s.b 3 ∷
    byte_at s.c 0 ∷ byte_at s.c 1 ∷ byte_at s.c 2 ∷ byte_at s.c 3 ∷
    byte_at s.d 0 ∷ byte_at s.d 1 ∷ byte_at s.d 2 ∷ byte_at s.d 3 ∷ []

-- The sums of the words.
abbrev pub sum : State → State → State
sum s k = record { a = xor s.a k.a; b = xor s.b k.b; c = xor s.c k.c; d = xor s.d k.d }

-- The words the other way round.
abbrev pub reversed : State → State
reversed s = record { a = s.d; b = s.c; c = s.b; d = s.a }

-- The block that the words are, the last column first.
abbrev pub reversed_bytes : State → List ℕ
reversed_bytes s = bytes_of (reversed s)

-- The word k with what four rows add to it: the first is looked up in t by the lowest byte of a, the last by the highest of d, turned by three bytes.
unfoldable pub rows_added : (ℕ → ℕ) → ℕ → ℕ → ℕ → ℕ → ℕ → ℕ
rows_added t a b c d k =
    xor (xor (xor (xor k (turned (t (byte_at a 0)) 0)) (turned (t (byte_at b 1)) 1)) (turned (t (byte_at c 2)) 2)) (turned (t (byte_at d 3)) 3)

-- What f makes of four bytes, as a word: of the lowest of a first, of the highest of d last.
unfoldable pub substituted : (ℕ → ℕ) → ℕ → ℕ → ℕ → ℕ → ℕ
substituted f a b c d = word (f (byte_at a 0)) (f (byte_at b 1)) (f (byte_at c 2)) (f (byte_at d 3))

-- A round on words: row m of a word is looked up by the word m places before it, from the end again before the first.
unfoldable pub round_words : (ℕ → ℕ) → State → State → State
round_words t s k =
    record {
      a = rows_added t s.a s.d s.c s.b k.a;
      b = rows_added t s.b s.a s.d s.c k.b;
      c = rows_added t s.c s.b s.a s.d k.c;
      d = rows_added t s.d s.c s.b s.a k.d;
    }

-- The last round on words.
unfoldable pub last_words : (ℕ → ℕ) → State → State → State
last_words f s k =
    record {
      a = xor (substituted f s.a s.d s.c s.b) k.a;
      b = xor (substituted f s.b s.a s.d s.c) k.b;
      c = xor (substituted f s.c s.b s.a s.d) k.c;
      d = xor (substituted f s.d s.c s.b s.a) k.d;
    }

-- No words: what a list of words has past its end.
abbrev pub no_words : State
no_words = record { a = 0; b = 0; c = 0; d = 0 }

-- What becomes of the words s by n rounds and the last, by the round keys ks: number n is added where n more rounds come.
unfoldable pub rounds_left : (ℕ → ℕ) → (ℕ → ℕ) → List State → ℕ → State → State
rounds_left t f ks zero s = last_words f s (get_or ks 0 no_words)
rounds_left t f ks (suc n) s = rounds_left t f ks n (round_words t s (get_or ks (suc n) no_words))
