-- SPDX-License-Identifier: MPL-2.0
-- FIPS 180-4 §6.2.2: the message schedule W of a block, the sixty-four rounds on the working variables a to h, and the hash value after
-- the block. A hash value and the working variables are both a `Vars`, eight words.
use Rattle.std.specs.Prelude.{ℕ, zero, suc, ◌+◌, List, [], ◌∷◌, ◌++◌, slice_index}
use Rattle.compression.specs.declared.Vars.{Vars}
use Rattle.compression.specs.Words.{plus, Ch, Maj, Σ0, Σ1, σ0, σ1}
use Rattle.compression.specs.Constants.{K256}

-- W_t = σ1(W_(t-2)) + W_(t-7) + σ0(W_(t-15)) + W_(t-16), of these four.
unfoldable pub mixed : ℕ → ℕ → ℕ → ℕ → ℕ
mixed w2 w7 w15 w16 = plus (plus (plus (σ1 w2) w7) (σ0 w15)) w16

-- The same, for t = 16 + n.
unfoldable pub next_word : List ℕ → ℕ → ℕ
next_word w n = mixed (slice_index w (14 + n)) (slice_index w (9 + n)) (slice_index w (1 + n)) (slice_index w n)

-- W_0 to W_(15+n): the words of the block, and n more.
unfoldable pub schedule : List ℕ → ℕ → List ℕ
schedule m zero = m
schedule m (suc n) = schedule m n ++ (next_word (schedule m n) n ∷ [])

-- T1 = h + Σ1(e) + Ch(e, f, g) + K_t + W_t.
unfoldable pub T1 : Vars → ℕ → ℕ → ℕ
T1 v k w = plus (plus (plus (plus v.h (Σ1 v.e)) (Ch v.e v.f v.g)) k) w

-- T2 = Σ0(a) + Maj(a, b, c).
unfoldable pub T2 : Vars → ℕ
T2 v = plus (Σ0 v.a) (Maj v.a v.b v.c)

-- One round, with K_t and W_t: h = g, g = f, f = e, e = d + T1, d = c, c = b, b = a, a = T1 + T2.
unfoldable pub round : Vars → ℕ → ℕ → Vars
round v k w =
    record { a = plus (T1 v k w) (T2 v); b = v.a; c = v.b; d = v.c; e = plus v.d (T1 v k w); f = v.e; g = v.f; h = v.g }

-- The first n rounds.
unfoldable pub rounds : Vars → List ℕ → ℕ → Vars
rounds v w zero = v
rounds v w (suc n) = round (rounds v w n) (slice_index K256 n) (slice_index w n)

-- Eight words added to eight.
unfoldable pub added : Vars → Vars → Vars
added x y =
    record {
      a = plus x.a y.a;
      b = plus x.b y.b;
      c = plus x.c y.c;
      d = plus x.d y.d;
      e = plus x.e y.e;
      f = plus x.f y.f;
      g = plus x.g y.g;
      h = plus x.h y.h;
    }

-- The hash value after a block of sixteen words.
unfoldable pub compress : Vars → List ℕ → Vars
compress v m = added v (rounds v (schedule m 48) 64)
