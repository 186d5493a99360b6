-- SPDX-License-Identifier: MPL-2.0
-- The laws of both directions. What the lookups give is one law, over the substitution and the coefficients; what else differs is the order of the
-- columns: the cipher's words are the last one first.
use Rattle.laws.proofs.Kit.{ℕ, zero, suc, ◌+◌, ◌-◌, ◌≤◌, ◌<◌, ◌≡◌, refl, sym, ◌∙◌, List, [], length, get_or, lt-ltb, lit<, arith}
use Rattle.laws.specs.Runs.{run}
use Rattle.laws.proofs.Runs.{run_length, run-from-zero, run_is}
use Rattle.std.specs.Prelude.{map}
use Rattle.std.proofs.lemmas.List.{get_or-map, length-map}
use Rattle.field.specs.Xor.{xor}
use Rattle.field.specs.Sbox.{sbox, inv_sbox}
use Rattle.field.specs.Mix.{mixed, unmixed}
use Rattle.field.specs.Words.{byte_at, column, spread, twice, mixes, unmixes, unmixed_word}
use Rattle.field.proofs.Xor.{comm}
use Rattle.field.proofs.Sbox.{sbox-byte, inv_sbox-byte}
use Rattle.field.proofs.Words.{looked-up}
use Rattle.field.proofs.Each.{byte_at-lt}
use Rattle.aes.specs.declared.columns.State.{State}
use Rattle.aes.specs.State.{block, Keys, sub_bytes, shifted, shift_rows, down, mix_columns, add_round_key}
use Rattle.aes.specs.State.{unshifted, inv_shift_rows, inv_sub_bytes, inv_mix_columns}
use Rattle.aes.specs.Words.{bytes_of, sum, reversed, reversed_bytes, rows_added, substituted, round_words, last_words, no_words}
use Rattle.aes.specs.Words.{rounds_left}
use Rattle.aes.specs.Cipher.{rounds, cipher, unrounds, inv_cipher, keys_back, eq_key, eq_keys}
use Rattle.aes.proofs.Steps.{sub-block, shift-block, mix-block, unsub-block, unshift-block, unmix-block, unmix-add}
use Rattle.aes.proofs.StateWords.{bytes_of-block, columns-bytes, columns-added, words-added}

-- ---- a round key added

pub sums-forth : (s k : State) → reversed_bytes (sum s k) ≡ add_round_key (reversed_bytes s) (reversed_bytes k)
sums-forth s k = words-added (reversed s) (reversed k)

sums-back : (s k : State) → bytes_of (sum s k) ≡ add_round_key (bytes_of s) (bytes_of k)
sums-back = words-added

-- ---- the rounds with MixColumns

-- what becomes of four bytes, one of each word, the first of the first and so on
abbrev taken : (ℕ → ℕ → ℕ → ℕ → ℕ) → (ℕ → ℕ) → ℕ → ℕ → ℕ → ℕ → ℕ
taken made f a b c d = made (f (byte_at a 0)) (f (byte_at b 1)) (f (byte_at c 2)) (f (byte_at d 3))

by-words : (f : ℕ → ℕ) → ((x : ℕ) → x < 256 → f x < 256) → (k l m n a b c d j : ℕ)
    → rows_added (λ x. twice (spread k l m n (f x))) a b c d j ≡ xor (taken (column k l m n) f a b c d) j
unfolding rows_added
by-words f fits k l m n a b c d j =
    looked-up f k l m n fits j _ _ _ _ (byte_at-lt a 0) (byte_at-lt b 1) (byte_at-lt c 2) (byte_at-lt d 3) ∙ comm _ _

words-forth : (s k : State)
    → reversed_bytes (round_words mixes s k) ≡ add_round_key (mix_columns (shift_rows (sub_bytes (reversed_bytes s)))) (reversed_bytes k)
unfolding round_words mixes mix_columns shift_rows shifted sub_bytes block run down bytes_of column mixed
words-forth s k =
    let found = by-words sbox sbox-byte 2 3 1 1 in
    columns-added _ (mix-block _ (shift-block _ (sub-block _ (bytes_of-block (reversed s))))) (reversed (round_words mixes s k)) (reversed k) _ _ _ _
    (refl, refl, refl, refl) (found s.d s.c s.b s.a k.d) (found s.c s.b s.a s.d k.c) (found s.b s.a s.d s.c k.b) (found s.a s.d s.c s.b k.a)

words-back : (s k : State)
    → bytes_of (round_words unmixes s k) ≡ add_round_key (inv_mix_columns (inv_sub_bytes (inv_shift_rows (bytes_of s)))) (bytes_of k)
unfolding round_words unmixes inv_mix_columns inv_shift_rows unshifted inv_sub_bytes block run down bytes_of column unmixed
words-back s k =
    let found = by-words inv_sbox inv_sbox-byte 14 11 13 9 in
    columns-added _ (unmix-block _ (unsub-block _ (unshift-block _ (bytes_of-block s)))) (round_words unmixes s k) k _ _ _ _
    (refl, refl, refl, refl) (found s.a s.d s.c s.b k.a) (found s.b s.a s.d s.c k.b) (found s.c s.b s.a s.d k.c) (found s.d s.c s.b s.a k.d)

-- ---- the last rounds, without MixColumns

bytes-forth : (s k : State) → reversed_bytes (last_words sbox s k) ≡ add_round_key (shift_rows (sub_bytes (reversed_bytes s))) (reversed_bytes k)
unfolding last_words substituted shift_rows shifted sub_bytes block run bytes_of
bytes-forth s k =
    columns-added _ (shift-block _ (sub-block _ (bytes_of-block (reversed s)))) (reversed (last_words sbox s k)) (reversed k) _ _ _ _
    (refl, refl, refl, refl) refl refl refl refl

bytes-back : (s k : State) → bytes_of (last_words inv_sbox s k) ≡ add_round_key (inv_sub_bytes (inv_shift_rows (bytes_of s))) (bytes_of k)
unfolding last_words substituted inv_shift_rows unshifted inv_sub_bytes block run bytes_of
bytes-back s k =
    columns-added _ (unsub-block _ (unshift-block _ (bytes_of-block s))) (last_words inv_sbox s k) k _ _ _ _
    (refl, refl, refl, refl) refl refl refl refl

-- ---- InvMixColumns of a round key

pub unmixed_key : (s : State)
    → bytes_of (record { a = unmixed_word s.a; b = unmixed_word s.b; c = unmixed_word s.c; d = unmixed_word s.d }) ≡ inv_mix_columns (bytes_of s)
unfolding unmixed_word inv_mix_columns block run down bytes_of column unmixed
unmixed_key s = columns-bytes _ (unmix-block _ (bytes_of-block s)) _ (refl, refl, refl, refl)

-- ---- one round less to come, and none

module _ (t f : ℕ → ℕ) (ks : List State) where
  pub one-less : (n : ℕ) (s r : State) → 0 < n → r ≡ round_words t s (get_or ks (n - 1 + 1) no_words)
      → rounds_left t f ks (n - 1) r ≡ rounds_left t f ks n s
  unfolding rounds_left
  one-less zero s r h e = absurd (omega arith)
  one-less (suc n) s r h e = let p : suc n - 1 ≡ n = omega arith in let q : n + 1 ≡ suc n = omega arith in rw (e, p, q)

  none-left : (s : State) → last_words f s (get_or ks 0 no_words) ≡ rounds_left t f ks 0 s
  unfolding rounds_left
  none-left s = refl

  pub all-done : (s₀ s r : State) (n : ℕ) → n ≤ 0 → rounds_left t f ks n s ≡ rounds_left t f ks 9 s₀
      → r ≡ last_words f s (get_or ks 0 no_words) → r ≡ rounds_left t f ks 9 s₀
  all-done s₀ s r n h left ended = let z : n ≡ 0 = omega arith in ended ∙ none-left s ∙ rw z at left

-- ---- the round keys as words

-- a list of eleven by what each is, and back
pub keys-are : (f : State → List ℕ) (g : ℕ → List ℕ) (w : List State) → length w ≡ 11 → ((n : ℕ) → n < 11 → f (get_or w n no_words) ≡ g n)
    → map f w ≡ run g 0 11
keys-are f g w l h =
    run_is [] g 11 (map f w) (length-map w f ∙ l) (λ n b. get_or-map f w n no_words [] (omega arith) ∙ h n b)

key_at : (f : State → List ℕ) (g : ℕ → List ℕ) (w : List State) → map f w ≡ run g 0 11 → (n : ℕ) → n < 11 → f (get_or w n no_words) ≡ g n
key_at f g w e n h =
    let long : length w ≡ 11 = sym (length-map w f) ∙ rw e (run_length g 0 11) in
    sym (get_or-map f w n no_words [] (omega arith)) ∙ rw e (run-from-zero g 11 n [] h)

module _ (ks : List (List ℕ)) where
  pub at_ends : (eq_key ks 0 ≡ get_or ks 0 []) × (eq_key ks 10 ≡ get_or ks 10 [])
  unfolding eq_key
  at_ends = (refl, refl)

  pub between : (n : ℕ) → 0 < n → n < 10 → eq_key ks n ≡ inv_mix_columns (get_or ks n [])
  unfolding eq_key
  between n h g = rw (lt-ltb 0 n h, lt-ltb n 10 g)

-- ---- all rounds

-- forth: i rounds are done where n are left before the last
module _ (ks : List (List ℕ)) (w : List State) (e : map reversed_bytes w ≡ keys_back ks) where
  key-forth : (n i : ℕ) → n + i ≡ 10 → reversed_bytes (get_or w n no_words) ≡ get_or ks i []
  unfolding keys_back
  key-forth n i h = let z : 10 - n ≡ i = omega arith in key_at reversed_bytes _ w e n (omega arith) ∙ rw z

  left-forth : (b : List ℕ) (n i : ℕ) → n + i ≡ 9 → (s : State) → reversed_bytes s ≡ rounds ks b i
      → reversed_bytes (rounds_left mixes sbox w n s) ≡ add_round_key (shift_rows (sub_bytes (rounds ks b 9))) (get_or ks 10 [])
  unfolding rounds_left rounds
  left-forth b zero i h s g = let z : i ≡ 9 = omega arith in rw (bytes-forth, key-forth 0 10 refl, g, z)
  left-forth b (suc n) i h s g =
      left-forth b n (suc i) (omega arith) (round_words mixes s (get_or w (suc n) no_words))
      (rw (words-forth, key-forth (suc n) (suc i) (omega arith), g))

  pub encrypted : (s : State) → reversed_bytes (rounds_left mixes sbox w 9 (sum s (get_or w 10 no_words))) ≡ cipher ks (reversed_bytes s)
  unfolding cipher rounds
  encrypted s =
      left-forth (add_round_key (reversed_bytes s) (get_or ks 0 [])) 9 0 refl _ (sums-forth s (get_or w 10 no_words) ∙ rw (key-forth 10 0 refl))

-- back
module _ (ks : List (List ℕ)) (hk : Keys ks) (w : List State) (e : map bytes_of w ≡ eq_keys ks) where
  key-back : (n : ℕ) → n < 11 → bytes_of (get_or w n no_words) ≡ eq_key ks n
  unfolding eq_keys
  key-back n h = key_at bytes_of (eq_key ks) w e n h

  left-back : (n : ℕ) → n ≤ 9 → (s : State) → bytes_of (rounds_left unmixes inv_sbox w n s) ≡ unrounds ks n (bytes_of s)
  unfolding rounds_left unrounds
  left-back zero h s = rw (bytes-back, key-back 0 (lit< tt), (at_ends ks).0)
  left-back (suc n) h s =
      let x = unsub-block _ (unshift-block _ (bytes_of-block s)) in
      let k = hk (suc n) (omega arith) in
      rw (
        left-back n (omega arith),
        words-back,
        key-back (suc n) (omega arith),
        between ks (suc n) (omega arith) (omega arith),
        ← unmix-add _ _ x k,
      )

  pub decrypted : (s : State) → bytes_of (rounds_left unmixes inv_sbox w 9 (sum s (get_or w 10 no_words))) ≡ inv_cipher ks (bytes_of s)
  unfolding inv_cipher
  decrypted s = left-back 9 (omega arith) _ ∙ rw (sums-back, key-back 10 (lit< tt), (at_ends ks).1)
