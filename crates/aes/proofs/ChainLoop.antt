-- SPDX-License-Identifier: MPL-2.0
-- A chain that a loop writes block by block: what its invariant says, how it begins, goes on and ends.
use Rattle.laws.proofs.Kit.{ℕ, zero, suc, ◌+◌, ◌-◌, ◌*◌, ◌/◌, ◌%◌, ◌≤◌, ◌<◌, ◌≡◌, refl, sym, ◌∙◌}
use Rattle.laws.proofs.Kit.{List, [], ◌++◌, append-nil, append_assoc, length, take, drop, get_or}
use Rattle.laws.proofs.Kit.{min, replicate, length-append, length-replicate, List·getD-eq-default, inl, inr}
use mathlib.Core.Logic.{◌⊎◌}
use Rattle.laws.proofs.Kit.{length-drop, take_all, length-take-le, drop-drop, get_or-take, arith}
use lib.ListN.{take-append-drop, get_or-append, get_or-replicate}
use Rattle.laws.proofs.Order.{lt-or-ge}
use lib.Seq.{get_or-drop, get_or-append_right, paste, length-paste, take-paste, drop-paste}
use Rattle.laws.proofs.Lists.{part-from}
use Rattle.std.specs.Simd.{first_chunks}
use Rattle.aes.specs.State.{load_block}
use Rattle.aes.specs.Cbc.{chain}
use Rattle.aes.proofs.Steps.{block-is}

-- ---- sixteen bytes of a list, from its front and from a place of it

pub loaded_front : (s : List ℕ) → 16 ≤ length s → load_block s ≡ take 16 s
unfolding load_block
loaded_front s h = block-is _ (take 16 s) (length-take-le 16 s h) (λ i g. sym (get_or-take 16 s i 0 g))

-- as many bytes as there are, at most sixteen, and zeros after them
pub loaded_short : (s r : List ℕ) (n : ℕ) → n ≡ min (length s) 16 → r ≡ take n s → r ++ drop n (replicate 16 0) ≡ load_block s
unfolding load_block
loaded_short s r n e f = rw f (sym (block-is _ (take n s ++ drop n (replicate 16 0)) long (λ i h. here i h (lt-or-ge i n))))
  where
    taken : length (take n s) ≡ n
    taken = length-take-le n s (omega arith)

    long : length (take n s ++ drop n (replicate 16 0)) ≡ 16
    long = rw (length-append, taken, length-drop, length-replicate) (omega arith)

    here : (i : ℕ) → i < 16 → (i < n) ⊎ (n ≤ i) → get_or s i 0 ≡ get_or (take n s ++ drop n (replicate 16 0)) i 0
    here i h (inl b) = rw (get_or-append (take n s) (drop n (replicate 16 0)) 0 i (omega (arith, taken)), get_or-take n s i 0 b)
    here i h (inr b) =
        let past : length (take n s) ≤ i = omega (arith, taken) in
        let m : n + (i - length (take n s)) ≡ i = omega (arith, taken) in
        rw (get_or-append_right (take n s) (drop n (replicate 16 0)) i 0 past, get_or-drop, m, get_or-replicate {A = ℕ} 16 i 0 0 h)
        (List·getD-eq-default s 0 (omega arith))

module _ (s : List ℕ) (at : ℕ) (h : at + 16 ≤ length s) where
  pub enough : 16 ≤ length (take (length s - at) (drop at s))
  enough = simp (part-from, length-drop) (omega arith)

  pub loaded : load_block (take (length s - at) (drop at s)) ≡ take 16 (drop at s)
  loaded = rw part-from (loaded_front (drop at s) (simp length-drop (omega arith)))

-- block n of the whole blocks of a list
pub chunk_at : (n k : ℕ) (s : List ℕ) → n < k → get_or (first_chunks 16 k s) n [] ≡ take 16 (drop (16 * n) s)
chunk_at n zero s h = absurd (omega arith)
chunk_at zero (suc k) s h = refl
chunk_at (suc n) (suc k) s h =
    let e : 16 * suc n ≡ 16 + 16 * n = omega arith in chunk_at n k (drop 16 s) (omega arith) ∙ rw (e, drop-drop (16 * n) 16 s)

-- ---- a chain written block by block

-- of the source s, after u₀, the first `at` bytes are done and `left` blocks are not; the target, at first t₀, is t, and the cipher block before is u
pub record Chained (out next : List ℕ → List ℕ → List ℕ) (s t₀ u₀ u t : List ℕ) (at : ℕ) : Type 0 where
  pub left : ℕ
  pub whole : at + 16 * left ≡ length s
  pub room : length s ≤ length t₀
  pub len : length t ≡ length t₀
  pub front : take at t ++ chain out next left u (drop at s) ≡ chain out next (length s / 16) u₀ s
  pub rest : drop at t ≡ drop at t₀

pub begin : (out next : List ℕ → List ℕ → List ℕ) (s t u : List ℕ) → length s % 16 ≡ 0 → length s ≤ length t → Chained out next s t u u t 0
begin out next s t u h g = record { left = length s / 16; whole = omega arith; room = g; len = refl; front = refl; rest = refl }

module _ {out next : List ℕ → List ℕ → List ℕ} {s t₀ u₀ u t : List ℕ} {at : ℕ} (b : Chained out next s t₀ u₀ u t at) where
  pub more : ((v b : List ℕ) → length (out v b) ≡ 16) → at < length s → (v t' : List ℕ)
      → v ≡ next (take 16 (drop at s)) (out u (take 16 (drop at s))) → t' ≡ paste t at (out u (take 16 (drop at s))) 16
      → Chained out next s t₀ u₀ v t' (at + 16)
  unfolding chain
  more long h v t' ev et =
      let c : List ℕ = out u (take 16 (drop at s)) in
      let sixteen : length c ≡ 16 = long u (take 16 (drop at s)) in
      let whole : take 16 c ≡ c = take_all 16 c (omega arith) in
      let n : b.left ≡ suc (b.left - 1) = omega (arith, b.whole) in
      rw (ev, et)
      (record {
        left = b.left - 1;
        whole = omega (arith, b.whole);
        room = b.room;
        len = length-paste t at c 16 (omega arith) (omega arith) ∙ b.len;
        front = rw (take-paste t at c 16 (omega arith) (omega arith), whole, append_assoc, ← drop-drop 16 at s) (rw n at b.front);
        rest = rw (drop-paste t at c 16 (omega arith) (omega arith), ← drop-drop 16 at t, b.rest) (drop-drop 16 at t₀);
      })

  pub done : length s ≤ at → t ≡ chain out next (length s / 16) u₀ s ++ drop (length s) t₀
  unfolding chain
  done h =
      let z : b.left ≡ 0 = omega (arith, b.whole) in
      let e : at ≡ length s = omega (arith, b.whole) in
      rw (← b.front, z, append-nil, ← e, ← b.rest) (sym (take-append-drop at t))
