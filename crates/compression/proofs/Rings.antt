-- SPDX-License-Identifier: MPL-2.0
-- The schedule of a block, and the ring of its last sixteen words. The ring's law is `ring-word`: W_t stands at place t mod 16.
use Rattle.laws.proofs.Kit.{ℕ, zero, suc, ◌+◌, ◌-◌, ◌%◌, min, ◌≤◌, ◌<◌, ◌≡◌, sym, ◌∙◌, List, [], length, get_or, length-set, get_or-set_same, get_or-set_other}
use Rattle.laws.proofs.Kit.{length-append, add-zero, ⊎_elim, arith}
use Rattle.std.proofs.Common.{add-suc}
use lib.ListN.{get_or-append}
use lib.Seq.{get_or_at}
use Rattle.laws.proofs.Order.{lt-or-ge}
use Rattle.compression.specs.Compression.{next_word, schedule}
use Rattle.compression.specs.Ring.{put_word, ring}

length-schedule : (m : List ℕ) (n : ℕ) → length (schedule m n) ≡ length m + n
unfolding schedule
length-schedule m zero = omega arith
length-schedule m (suc n) = rw length-append (omega (arith, length-schedule m n))

-- what a schedule has, a longer one has
schedule-front : (m : List ℕ) (n d i : ℕ) → i < length m + n → get_or (schedule m n) i 0 ≡ get_or (schedule m (n + d)) i 0
unfolding schedule
schedule-front m n zero i p = rw add-zero
schedule-front m n (suc d) i p =
    rw (add-suc, get_or-append (schedule m (n + d)) _ 0 i (omega (arith, length-schedule m (n + d)))) (schedule-front m n d i p)

-- the words that follow n, where W_n stands at place 0 again
ring-on : (m : List ℕ) (n k : ℕ) → n % 16 ≡ 0 → ring m (n + k) ≡ ring (ring m n) k
unfolding ring
ring-on m n zero h = rw add-zero
ring-on m n (suc k) h =
    let e : (n + k) % 16 ≡ k % 16 = omega arith in
    rw (add-suc, e, ring-on m n k h)

-- the words of the next turn, before the last
pub ring_next : (m : List ℕ) (t : ℕ) → t % 16 ≡ 0 → t < 48 → ring m (min (t + 16) 48) ≡ ring (ring m t) 16
ring_next m t h k =
    let e : min (t + 16) 48 ≡ t + 16 = omega arith in
    rw e (ring-on m t 16 h)

module _ (m : List ℕ) (sixteen : length m ≡ 16) where
  length-ring : (n : ℕ) → length (ring m n) ≡ 16
  unfolding ring put_word
  length-ring zero = sixteen
  length-ring (suc n) = rw length-set (length-ring n)

  -- W_t stands at place t mod 16, for every t that the ring has after n words more: W_n to W_(15+n)
  pub ring-word : (n t : ℕ) → n ≤ t → t < 16 + n → get_or (ring m n) (t % 16) 0 ≡ get_or (schedule m n) t 0
  unfolding ring put_word schedule next_word
  ring-word zero t h k = let e : t % 16 ≡ t = omega arith in rw e
  ring-word (suc n) t h k =
      let s = schedule m n in
      let long = length-schedule m n in
      let at : (d : ℕ) → d < 16 → get_or (ring m n) ((n % 16 + d) % 16) 0 ≡ get_or s (d + n) 0 =
      λ d p. let e : (n % 16 + d) % 16 ≡ (d + n) % 16 = omega arith in rw e (ring-word n (d + n) (omega arith) (omega arith)) in
      let first : get_or (ring m n) (n % 16) 0 ≡ get_or s n 0 = ring-word n n (omega arith) (omega arith) in
      ⊎_elim
      (λ (p : t < 16 + n).
      get_or-set_other (ring m n) (n % 16) (t % 16) _ 0 (λ e. absurd (omega (arith, e)))
      ∙ ring-word n t (omega arith) p ∙ sym (get_or-append s _ 0 t (omega arith)))
      (λ (p : 16 + n ≤ t).
      let e : t ≡ 16 + n = omega arith in
      let f : t % 16 ≡ n % 16 = omega arith in
      let g : n % 16 < length (ring m n) = omega (arith, length-ring n) in
      rw (f, get_or-set_same (ring m n) (n % 16) _ 0 g, at 14 (omega arith), at 9 (omega arith), at 1 (omega arith), first, e)
      (sym (get_or_at s _ [] 0 (16 + n) (omega arith))))
      (lt-or-ge t (16 + n))

  -- the words of a turn of rounds
  pub turn-words : (n i : ℕ) → n % 16 ≡ 0 → n ≤ 48 → i < 16 → get_or (ring m n) i 0 ≡ get_or (schedule m 48) (n + i) 0
  turn-words n i h k p =
      let e : (n + i) % 16 ≡ i = omega arith in
      let f : n + (48 - n) ≡ 48 = omega arith in
      rw e at (ring-word n (n + i) (omega arith) (omega arith)) ∙ rw f at (schedule-front m n (48 - n) (n + i) (omega arith))
