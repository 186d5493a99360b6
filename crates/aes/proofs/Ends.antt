-- SPDX-License-Identifier: MPL-2.0
-- Each block of a decrypted message by itself, the first and the last above all.
use Rattle.laws.proofs.Kit.{ℕ, zero, suc, ◌+◌, ◌*◌, ◌/◌, ◌≤◌, ◌<◌, ◌≡◌, refl, ◌∙◌, List, length, take, drop}
use Rattle.laws.proofs.Kit.{length-drop, take_all, take_at, drop_at, drop-drop, arith}
use Rattle.aes.specs.Cbc.{chain, cbc_decrypt_block, cbc_decrypt, block_before}
use Rattle.aes.proofs.Chain.{decrypt-long}

-- ---- block k

-- block k + 1 of a list is block k of what follows its first
block-after : (k : ℕ) (s : List ℕ) → drop (16 * suc k) s ≡ drop (16 * k) (drop 16 s)
block-after k s = let e : 16 * suc k ≡ 16 + 16 * k = omega arith in rw (e, drop-drop (16 * k) 16 s)

later-before : (k : ℕ) (v s : List ℕ) → block_before (suc k) v s ≡ block_before k (take 16 s) (drop 16 s)
unfolding block_before
later-before zero v s = refl
later-before (suc k) v s = rw (block-after k s)

block-decrypted : (ks : List (List ℕ)) (m k : ℕ) (v s : List ℕ) → k < m
    → take 16 (drop (16 * k) (chain (cbc_decrypt_block ks) (λ b c. b) m v s)) ≡ cbc_decrypt_block ks (block_before k v s) (take 16 (drop (16 * k) s))
unfolding chain block_before
block-decrypted ks zero k v s h = absurd (omega arith)
block-decrypted ks (suc m) zero v s h = take_at (cbc_decrypt_block ks v (take 16 s)) _ 16 (decrypt-long ks v (take 16 s))
block-decrypted ks (suc m) (suc k) v s h =
    rw (block-after k s, block-after k _, drop_at _ _ 16 (decrypt-long ks v (take 16 s)), later-before k v s)
    (block-decrypted ks m k (take 16 s) (drop 16 s) (omega arith))

cbc_decrypt-block : (ks : List (List ℕ)) (v s : List ℕ) (k : ℕ) → 16 * k + 16 ≤ length s
    → take 16 (drop (16 * k) (cbc_decrypt ks v s)) ≡ cbc_decrypt_block ks (block_before k v s) (take 16 (drop (16 * k) s))
unfolding cbc_decrypt
cbc_decrypt-block ks v s k h = block-decrypted ks (length s / 16) k v s (omega arith)

-- the first block
pub cbc_decrypt-first : (ks : List (List ℕ)) (v s : List ℕ) → 16 ≤ length s → take 16 (cbc_decrypt ks v s) ≡ cbc_decrypt_block ks v (take 16 s)
unfolding block_before
cbc_decrypt-first ks v s h = cbc_decrypt-block ks v s 0 (omega arith)

-- the last of n + 1 blocks
pub cbc_decrypt-last : (ks : List (List ℕ)) (v s : List ℕ) (n : ℕ) → length s ≡ 16 * n + 16
    → take 16 (drop (16 * n) (cbc_decrypt ks v s)) ≡ cbc_decrypt_block ks (block_before n v s) (drop (16 * n) s)
cbc_decrypt-last ks v s n e =
    let a : length (drop (16 * n) s) ≤ 16 = simp length-drop (omega arith) in
    cbc_decrypt-block ks v s n (omega arith) ∙ rw take_all
