-- SPDX-License-Identifier: MPL-2.0
-- A block's words, the blocks of a message, and of a message after a block that was hashed already.
use Rattle.laws.proofs.Kit.{ℕ, zero, suc, ◌+◌, ◌*◌, ◌/◌, ◌≤◌, ◌<◌, ◌≡◌, refl, ap, List, [], ◌++◌, length, take, get_or, take_all, take-suc}
use Rattle.laws.proofs.Kit.{length-append, add-one, arith}
use Rattle.laws.specs.Bytes.{be32, bytes_at}
use Rattle.laws.proofs.Parts.{part-back}
use Rattle.compression.specs.declared.Vars.{Vars}
use Rattle.sha256.specs.Digests.{words, after_block, blocks, hashed}
use Rattle.sha256.proofs.Laying.{bytes_at-past}

-- words that are each at its place
words-front : (block ws : List ℕ) (n : ℕ) → n ≤ length ws → ((i : ℕ) → i < n → get_or ws i 0 ≡ be32 block (4 * i)) → take n ws ≡ words block n
unfolding words
words-front block ws zero h each = refl
words-front block ws (suc n) h each =
    rw (take-suc ws n 0 h, words-front block ws n (omega arith) (λ i p. each i (omega arith)), each n (omega arith))

pub words_by : (block ws : List ℕ) → length ws ≡ 16 → ((i : ℕ) → i < 16 → get_or ws i 0 ≡ be32 block (4 * i)) → ws ≡ words block 16
words_by block ws l each = rw (take_all 16 ws (omega arith)) at (words-front block ws 16 (omega arith) each)

-- one block more
pub blocks_more : (v : Vars) (m : List ℕ) (n : ℕ) → blocks v m (n + 1) ≡ after_block (blocks v m n) (bytes_at m (64 * n) 64)
unfolding blocks
blocks_more v m n = rw add-one

blocks-after : (v : Vars) (b m : List ℕ) → length b ≡ 64 → (n : ℕ) → blocks v (b ++ m) (suc n) ≡ blocks (after_block v b) m n
unfolding blocks
blocks-after v b m l zero = ap (after_block v) (part-back [] b m 0 64 refl l)
blocks-after v b m l (suc n) = rw (blocks-after v b m l n, bytes_at-past b m (64 * suc n) (64 * n) 64 (omega arith))

-- a message after one block, from the hash value after that block
pub hashed_after : (v : Vars) (b m : List ℕ) → length b ≡ 64 → hashed v (b ++ m) ≡ hashed (after_block v b) m
unfolding hashed
hashed_after v b m l =
    let e : length (b ++ m) / 64 ≡ suc (length m / 64) = rw length-append (omega arith) in
    rw e (blocks-after v b m l (length m / 64))
