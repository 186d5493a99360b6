-- SPDX-License-Identifier: MPL-2.0
-- SP 800-38A, 6.2: cipher block chaining, over as many whole blocks as the list has; what is left over past them is not part of the result.
use Rattle.std.specs.Prelude.{Bool, ◌&&◌, cond, List, [], ◌++◌, ℕ, zero, suc, ◌*◌, ◌/◌, ◌%◌, eqb, leb, length, take, drop}
use Rattle.aes.specs.State.{add_round_key}
use Rattle.aes.specs.Cipher.{cipher, inv_cipher}

-- n blocks of s after the cipher block v: `out v b` is what becomes of the block b after v, and `next b c`, of b and what became of it, is the
-- cipher block that the one after it is chained to.
unfoldable pub chain : (List ℕ → List ℕ → List ℕ) → (List ℕ → List ℕ → List ℕ) → ℕ → List ℕ → List ℕ → List ℕ
chain out next zero v s = []
chain out next (suc n) v s =
    let c = out v (take 16 s) in
    c ++ chain out next n (next (take 16 s) c) (drop 16 s)

-- One block of CBC encryption: the cipher block before it added, and encrypted.
unfoldable pub cbc_encrypt_block : List (List ℕ) → List ℕ → List ℕ → List ℕ
cbc_encrypt_block ks v b = cipher ks (add_round_key b v)

-- One block of CBC decryption: decrypted, and the cipher block before it added.
unfoldable pub cbc_decrypt_block : List (List ℕ) → List ℕ → List ℕ → List ℕ
cbc_decrypt_block ks v b = add_round_key (inv_cipher ks b) v

-- 6.2, CBC Encryption: C_1 = CIPH_K(P_1 ⊕ IV), C_j = CIPH_K(P_j ⊕ C_(j-1)). The cipher block is what a block becomes.
unfoldable pub cbc_encrypt : List (List ℕ) → List ℕ → List ℕ → List ℕ
cbc_encrypt ks v s = chain (cbc_encrypt_block ks) (λ b c. c) (length s / 16) v s

-- 6.2, CBC Decryption: P_1 = CIPH_K⁻¹(C_1) ⊕ IV, P_j = CIPH_K⁻¹(C_j) ⊕ C_(j-1). The cipher block is the block itself.
unfoldable pub cbc_decrypt : List (List ℕ) → List ℕ → List ℕ → List ℕ
cbc_decrypt ks v s = chain (cbc_decrypt_block ks) (λ b c. b) (length s / 16) v s

-- The source is whole blocks, and the target has room for them.
abbrev pub blocks_fit : List ℕ → List ℕ → Bool
blocks_fit source target = eqb (length source % 16) 0 && leb (length source) (length target)

-- What the target holds in the end: `out` and, past it, what it held; all that it held if the source does not fit.
abbrev pub written : List ℕ → List ℕ → List ℕ → List ℕ
written source out target = cond (blocks_fit source target) (out ++ drop (length source) target) target

-- The cipher block before block k of s: before the first stands the vector.
unfoldable pub block_before : ℕ → List ℕ → List ℕ → List ℕ
block_before zero v s = v
block_before (suc k) v s = take 16 (drop (16 * k) s)
