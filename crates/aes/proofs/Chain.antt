-- SPDX-License-Identifier: MPL-2.0
-- Cipher block chaining: lengths, and that decryption undoes encryption for any number of blocks.
use Rattle.laws.proofs.Kit.{ℕ, zero, suc, ◌+◌, ◌*◌, ◌/◌, ◌%◌, ◌<◌, ◌≡◌, refl, ◌∙◌, List, length, take, drop, get_or, length-append, length-drop}
use Rattle.laws.proofs.Kit.{take_all, take_at, length-take-le, drop_at, get_or-take, arith}
use lib.ListN.{take-append-drop}
use lib.Seq.{get_or-drop}
use Rattle.aes.specs.State.{Block, Keys, add_round_key}
use Rattle.aes.specs.Cipher.{inv_cipher}
use Rattle.aes.specs.Cbc.{chain, cbc_encrypt_block, cbc_decrypt_block, cbc_encrypt, cbc_decrypt}
use Rattle.aes.proofs.Steps.{add-length, add-block, add-add}
use Rattle.aes.proofs.Undo.{cipher-length, cipher-block, inv_cipher-cipher}

-- ---- lengths

pub encrypt-long : (ks : List (List ℕ)) (v b : List ℕ) → length (cbc_encrypt_block ks v b) ≡ 16
unfolding cbc_encrypt_block
encrypt-long ks v b = cipher-length ks (add_round_key b v)

pub decrypt-long : (ks : List (List ℕ)) (v b : List ℕ) → length (cbc_decrypt_block ks v b) ≡ 16
unfolding cbc_decrypt_block
decrypt-long ks v b = add-length (inv_cipher ks b) v

module _ (out next : List ℕ → List ℕ → List ℕ) (long : (v b : List ℕ) → length (out v b) ≡ 16) where
  chain_length : (n : ℕ) (v s : List ℕ) → length (chain out next n v s) ≡ n * 16
  unfolding chain
  chain_length zero v s = refl
  chain_length (suc n) v s = rw (length-append, long, chain_length n) (omega arith)

-- the length is kept where it is a multiple of 16
pub cbc_encrypt-length : (ks : List (List ℕ)) (v s : List ℕ) → length s % 16 ≡ 0 → length (cbc_encrypt ks v s) ≡ length s
unfolding cbc_encrypt
cbc_encrypt-length ks v s h = chain_length (cbc_encrypt_block ks) (λ b c. c) (encrypt-long ks) (length s / 16) v s ∙ omega arith

pub cbc_decrypt-length : (ks : List (List ℕ)) (v s : List ℕ) → length s % 16 ≡ 0 → length (cbc_decrypt ks v s) ≡ length s
unfolding cbc_decrypt
cbc_decrypt-length ks v s h = chain_length (cbc_decrypt_block ks) (λ b c. b) (decrypt-long ks) (length s / 16) v s ∙ omega arith

-- ---- decryption undoes encryption

-- n whole blocks of bytes
pub record Blocks (n : ℕ) (s : List ℕ) : Type 0 where
  pub len : length s ≡ n * 16
  pub bytes : (i : ℕ) → i < n * 16 → get_or s i 0 < 256

first_block : (n : ℕ) (s : List ℕ) → Blocks (suc n) s → Block (take 16 s)
first_block n s b =
    record {
      len = length-take-le 16 s (omega (arith, b.len));
      bytes = λ i h. rw (get_or-take 16 s i 0 h) (b.bytes i (omega arith));
    }

later-blocks : (n : ℕ) (s : List ℕ) → Blocks (suc n) s → Blocks n (drop 16 s)
later-blocks n s b =
    record {
      len = length-drop 16 s ∙ omega (arith, b.len);
      bytes = λ i h. rw get_or-drop (b.bytes (16 + i) (omega arith));
    }

module _ (ks : List (List ℕ)) (hk : Keys ks) where
  undone : (n : ℕ) (v s : List ℕ) → Block v → Blocks n s
      → chain (cbc_decrypt_block ks) (λ b c. b) n v (chain (cbc_encrypt_block ks) (λ b c. c) n v s) ≡ s
  unfolding chain cbc_encrypt_block cbc_decrypt_block
  undone zero v s hv hs = take_all 0 s (omega (arith, hs.len))
  undone (suc n) v s hv hs =
      let bp = first_block n s hs in
      let bx = add-block (take 16 s) v bp hv in
      let bc = cipher-block ks hk _ bx in
      rw (take_at _ _ 16 bc.len, drop_at _ _ 16 bc.len, inv_cipher-cipher ks hk _ bx, add-add (take 16 s) v bp.len)
      (rw (undone n _ (drop 16 s) bc (later-blocks n s hs)) (take-append-drop 16 s))

  pub cbc_decrypt-cbc_encrypt : (n : ℕ) (v s : List ℕ) → Block v → Blocks n s → cbc_decrypt ks v (cbc_encrypt ks v s) ≡ s
  unfolding cbc_decrypt cbc_encrypt
  cbc_decrypt-cbc_encrypt n v s hv hs =
      let e : length s / 16 ≡ n = omega (arith, hs.len) in
      let f : length (cbc_encrypt ks v s) / 16 ≡ n = omega (arith, hs.len, cbc_encrypt-length ks v s (omega (arith, hs.len))) in
      rw (f, e) (undone n v s hv hs)
