-- SPDX-License-Identifier: MPL-2.0
-- Decryption undoes encryption, for every key and block.
use Rattle.laws.proofs.Kit.{ℕ, zero, suc, ◌<◌, ◌≡◌, List, [], length, get_or, lit<, arith}
use Rattle.aes.specs.State.{Block, Keys, sub_bytes, shift_rows, add_round_key, inv_shift_rows, inv_sub_bytes}
use Rattle.aes.specs.Key.{expand_key}
use Rattle.aes.specs.Cipher.{rounds, cipher, unrounds, inv_cipher}
use Rattle.aes.proofs.Steps.{add-length, add-block, add-add, sub-block, unsub-sub, shift-block, unshift-shift}
use Rattle.aes.proofs.Steps.{mix-block, unmix-mix}
use Rattle.aes.proofs.Schedule.{expand_key-keys}

-- ---- lengths and bytes

pub cipher-length : (ks : List (List ℕ)) (b : List ℕ) → length (cipher ks b) ≡ 16
unfolding cipher
cipher-length ks b = add-length _ _

unrounds-length : (ks : List (List ℕ)) (n : ℕ) (s : List ℕ) → length (unrounds ks n s) ≡ 16
unfolding unrounds
unrounds-length ks zero s = add-length _ _
unrounds-length ks (suc n) s = unrounds-length ks n _

pub inv_cipher-length : (ks : List (List ℕ)) (b : List ℕ) → length (inv_cipher ks b) ≡ 16
unfolding inv_cipher
inv_cipher-length ks b = unrounds-length ks 9 _

-- ---- decryption undoes encryption

module _ (ks : List (List ℕ)) (hk : Keys ks) (b : List ℕ) (hb : Block b) where
  abbrev begun : List ℕ
  begun = add_round_key b (get_or ks 0 [])

  rounds-block : (n : ℕ) → n < 11 → Block (rounds ks begun n)
  unfolding rounds
  rounds-block zero h = add-block b (get_or ks 0 []) hb (hk 0 h)
  rounds-block (suc n) h = add-block _ _ (mix-block _ (shift-block _ (sub-block _ (rounds-block n (omega arith))))) (hk (suc n) h)

  pub cipher-block : Block (cipher ks b)
  unfolding cipher
  cipher-block = add-block _ _ (shift-block _ (sub-block _ (rounds-block 9 (lit< tt)))) (hk 10 (lit< tt))

  sub-shift : (s : List ℕ) → Block s → inv_sub_bytes (inv_shift_rows (shift_rows (sub_bytes s))) ≡ s
  sub-shift s h = rw (unshift-shift (sub_bytes s) (sub-block s h).len) (unsub-sub s h)

  back : (n : ℕ) → n < 11 → unrounds ks n (shift_rows (sub_bytes (rounds ks begun n))) ≡ b
  unfolding rounds unrounds
  back zero h = rw (sub-shift _ (rounds-block zero h)) (add-add b (get_or ks 0 []) hb.len)
  back (suc n) h =
      let g : n < 11 = omega arith in
      let m = shift-block _ (sub-block _ (rounds-block n g)) in
      rw (sub-shift _ (rounds-block (suc n) h), add-add _ (get_or ks (suc n) []) (mix-block _ m).len, unmix-mix _ m) (back n g)

  pub inv_cipher-cipher : inv_cipher ks (cipher ks b) ≡ b
  unfolding inv_cipher cipher
  inv_cipher-cipher = rw (add-add _ (get_or ks 10 []) (shift-block _ (sub-block _ (rounds-block 9 (lit< tt)))).len) (back 9 (lit< tt))

-- for every key and block
pub decrypt-encrypt : (key b : List ℕ) → Block key → Block b → inv_cipher (expand_key key) (cipher (expand_key key) b) ≡ b
decrypt-encrypt key b hk hb = inv_cipher-cipher (expand_key key) (expand_key-keys key hk) b hb
