-- SPDX-License-Identifier: MPL-2.0
-- FIPS 197, 5.1 and 5.3: Cipher(), InvCipher() and EqInvCipher() on one block, by a list of eleven round keys.
use Rattle.std.specs.Prelude.{◌&&◌, cond, List, [], ℕ, zero, suc, ◌-◌, ltb, get_or}
use Rattle.laws.specs.Runs.{run}
use Rattle.aes.specs.State.{sub_bytes, shift_rows, mix_columns, add_round_key, inv_shift_rows, inv_sub_bytes, inv_mix_columns}

-- The state s after the rounds 1 to n.
unfoldable pub rounds : List (List ℕ) → List ℕ → ℕ → List ℕ
rounds ks s zero = s
rounds ks s (suc n) = add_round_key (mix_columns (shift_rows (sub_bytes (rounds ks s n)))) (get_or ks (suc n) [])

-- Nine rounds between the first round key and the last round, which has no MixColumns.
unfoldable pub cipher : List (List ℕ) → List ℕ → List ℕ
cipher ks b = add_round_key (shift_rows (sub_bytes (rounds ks (add_round_key b (get_or ks 0 [])) 9))) (get_or ks 10 [])

-- What becomes of the state s by the rounds n down to 1 and the last, which has no InvMixColumns.
unfoldable pub unrounds : List (List ℕ) → ℕ → List ℕ → List ℕ
unrounds ks zero s = add_round_key (inv_sub_bytes (inv_shift_rows s)) (get_or ks 0 [])
unrounds ks (suc n) s = unrounds ks n (inv_mix_columns (add_round_key (inv_sub_bytes (inv_shift_rows s)) (get_or ks (suc n) [])))

-- 5.3: the last round key is added first, then the nine rounds and the last.
unfoldable pub inv_cipher : List (List ℕ) → List ℕ → List ℕ
inv_cipher ks b = unrounds ks 9 (add_round_key b (get_or ks 10 []))

-- The eleven round keys from the last one on.
unfoldable pub keys_back : List (List ℕ) → List (List ℕ)
keys_back ks = run (λ n. get_or ks (10 - n) []) 0 11

-- Round key i of KeyExpansionEIC() (5.3.5): InvMixColumns of it, but for the first and the last.
unfoldable pub eq_key : List (List ℕ) → ℕ → List ℕ
eq_key ks i = cond (ltb 0 i && ltb i 10) (inv_mix_columns (get_or ks i [])) (get_or ks i [])

-- The eleven round keys of EqInvCipher().
unfoldable pub eq_keys : List (List ℕ) → List (List ℕ)
eq_keys ks = run (eq_key ks) 0 11
