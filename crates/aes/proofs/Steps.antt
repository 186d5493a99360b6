-- SPDX-License-Identifier: MPL-2.0
-- The steps of a round: each takes a block to a block, and each is undone by its inverse.
use Rattle.laws.proofs.Kit.{ℕ, ◌+◌, ◌*◌, ◌/◌, ◌%◌, ◌≤◌, ◌<◌, ◌≡◌, refl, sym, subst, List, length, get_or, List·getD-eq-default, lit<, ⊎_elim}
use Rattle.laws.proofs.Kit.{arith}
use native.Mathlib.Nat.{add-mod-mod}
use Rattle.laws.proofs.Order.{lt-or-ge}
use Rattle.field.specs.Mix.{unmixed}
use Rattle.laws.proofs.Below.{agree, bounded}
use Rattle.laws.proofs.Runs.{run_length, run-from-zero, run_is}
use Rattle.field.proofs.Xor.{byte, cancel}
use Rattle.field.proofs.Sbox.{sbox-byte, inv_sbox-byte, inv_sbox-sbox}
use Rattle.field.proofs.Mix.{mixed-byte, unmixed-byte, unmixed-mixed, row-xor}
use Rattle.aes.specs.State.{block, Block, sub_bytes, shifted, shift_rows, down, mix_columns, add_round_key}
use Rattle.aes.specs.State.{unshifted, inv_shift_rows, inv_sub_bytes, inv_mix_columns}

-- ---- blocks by their bytes

block-length : (f : ℕ → ℕ) → length (block f) ≡ 16
unfolding block
block-length f = run_length f 0 16

pub block_at : (f : ℕ → ℕ) (i : ℕ) → i < 16 → get_or (block f) i 0 ≡ f i
unfolding block
block_at f i h = run-from-zero f 16 i 0 h

pub block_of : (f : ℕ → ℕ) → ((i : ℕ) → i < 16 → f i < 256) → Block (block f)
block_of f h = record { len = block-length f; bytes = λ i g. rw (block_at f i g) (h i g) }

-- past its end too there is a byte, 0
pub all-bytes : {s : List ℕ} → Block s → (i : ℕ) → get_or s i 0 < 256
all-bytes {s} b i = ⊎_elim (b.bytes i) (λ h. rw (List·getD-eq-default s 0 (subst (λ (n : ℕ). n ≤ i) (sym b.len) h)) (lit< tt)) (lt-or-ge i 16)

-- a block is s where its bytes are those of s
pub block-is : (f : ℕ → ℕ) (s : List ℕ) → length s ≡ 16 → ((i : ℕ) → i < 16 → f i ≡ get_or s i 0) → block f ≡ s
unfolding block
block-is f s e h = sym (run_is 0 f 16 s e (λ i g. sym (h i g)))

-- ---- AddRoundKey

pub add-length : (s k : List ℕ) → length (add_round_key s k) ≡ 16
unfolding add_round_key
add-length s k = block-length _

pub add-block : (s k : List ℕ) → Block s → Block k → Block (add_round_key s k)
unfolding add_round_key
add-block s k bs bk = block_of _ (λ i h. byte _ _ (all-bytes bs i) (all-bytes bk i))

pub add-add : (s k : List ℕ) → length s ≡ 16 → add_round_key (add_round_key s k) k ≡ s
unfolding add_round_key
add-add s k e = block-is _ s e (λ i h. rw (block_at _ i h) (cancel (get_or s i 0) (get_or k i 0)))

-- ---- SubBytes

pub sub-block : (s : List ℕ) → Block s → Block (sub_bytes s)
unfolding sub_bytes
sub-block s b = block_of _ (λ i h. sbox-byte (get_or s i 0) (b.bytes i h))

pub unsub-block : (s : List ℕ) → Block s → Block (inv_sub_bytes s)
unfolding inv_sub_bytes
unsub-block s b = block_of _ (λ i h. inv_sbox-byte (get_or s i 0) (b.bytes i h))

pub unsub-sub : (s : List ℕ) → Block s → inv_sub_bytes (sub_bytes s) ≡ s
unfolding sub_bytes inv_sub_bytes
unsub-sub s b = block-is _ s b.len (λ i h. rw (block_at _ i h) (inv_sbox-sbox (get_or s i 0) (b.bytes i h)))

-- ---- ShiftRows

unshifted-lt : (i : ℕ) → i < 16 → unshifted i < 16
unfolding unshifted
unshifted-lt = bounded unshifted 16 16 refl

shifted-unshifted : (i : ℕ) → i < 16 → shifted (unshifted i) ≡ i
unfolding shifted unshifted
shifted-unshifted = agree (λ i. shifted (unshifted i)) (λ i. i) 16 refl

pub shift-block : (s : List ℕ) → Block s → Block (shift_rows s)
unfolding shift_rows
shift-block s b = block_of _ (λ i h. all-bytes b (shifted i))

pub unshift-block : (s : List ℕ) → Block s → Block (inv_shift_rows s)
unfolding inv_shift_rows
unshift-block s b = block_of _ (λ i h. all-bytes b (unshifted i))

pub unshift-shift : (s : List ℕ) → length s ≡ 16 → inv_shift_rows (shift_rows s) ≡ s
unfolding shift_rows inv_shift_rows
unshift-shift s e = block-is _ s e (λ i h. rw (block_at _ _ (unshifted-lt i h), shifted-unshifted i h))

-- ---- MixColumns

down_lt : (i j : ℕ) → i < 16 → down i j < 16
unfolding down
down_lt i j h = omega arith

down-zero : (i : ℕ) → down i 0 ≡ i
unfolding down
down-zero i = omega arith

down-down : (i j k : ℕ) → down (down i j) k ≡ down i ((j + k) % 4)
unfolding down
down-down i j k =
    let column : (4 * (i / 4) + (i + j) % 4) / 4 ≡ i / 4 = omega arith in
    let place : (4 * (i / 4) + (i + j) % 4 + k) % 4 ≡ (i + (j + k)) % 4 = omega arith in
    rw (column, place, add-mod-mod)

pub mix-block : (s : List ℕ) → Block s → Block (mix_columns s)
unfolding mix_columns
mix-block s b = block_of _ (λ i h. mixed-byte _ _ _ _ (all-bytes b _) (all-bytes b _) (all-bytes b _) (all-bytes b _))

pub unmix-block : (s : List ℕ) → Block s → Block (inv_mix_columns s)
unfolding inv_mix_columns
unmix-block s b = block_of _ (λ i h. unmixed-byte _ _ _ _ (all-bytes b _) (all-bytes b _) (all-bytes b _) (all-bytes b _))

pub unmix-mix : (s : List ℕ) → Block s → inv_mix_columns (mix_columns s) ≡ s
unfolding inv_mix_columns mix_columns
unmix-mix s b = block-is _ s b.len (λ i h. simp (block_at, down_lt, down-down, down-zero, unmixed-mixed, all-bytes b))

-- InvMixColumns of a sum is the sum of both
pub unmix-add : (s k : List ℕ) → Block s → Block k → inv_mix_columns (add_round_key s k) ≡ add_round_key (inv_mix_columns s) (inv_mix_columns k)
unfolding add_round_key inv_mix_columns unmixed
unmix-add s k bs bk = block-is _ _ (block-length _) (λ i h. simp (block_at, down_lt, row-xor, all-bytes bs, all-bytes bk))
