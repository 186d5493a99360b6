-- SPDX-License-Identifier: MPL-2.0
-- The bytes at a place are those that stand from it on, and zeros past the end.
use Rattle.laws.proofs.Kit.{ℕ, zero, suc, ◌+◌, ◌<◌, ◌≤◌, ◌≡◌, sym, ◌∙◌, List, length, take, drop, get_or, arith}
use Rattle.std.proofs.lemmas.Grind.{common_steps}
use Rattle.std.proofs.lemmas.List.{ext_get_or}
use Rattle.laws.specs.Bytes.{be8, bytes_at}
use Rattle.laws.proofs.Parts.{length-bytes_at}

get_or-bytes_at : (m : List ℕ) (at n i : ℕ) → i < n → get_or (bytes_at m at n) i 0 ≡ be8 m (at + i)
unfolding bytes_at
get_or-bytes_at m at zero i h = absurd (omega arith)
get_or-bytes_at m at (suc n) i h = grind (arith, common_steps, get_or-bytes_at m at n, length-bytes_at m at n)

pub placed : (m l : List ℕ) (at n : ℕ) → length l ≡ n → ((i : ℕ) → i < n → get_or l i 0 ≡ be8 m (at + i)) → l ≡ bytes_at m at n
placed m l at n e h =
    ext_get_or 0 l (bytes_at m at n) (e ∙ sym (length-bytes_at m at n))
    (λ i k. h i (omega arith) ∙ sym (get_or-bytes_at m at n i (omega arith)))

-- The front of what stands there, where it is that long.
pub whole : (m rest l : List ℕ) (at n : ℕ) → rest ≡ drop at m → n ≤ length rest → l ≡ take n rest → l ≡ bytes_at m at n
whole m rest l at n e h f = placed m l at n (grind (arith, common_steps)) (λ i k. grind (arith, common_steps))
