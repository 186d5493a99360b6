-- SPDX-License-Identifier: MPL-2.0
-- The bytes from the first place on are the block at the front.
use Rattle.laws.proofs.Kit.{ℕ, ◌≡◌, refl, List}
use Rattle.laws.specs.Bytes.{bytes_at}
use Rattle.aes.specs.State.{load_block, block}
use Rattle.laws.specs.Runs.{run}

pub loaded : (s : List ℕ) → bytes_at s 0 16 ≡ load_block s
unfolding load_block block run bytes_at
loaded s = refl
