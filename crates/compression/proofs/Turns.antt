-- SPDX-License-Identifier: MPL-2.0
-- A turn of rounds on a ring that has the words of a schedule is that many rounds more on the schedule.
use Rattle.laws.proofs.Kit.{ℕ, zero, suc, ◌+◌, ◌<◌, ◌≡◌, List, get_or, arith}
use native.Mathlib.Nat.{add-zero, add-suc}
use Rattle.compression.specs.declared.Vars.{Vars}
use Rattle.compression.specs.Compression.{rounds}
use Rattle.compression.specs.Ring.{turn}

pub turn-rounds : (start : Vars) (s w : List ℕ) (t n : ℕ) → ((i : ℕ) → i < n → get_or w i 0 ≡ get_or s (t + i) 0)
    → turn (rounds start s t) w t n ≡ rounds start s (t + n)
unfolding turn rounds
turn-rounds start s w t zero has = rw (add-zero t)
turn-rounds start s w t (suc n) has = rw (add-suc t n, turn-rounds start s w t n (λ i h. has i (omega arith)), has n (omega arith))
