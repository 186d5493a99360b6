-- SPDX-License-Identifier: MPL-2.0
-- Two numbers compared, as a choice of two cases.
use Rattle.laws.proofs.Kit.{ℕ, zero, suc, ◌≤◌, ◌<◌, inl, inr, ⊎_elim}
use mathlib.Core.Logic.{◌⊎◌}
use Prim.Native.Nat.{zero-le, suc-le-suc}

pub lt-or-ge : (a b : ℕ) → (a < b) ⊎ (b ≤ a)
lt-or-ge a zero = inr zero-le
lt-or-ge zero (suc b) = inl (suc-le-suc zero-le)
lt-or-ge (suc a) (suc b) = ⊎_elim (λ p. inl (suc-le-suc p)) (λ q. inr (suc-le-suc q)) (lt-or-ge a b)
