-- SPDX-License-Identifier: MPL-2.0
-- An array that a function makes place by place.
use Rattle.laws.proofs.Kit.{ℕ, zero, suc, ◌+◌, ◌≤◌, ◌<◌, ◌≡◌, List, get_or, ⊎_elim, arith}
use denote.Param.Members.{Mut, Called}
use Rattle.std.specs.Array.{IsFromFnResultFrom, IsFromFnResult}
use Rattle.laws.proofs.Order.{lt-or-ge}

-- by calls from place i on, of a function that leaves what it captures as it was
made-from : {F : Type 0} (g : Mut F (ℕ × Unit {0}) ℕ) (value : ℕ → ℕ) (f : F)
    → ((i y : ℕ) (q : F) → Called g f (i, tt) y q → (y ≡ value i) × (q ≡ f))
    → (ys : List ℕ) (i n : ℕ) → IsFromFnResultFrom g f ys i n → (k : ℕ) → i ≤ k → k < i + n → get_or ys k 0 ≡ value k
made-from g value f pure ys i zero r k h p = absurd (omega arith)
made-from g value f pure ys i (suc n) (q, y, is, called, next) k h p =
    let gave = pure i y q called in
    ⊎_elim (λ (low : k < i + 1). let e : k ≡ i = omega arith in rw (e, is.1 0, gave.0))
    (λ (high : i + 1 ≤ k). made-from g value q (rw gave.1 pure) ys (i + 1) n next k high (omega arith)) (lt-or-ge k (i + 1))

-- each place has what the call for it gives
pub made-each : {F : Type 0} {g : Mut F (ℕ × Unit {0}) ℕ} {f : F} {ys : List ℕ} {n : ℕ} (value : ℕ → ℕ) → IsFromFnResult g f ys n
    → ((i y : ℕ) (q : F) → Called g f (i, tt) y q → (y ≡ value i) × (q ≡ f)) → (k : ℕ) → k < n → get_or ys k 0 ≡ value k
made-each {F} {g} {f} {ys} {n} value items pure k h = made-from g value f pure ys 0 n items.each k (omega arith) (omega arith)
