-- SPDX-License-Identifier: MPL-2.0
-- Lists given by their elements.
use Rattle.std.specs.Prelude.{List, [], ◌∷◌, ◌++◌, ℕ, zero, suc}

-- f i, f (i + 1) and so on, n of them.
unfoldable pub run {ℓ} : {A : Type ℓ} → (ℕ → A) → ℕ → ℕ → List A
run f i zero = []
run f i (suc n) = f i ∷ run f (suc i) n

-- The first n values of f: the list `run f 0 n`, from its end on, as a loop makes it.
unfoldable pub gathered : {A : Type 0} (f : ℕ → A) (n : ℕ) → List A
gathered f zero = []
gathered f (suc n) = gathered f n ++ (f n ∷ [])

-- The table of f: what f gives for each byte, in order.
unfoldable pub table : (ℕ → ℕ) → List ℕ
table f = run f 0 256
