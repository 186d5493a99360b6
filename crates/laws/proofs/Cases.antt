-- SPDX-License-Identifier: MPL-2.0
-- By a test: what holds where it is true and where it is false holds. By an answer's case: what is made of each is what is made of the whole.
use Rattle.laws.proofs.Kit.{◌≡◌, refl, Bool, true, false}

-- Where the goal names the test, `rw` with the fact puts its value there.
pub on : {A : Type 0} (t : Bool) → (t ≡ true → A) → (t ≡ false → A) → A
on true p q = p refl
on false p q = q refl

-- What is made of a value, where the value is known.
pub told : {A B : Type 0} (f : A → B) (a b : A) (s : B) → a ≡ b → s ≡ f b → s ≡ f a
told f a b s p q = rw p q
