-- SPDX-License-Identifier: MPL-2.0
-- What an answer says of the number that stood before its value: it is the value where the number is 0, else the refusal of that number. So what a
-- step refuses, each step is refused with that stands on it.
use Rattle.laws.proofs.Kit.{ℕ, ◌≡◌, sym, ◌∙◌, ap, Bool, true, false, true≢false, eqb, eqb-true, eqb-false, ne_eqb, eq-eqb}
use Rattle.std.specs.Prelude.{Result, Ok, Err}
use Rattle.laws.proofs.Cases.{on}
use Rattle.laws.specs.Rows.{unless}

abbrev is_value : {A : Type 0} → Result A ℕ → Bool
is_value (Ok a) = true
is_value (Err n) = false

abbrev number_or : {A : Type 0} → ℕ → Result A ℕ → ℕ
number_or m (Ok a) = m
number_or m (Err n) = n

abbrev value_or : {A : Type 0} → A → Result A ℕ → A
value_or other (Ok a) = a
value_or other (Err n) = other

module _ {A : Type 0} (n : ℕ) (a : A) where
  pub unless-none : n ≡ 0 → unless n a ≡ Ok a
  unless-none z = rw (eq-eqb n 0 z)

  pub unless-some : (n ≡ 0 → ⊥) → unless n a ≡ Err n
  unless-some z = rw (ne_eqb n 0 z)

  -- A value: no refusal stood before it.
  pub passed : {b : A} → Ok b ≡ unless n a → n ≡ 0
  passed e = on (eqb n 0) (λ z. eqb-true n 0 z) (λ z. absurd (true≢false (ap is_value (e ∙ unless-some (eqb-false n 0 z)))))

  -- A refusal: its number is what stood before the value.
  pub refused : {k : ℕ} → Err k ≡ unless n a → (k ≡ n) × (n ≡ 0 → ⊥)
  refused e =
      let some : n ≡ 0 → ⊥ = λ z. true≢false (ap is_value (sym (e ∙ unless-none z))) in
      (ap (number_or 0) (e ∙ unless-some some), some)

-- Of two values that are answered alike each is the other.
pub value : {A : Type 0} {a b : A} → ◌≡◌ {A = Result A ℕ} (Ok a) (Ok b) → a ≡ b
value {A} {a} {b} e = ap (λ (r : Result A ℕ). value_or a r) e

-- A refusal goes on, whatever the value would have been.
pub goes-on : {A B : Type 0} (n : ℕ) (a : A) (b : B) {k : ℕ} → Err k ≡ unless n a → Err k ≡ unless n b
goes-on n a b e =
    let w = refused n a e in
    ap Err w.0 ∙ sym (unless-some n b w.1)
