-- SPDX-License-Identifier: MPL-2.0
-- A sum of tests is false where each is, a product true where each is.
use Rattle.laws.proofs.Kit.{◌≡◌, refl, sym, Bool, true, false, true≢false, ◌&&◌, ◌||◌}

pub or-false : (a b : Bool) → (a || b) ≡ false → (a ≡ false) × (b ≡ false)
or-false true b e = absurd (true≢false e)
or-false false b e = (refl, e)

pub and-true : (a b : Bool) → (a && b) ≡ true → (a ≡ true) × (b ≡ true)
and-true true b e = (refl, e)
and-true false b e = absurd (true≢false (sym e))

pub and_one : (a : Bool) → (a && true) ≡ a
and_one true = refl
and_one false = refl

pub and_assoc : (a b c : Bool) → (a && (b && c)) ≡ ((a && b) && c)
and_assoc true b c = refl
and_assoc false b c = refl

pub and-false-right : (a b : Bool) → (a && b) ≡ false → a ≡ true → b ≡ false
and-false-right true b e h = e
and-false-right false b e h = absurd (true≢false (sym h))

pub or4-false : (a b c d : Bool) → (a || b || c || d) ≡ false → (a ≡ false) × (b ≡ false) × (c ≡ false) × (d ≡ false)
or4-false true b c d e = absurd (true≢false e)
or4-false false true c d e = absurd (true≢false e)
or4-false false false true d e = absurd (true≢false e)
or4-false false false false d e = (refl, refl, refl, e)

pub or_assoc : (a b c : Bool) → ((a || b) || c) ≡ (a || (b || c))
or_assoc true b c = refl
or_assoc false b c = refl

pub or-none : (a : Bool) → (a || false) ≡ a
or-none true = refl
or-none false = refl

pub or-true : (a : Bool) → (a || true) ≡ true
or-true true = refl
or-true false = refl

pub and-or : (a b c : Bool) → (a && (b || c)) ≡ ((a && b) || (a && c))
and-or true b c = refl
and-or false b c = refl
