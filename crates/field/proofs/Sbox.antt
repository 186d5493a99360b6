-- SPDX-License-Identifier: MPL-2.0
-- The substitution has the standard's rule at each byte, nothing else has it, and the substitution back undoes it. Both are found by the list of
-- inverses, as the tables are tested.
use Rattle.laws.proofs.Kit.{ℕ, zero, suc, ◌<◌, ◌≡◌, refl, sym, ◌∙◌, ap, get_or, arith}
use Rattle.field.specs.Field.{mul, inverse}
use Rattle.field.specs.Sbox.{affine, unaffine, sbox, inv_sbox, Substitute}
use Rattle.field.proofs.Product.{mul-zero, times-comm}
use Rattle.field.proofs.Inverse.{inverses, one-inverse, inverse-byte, inverts, inverse-zero, inverse-at}
use Rattle.laws.proofs.Below.{agree}

pub sbox-substitutes : (b : ℕ) → b < 256 → Substitute b (sbox b)
unfolding sbox
sbox-substitutes b h =
    record {
      inverted = inverse b;
      a_byte = inverse-byte b h;
      zero-to-zero = λ e. ap inverse e ∙ inverse-zero;
      product-one = inverts b h;
      image = refl;
    }

-- ---- a byte is the inverse of its inverse

inverse-positive : (b i : ℕ) → mul b i ≡ 1 → 0 < i
inverse-positive b zero e = let z = mul-zero b in absurd (omega arith)
inverse-positive b (suc i) e = omega arith

inverse-inverse : (b : ℕ) → b < 256 → inverse (inverse b) ≡ b
inverse-inverse zero h = rw (inverse-zero, inverse-zero)
inverse-inverse (suc k) h =
    let i = inverse (suc k) in
    let hi : i < 256 = inverse-byte (suc k) h in
    let e : mul (suc k) i ≡ 1 = inverts (suc k) h (omega arith) in
    one-inverse i (inverse i) (suc k) hi (inverse-byte i hi) h (inverts i hi (inverse-positive (suc k) i e)) (times-comm i (suc k) hi h ∙ e)

pub only-sbox-substitutes : (b s : ℕ) → b < 256 → Substitute b s → s ≡ sbox b
unfolding sbox
only-sbox-substitutes zero s h r = r.image ∙ ap affine (r.zero-to-zero refl ∙ sym inverse-zero)
only-sbox-substitutes (suc k) s h r =
    let g : 0 < suc k = omega arith in
    r.image ∙ ap affine (one-inverse (suc k) r.inverted _ h r.a_byte (inverse-byte (suc k) h) (r.product-one g) (inverts (suc k) h g))

-- ---- bytes to bytes, and back

unaffine-affine : (b : ℕ) → b < 256 → unaffine (affine b) ≡ b
unfolding unaffine affine
unaffine-affine = agree (λ b. unaffine (affine b)) (λ b. b) 256 refl

pub sbox-byte : (b : ℕ) → b < 256 → sbox b < 256
unfolding sbox affine
sbox-byte b h = omega arith

pub inv_sbox-byte : (b : ℕ) → b < 256 → inv_sbox b < 256
unfolding inv_sbox unaffine
inv_sbox-byte b h = inverse-byte (unaffine b) (omega arith)

pub inv_sbox-sbox : (b : ℕ) → b < 256 → inv_sbox (sbox b) ≡ b
unfolding inv_sbox sbox
inv_sbox-sbox b h = rw (unaffine-affine _ (inverse-byte b h), inverse-inverse b h)

-- ---- by the list of inverses

unfoldable pub sbox_by : ℕ → ℕ
sbox_by b = affine (get_or inverses b 0)

unfoldable pub inv_sbox_by : ℕ → ℕ
inv_sbox_by b = get_or inverses (unaffine b) 0

pub sbox-by : (b : ℕ) → b < 256 → sbox_by b ≡ sbox b
unfolding sbox_by sbox
sbox-by b h = ap affine (inverse-at b h)

pub inv_sbox-by : (b : ℕ) → b < 256 → inv_sbox_by b ≡ inv_sbox b
unfolding inv_sbox_by inv_sbox unaffine
inv_sbox-by b h = inverse-at (unaffine b) (omega arith)
