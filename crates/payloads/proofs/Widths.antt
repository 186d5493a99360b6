-- SPDX-License-Identifier: MPL-2.0
-- A number of any width is read back from where it was written, and its bytes are those that it was read from.
use Rattle.laws.proofs.Kit.{ℕ, ◌+◌, ◌≤◌, ◌≡◌, refl, sym, ◌∙◌, List, ◌++◌, append_assoc}
use Rattle.laws.proofs.Kit.{length, drop, drop-drop, div-add-mod', add-zero}
use lib.ListN.{take-append-drop}
use Rattle.laws.specs.Bytes.{AreBytes, be32, bytes_at}
use Rattle.laws.proofs.Numbers.{be8-past, be16-past, be32-past}
use Rattle.laws.proofs.Parts.{bytes_at-part, part-back}
use Rattle.laws.proofs.NumberBytes.{bytes-be8, bytes-be16, bytes-be32, bytes-be64}
use Rattle.payloads.specs.Format.{Width, one, two, four, eight, width_of, number_at, number_bytes}

pub length-number_bytes : (w : Width) (x : ℕ) → length (number_bytes w x) ≡ width_of w
length-number_bytes one x = refl
length-number_bytes two x = refl
length-number_bytes four x = refl
length-number_bytes eight x = refl

number_past : (w : Width) (a b : List ℕ) (at : ℕ) → length a ≡ at → number_at w (a ++ b) at ≡ number_at w b 0
number_past one a b at e = rw add-zero at (be8-past a b at e 0)
number_past two a b at e = rw add-zero at (be16-past a b at e 0)
number_past four a b at e = rw add-zero at (be32-past a b at e 0)
number_past eight a b at e = let first : be32 (a ++ b) at ≡ be32 b 0 = rw add-zero at (be32-past a b at e 0) in rw (first, be32-past a b at e 4)

number-first : (w : Width) (x : ℕ) (b : List ℕ) → number_at w (number_bytes w x ++ b) 0 ≡ x
number-first one x b = refl
number-first two x b = div-add-mod' x 256
number-first four x b = simp div-add-mod'
number-first eight x b = simp div-add-mod'

-- What was written between a front and a back is read there, also with a field after it.
pub number-back : (w : Width) (x : ℕ) (a y b : List ℕ) (at : ℕ) → length a ≡ at → number_at w (((a ++ number_bytes w x) ++ y) ++ b) at ≡ x
number-back w x a y b at e = rw (append_assoc, append_assoc) (number_past w a (number_bytes w x ++ (y ++ b)) at e ∙ number-first w x (y ++ b))

pub run-back : (x a y b : List ℕ) (at n : ℕ) → length a ≡ at → length x ≡ n → bytes_at (((a ++ x) ++ y) ++ b) at n ≡ x
run-back x a y b at n e f = rw (append_assoc, append_assoc) (part-back a x (y ++ b) at n e f)

module _ (p : List ℕ) (bytes : AreBytes p) where
  number-bytes : (w : Width) (at : ℕ) → number_bytes w (number_at w p at) ≡ bytes_at p at (width_of w)
  number-bytes one at = sym (bytes-be8 p bytes at)
  number-bytes two at = sym (bytes-be16 p bytes at)
  number-bytes four at = sym (bytes-be32 p bytes at)
  number-bytes eight at = sym (bytes-be64 p bytes at)

  -- The bytes of a list from a place on are those of the run there, and then the others.
  pub run-then : (at n : ℕ) → at + n ≤ length p → bytes_at p at n ++ drop (at + n) p ≡ drop at p
  run-then at n h = rw (bytes_at-part p at n h, ← drop-drop n at p) (take-append-drop n (drop at p))

  pub number-then : (w : Width) (at : ℕ) → at + width_of w ≤ length p → number_bytes w (number_at w p at) ++ drop (at + width_of w) p ≡ drop at p
  number-then w at h = rw (number-bytes w at) (run-then at (width_of w) h)
