-- SPDX-License-Identifier: MPL-2.0
-- What was found says whether the reader of headers refused, and with which number: a message that it read has type 1, 2 or 4, so what was found
-- of it is never all zero.
use Rattle.laws.proofs.Kit.{ℕ, ◌≡◌, refl, sym, ◌∙◌, ap, Bool, true, false, true≢false, List}
use Rattle.wire.specs.Answers.{nothing, found_header}
use Rattle.wire.specs.Fields.{bad_type, is_sealed}
use Rattle.wire.specs.Reader.{header_of, read_header}
use Rattle.wire.specs.declared.answers.Found.{Found}
use Rattle.wire.specs.declared.header.FoundHeader.{FoundHeader}
use Rattle.wire.specs.declared.header.Header.{Header}
use Rattle.std.specs.Prelude.{Result, Ok, Err}
use Rattle.wire.proofs.Sound.{Good, read-sound}

-- A good message has no type 0.
pub some-type : (m : List ℕ) (h : Header) → h ≡ header_of m → Good m → h.kind ≡ 0 → ⊥
unfolding bad_type
some-type m h is g z = true≢false (rw (sym (ap (λ (h : Header). h.kind) is) ∙ z) at g.kind)

pub header_refused : (m : List ℕ) (n : ℕ) → found_header (read_header m) ≡ nothing n → read_header m ≡ Err n
header_refused m n p = by (read_header m) refl p
  where
    by : (a : Result FoundHeader ℕ) → read_header m ≡ a → found_header a ≡ nothing n → a ≡ Err n
    by (Err k) e q = ap Err (ap (λ (f : Found). f.refusal) q)
    by (Ok f) e q =
        let s = read-sound m f e in
        absurd (some-type m f.header s.is s.good (ap (λ (g : Found). g.header.kind) q))

pub refused-header : (m : List ℕ) (n : ℕ) → read_header m ≡ Err n → found_header (read_header m) ≡ nothing n
refused-header m n e = ap found_header e

-- The way through `found`: by what the reader answered, and whether the message is sealed.
module _ (a : Result FoundHeader ℕ) (f : FoundHeader) (s : Bool) (e : a ≡ Ok f) (is : s ≡ is_sealed f.header.flags) where
  abbrev found_as : ℕ → Found
  found_as n = record { refusal = 0; header = f.header; sealed = n; from = f.start; size = f.size }

  pub told-sealed : s ≡ true → found_as 2 ≡ found_header a
  told-sealed t = rw (e, ← is, t)

  pub told-plain : s ≡ false → found_as 0 ≡ found_header a
  told-plain t = rw (e, ← is, t)
