-- SPDX-License-Identifier: MPL-2.0
-- Buffers that have their sizes, and what the calls over them come to, as laws over numbers and lists.
use Rattle.laws.proofs.Kit.{ℕ, ◌*◌, ◌≤◌, ◌≡◌, refl, ◌∙◌, ap, false, not, ◌||◌, List, [], ◌∷◌, length, eqb, ne_eqb, eqb-true}
use Rattle.laws.proofs.Kit.{get_or, ltb, ltb-false, not-false}
use Rattle.laws.specs.Bytes.{be16}
use Rattle.laws.proofs.Bools.{or-false}
use Rattle.laws.proofs.Refusals.{passed, refused, value}
use Rattle.wire.specs.Reader.{read_header}
use Rattle.std.specs.Prelude.{Result, Ok, Err}
use Rattle.wire.specs.declared.header.FoundHeader.{FoundHeader}
use Rattle.wire.proofs.Sound.{read-sound}
use Rattle.lines.specs.Listing.{header_line, line_of}
use Rattle.joining.specs.Cut.{piece_count, cut_refusal, cutting, cut_piece}
use Rattle.hub_c.specs.Pieces.{cut_words}
use Rattle.hub_c.specs.Written.{too_wide}
use Rattle.hub_c.specs.Line.{line_text}

-- Of two buffers that have their sizes the first has its own.
pub first-sized : (a m b n : ℕ) → (not (eqb a m) || not (eqb b n)) ≡ false → a ≡ m
first-sized a m b n e = eqb-true a m (not-false (eqb a m) (or-false (not (eqb a m)) (not (eqb b n)) e).0)

-- Words that have room in their fields.
pub fits : (w : List ℕ) → too_wide w ≡ false
    → (get_or w 0 0 ≤ 255) × (get_or w 1 0 ≤ 65535) × (get_or w 2 0 ≤ 4294967295) × (get_or w 4 0 ≤ 65535) × (get_or w 5 0 ≤ 65535)
unfolding too_wide
fits w e =
    let kind = ltb 255 (get_or w 0 0) in
    let flags = ltb 65535 (get_or w 1 0) in
    let sequence = ltb 4294967295 (get_or w 2 0) in
    let index = ltb 65535 (get_or w 4 0) in
    let all = or-false (kind || flags || sequence || index) (ltb 65535 (get_or w 5 0)) e in
    let four = or-false (kind || flags || sequence) index all.0 in
    let three = or-false (kind || flags) sequence four.0 in
    let two = or-false kind flags three.0 in
    (ltb-false _ _ two.0, ltb-false _ _ two.1, ltb-false _ _ three.1, ltb-false _ _ four.1, ltb-false _ _ all.1)

-- What the cutter answers is put into words.
module _ (F : ℕ) (R : List ℕ) (i : ℕ) where
  abbrev Answered : Result ℕ ℕ → Type 0
  Answered r = r ≡ cutting F (length R) i

  pub cut-refused : (n : ℕ) (w : List ℕ) → Answered (Err n) → w ≡ 0 ∷ 0 ∷ 0 ∷ [] → (n ≡ cut_refusal F (length R) i) × (w ≡ cut_words F R i)
  unfolding cut_words
  cut-refused n w e q =
      let t = refused (cut_refusal F (length R) i) _ e in
      (t.0, rw (ne_eqb _ 0 t.1) q)

  pub cut-taken : (k : ℕ) → Answered (Ok k) → cut_refusal F (length R) i ≡ 0
  cut-taken k e = passed _ _ e

  pub cut-told : (k : ℕ) (p w : List ℕ) → Answered (Ok k) → p ≡ cut_piece F R i → w ≡ k ∷ F * i ∷ length p ∷ [] → w ≡ cut_words F R i
  unfolding cut_words
  cut-told k p w e f q =
      let z = cut-taken k e in
      let v : k ≡ piece_count F (length R) = value (e ∙ rw z) in
      rw (q, f, v, z)

-- The length that stands in an accepted message is the number of its bytes; a refusal's line has none.
pub line-told : (m : List ℕ) → line_of (read_header m) (be16 m 2) ≡ line_text m
unfolding line_text line_of
line-told m = by (read_header m) refl
  where
    by : (a : Result FoundHeader ℕ) → read_header m ≡ a → line_of a (be16 m 2) ≡ line_of a (length m)
    by (Err n) e = refl
    by (Ok f) e = ap (header_line f.header) (read-sound m f e).good.size
