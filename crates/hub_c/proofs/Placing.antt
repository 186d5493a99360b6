-- SPDX-License-Identifier: MPL-2.0
-- The place in words is that of the part that is handed out: what the readers found lies in its buffer.
use Rattle.laws.proofs.Kit.{ℕ, ◌+◌, ◌≤◌, ◌≡◌, refl, sym, ◌∙◌, Bool, true, false, cond, List, [], ◌∷◌, length, take, drop, le-ltb}
use Rattle.laws.proofs.Kit.{eqb, eqb-false, arith}
use Rattle.laws.specs.Rows.{first}
use Rattle.laws.proofs.Cases.{on}
use Rattle.wire.specs.Answers.{found_header}
use Rattle.wire.specs.Fields.{is_sealed}
use Rattle.wire.specs.Reader.{read_header}
use Rattle.wire.specs.declared.header.FoundHeader.{FoundHeader}
use Rattle.std.specs.Prelude.{Result, Ok, Err}
use Rattle.wire.proofs.Sound.{read-sound}
use Rattle.message.specs.Answers.{found_message}
use Rattle.message.specs.Handed.{place_of}
use Rattle.message.specs.Reading.{payload_rows, plain_read, after_header, read_message}
use Rattle.message.specs.declared.reading.FoundMessage.{FoundMessage}
use Rattle.message.proofs.Told.{read-lies}
use Rattle.hub_c.specs.Headers.{place_in, place_by, place_words, PlaceHanded, PlaceUnopened}

-- A part that lies in its buffer is named; nothing is the empty part at the message's start.
module _ (m w from size : ℕ) where
  placed : (s : Bool) → from + size ≤ cond s w m → place_in m w (cond s 1 0) from size ≡ cond s 1 0 ∷ from ∷ size ∷ []
  unfolding place_in
  placed true fits = rw (le-ltb w (from + size) fits)
  placed false fits = rw (le-ltb m (from + size) fits)

  unplaced : place_in m w 2 from size ≡ 0 ∷ 0 ∷ 0 ∷ []
  unfolding place_in
  unplaced = refl

-- Still sealed, 2, is not plain, 0.
two_none : ◌≡◌ {A = ℕ} 2 0 → ⊥
two_none e = omega arith

unsealed : (f : FoundHeader) → (found_header (Ok f)).sealed ≡ 0 → is_sealed f.header.flags ≡ false
unsealed f z = on (is_sealed f.header.flags) (λ s. absurd (two_none (rw s at z))) (λ s. s)

pub place-handed : PlaceHanded
place-handed m keys w = by (read_message m keys (length w)) refl
  where
    by : (a : Result FoundMessage ℕ) → read_message m keys (length w) ≡ a → place_by m w (found_message a) ≡ place_words (place_of a)
    by (Err n) e = placed (length m) (length w) 0 0 false (omega arith)
    by (Ok f) e = placed (length m) (length w) f.from f.size f.sealed (read-lies m keys (length w) f e).inside

-- A plain message that is read: its part is that of the header.
plain-place : (m keys : List ℕ) (room : ℕ) (f : FoundHeader) → is_sealed f.header.flags ≡ false
    → (found_message (after_header (Ok f) m keys room)).refusal ≡ 0
    → place_words (place_of (after_header (Ok f) m keys room)) ≡ 0 ∷ f.start ∷ f.size ∷ []
unfolding plain_read
plain-place m keys room f s =
    let n = first (payload_rows f.header.kind false (take f.size (drop f.start m))) in
    on (eqb n 0) (λ z. rw (s, z) (λ e. refl)) (λ z. rw (s, z) (λ e. absurd (eqb-false n 0 z e)))

-- The payload of a plain message lies in it.
place-named : (m w : List ℕ) (a : Result FoundHeader ℕ) → read_header m ≡ a → let f = found_header a in f.sealed ≡ 0 → place_by m w f ≡ 0 ∷ f.from ∷ f.size ∷ []
place-named m w (Err n) e z = placed (length m) (length w) 0 0 false (omega arith)
place-named m w (Ok f) e z =
    let s = unsealed f z in
    rw s (placed (length m) (length w) f.start f.size false (omega (arith, (read-sound m f e).spans)))

place-plain : (m keys w : List ℕ) (a : Result FoundHeader ℕ) → read_header m ≡ a → (found_header a).sealed ≡ 0
    → (found_message (after_header a m keys (length w))).refusal ≡ 0
    → place_by m w (found_header a) ≡ place_words (place_of (after_header a m keys (length w)))
place-plain m keys w (Err n) e z r = place-named m w (Err n) e z
place-plain m keys w (Ok f) e z r = place-named m w (Ok f) e z ∙ sym (plain-place m keys (length w) f (unsealed f z) r)

pub place-unopened : PlaceUnopened
unfolding read_message
place-unopened =
    record {
      named = λ m w z. place-named m w (read_header m) refl z;
      plain = λ m keys w z r. place-plain m keys w (read_header m) refl z r;
      sealed = λ m w z. let f = found_header (read_header m) in rw z (unplaced (length m) (length w) f.from f.size);
      refused = λ m w n e. rw e (placed (length m) (length w) 0 0 false (omega arith));
    }
