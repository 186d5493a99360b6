-- SPDX-License-Identifier: MPL-2.0
-- What the reader's answer tells: whether it refused and with which number, and where the payload lies. A message that it read has type 1, 2 or 4,
-- so what was found of it is never all zero.
use Rattle.laws.proofs.Kit.{ℕ, ◌+◌, ◌≤◌, ◌≡◌, refl, sym, ap, true, false, cond, List, [], length, eqb, ltb, eqb-true}
use Rattle.laws.proofs.Kit.{take, drop, arith}
use Rattle.laws.specs.Bytes.{be32}
use Rattle.std.specs.Prelude.{Result, Ok, Err}
use Rattle.laws.specs.Rows.{first, or_else, unless}
use Rattle.laws.proofs.Cases.{on}
use Rattle.laws.proofs.Firsts.{neither}
use Rattle.wire.specs.Answers.{nothing}
use Rattle.wire.specs.Fields.{is_sealed}
use Rattle.wire.specs.Reader.{header_of, read_header}
use Rattle.wire.specs.declared.answers.Found.{Found}
use Rattle.wire.specs.declared.header.FoundHeader.{FoundHeader}
use Rattle.wire.proofs.Sound.{Good, Sound, sealed-tag, read-sound}
use Rattle.wire.proofs.Told.{some-type}
use Rattle.seal.specs.Padding.{payload_of}
use Rattle.seal.specs.Opening.{open_refusal}
use Rattle.message.specs.Answers.{found_message}
use Rattle.message.specs.Handed.{part_of, payload}
use Rattle.message.specs.Reading.{opened, payload_rows, in_message, in_working, plain_read, sealed_read, after_header, read_message}
use Rattle.message.specs.Reading.{working_after_header, working_after}
use Rattle.message.specs.declared.reading.FoundMessage.{FoundMessage}
use Rattle.message.proofs.Readers.{opened-fits, length-opened}

-- "On a refusal that part is empty".
pub handed-refused : (m w : List ℕ) (n : ℕ) → payload m w (Err n) ≡ []
unfolding payload part_of
handed-refused m w n = on (ltb (length m) 0) (λ e. rw e) (λ e. rw e)

spans-sealed : (m : List ℕ) (f : FoundHeader) → Sound m f → is_sealed f.header.flags ≡ true → f.start + f.size + 32 ≡ length m
spans-sealed m f s p = rw (sealed-tag f.header.flags p) at s.spans

-- The working buffer keeps its length.
pub length-working_after : (m keys working : List ℕ) → length (working_after m keys working) ≡ length working
unfolding working_after
length-working_after m keys working = by (read_header m) refl
  where
    by : (a : Result FoundHeader ℕ) → read_header m ≡ a → length (working_after_header a m keys working) ≡ length working
    by (Err n) e = refl
    by (Ok f) e =
        let s = read-sound m f e in
        on (is_sealed f.header.flags) (λ p. rw p (length-opened m keys f.start f.size working (spans-sealed m f s p) (s.blocks p).0))
        (λ p. rw p)

-- What holds of what the reader found in a message, with a working buffer of `room` bytes.
pub record Lies (m : List ℕ) (room : ℕ) (f : FoundMessage) : Type 0 where
  pub is : f.header ≡ header_of m
  pub good : Good m
  pub sealed : f.sealed ≡ is_sealed f.header.flags
  pub inside : f.from + f.size ≤ cond f.sealed room (length m)

module _ (m keys : List ℕ) (room : ℕ) where
  -- What that says of an answer, which is nothing of a refusal.
  abbrev lies_of : Result FoundMessage ℕ → Type 0
  lies_of (Err n) = Unit
  lies_of (Ok f) = Lies m room f

  lies-unless : (n : ℕ) (f : FoundMessage) → (n ≡ 0 → Lies m room f) → lies_of (unless n f)
  lies-unless n f p = on (eqb n 0) (λ e. rw e (p (eqb-true n 0 e))) (λ e. rw e tt)

  module _ (f : FoundHeader) (s : Sound m f) where
    lies-plain : is_sealed f.header.flags ≡ false → lies_of (plain_read m f)
    unfolding plain_read
    lies-plain p =
        lies-unless (first (payload_rows f.header.kind false (take f.size (drop f.start m)))) (in_message f)
        (λ z. record { is = s.is; good = s.good; sealed = sym p; inside = omega (arith, s.spans) })

    lies-sealed : is_sealed f.header.flags ≡ true → lies_of (sealed_read m keys f room)
    unfolding sealed_read
    lies-sealed p =
        let early = open_refusal keys m f.start room in
        let late = first (payload_rows f.header.kind true (payload_of (opened m keys f.start))) in
        lies-unless (or_else early late) (in_working f.header (be32 (opened m keys f.start) 0))
        (λ z.
        let fits = opened-fits m keys f.start f.size room (spans-sealed m f s p) (s.blocks p).0 (neither early late z).0 in
        record { is = s.is; good = s.good; sealed = sym p; inside = fits })

  lies-all : lies_of (read_message m keys room)
  unfolding read_message
  lies-all = by (read_header m) refl
    where
      by : (a : Result FoundHeader ℕ) → read_header m ≡ a → lies_of (after_header a m keys room)
      by (Err n) e = tt
      by (Ok f) e =
          on (is_sealed f.header.flags) (λ t. rw t (lies-sealed f (read-sound m f e) t)) (λ t. rw t (lies-plain f (read-sound m f e) t))

  pub read-lies : (f : FoundMessage) → read_message m keys room ≡ Ok f → Lies m room f
  read-lies f r = rw r at lies-all

  pub message-refused : (n : ℕ) → found_message (read_message m keys room) ≡ nothing n → read_message m keys room ≡ Err n
  message-refused n p = by (read_message m keys room) refl p
    where
      by : (a : Result FoundMessage ℕ) → read_message m keys room ≡ a → found_message a ≡ nothing n → a ≡ Err n
      by (Err k) e q = ap Err (ap (λ (f : Found). f.refusal) q)
      by (Ok f) e q =
          let l = read-lies f e in
          absurd (some-type m f.header l.is l.good (ap (λ (g : Found). g.header.kind) q))

  pub refused-message : (n : ℕ) → read_message m keys room ≡ Err n → found_message (read_message m keys room) ≡ nothing n
  refused-message n e = ap found_message e

-- The way through `found`: by what the reader answered, and where the payload lies.
module _ (a : Result FoundMessage ℕ) (f : FoundMessage) (e : a ≡ Ok f) where
  abbrev found_as : ℕ → Found
  found_as n = record { refusal = 0; header = f.header; sealed = n; from = f.from; size = f.size }

  pub told-opened : f.sealed ≡ true → found_as 1 ≡ found_message a
  told-opened t = rw (e, t)

  pub told-plain : f.sealed ≡ false → found_as 0 ≡ found_message a
  told-plain t = rw (e, t)
