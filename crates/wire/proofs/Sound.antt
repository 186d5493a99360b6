-- SPDX-License-Identifier: MPL-2.0
-- What an accepted message is, for callers of `read_header`.
use Rattle.laws.proofs.Kit.{ℕ, ◌+◌, ◌-◌, ◌/◌, ◌%◌, ◌≤◌, ◌<◌, ◌≡◌, refl, sym, ◌∙◌, true, false, true≢false, not, ◌&&◌, ◌||◌, List, length, eqb, ltb}
use Rattle.laws.proofs.Kit.{leb, eq-eqb, eqb-true, eqb-false, ltb-false, leb-false, not-false, mod-lt, arith}
use native.Mathlib.Nat.{zero-lt-suc}
use Rattle.laws.specs.Bytes.{be8, be16}
use Rattle.laws.specs.Rows.{test_of, unless}
use Rattle.laws.proofs.Firsts.{row-false}
use Rattle.laws.proofs.Refusals.{passed, goes-on}
use Rattle.laws.proofs.Cases.{on}
use Rattle.laws.proofs.Bools.{or-false, or4-false, and-true, and-false-right}
use Rattle.wire.specs.Refusals.{too_short, wrong_signature, wrong_length, wrong_version}
use Rattle.wire.specs.Refusals.{wrong_type, wrong_flags, wrong_piece, wrong_chain, wrong_sealed_size}
use Rattle.wire.specs.Chain.{read_chain, leaves, is_broken}
use Rattle.wire.specs.Fields.{bad_type, bad_flags, bad_piece, most_pieces, is_sealed, hmac_flag, encrypted_flag, tag_size}
use Rattle.wire.specs.Reader.{header_of, room_of, chain_of, header_rows, rows_of, refusal_with, refusal_of, header_found, read_header}
use Rattle.std.specs.Prelude.{Option, Result, Ok, Err}
use Rattle.wire.specs.declared.chain.FoundChain.{FoundChain}
use Rattle.wire.specs.declared.header.Header.{Header}
use Rattle.wire.specs.declared.header.FoundHeader.{FoundHeader}
use Rattle.wire.proofs.Chains.{room-left}
use Rattle.wire.proofs.Reading.{read-refused, read-good}

-- The tests of 6 and 7 as facts.

pub record Piece (index count : ℕ) : Type 0 where
  pub some : 1 ≤ count
  pub few : count ≤ most_pieces
  pub under : index < count

pub piece : (kind index count : ℕ) → bad_piece kind index count ≡ false → Piece index count
unfolding bad_piece
piece kind index count e =
    let t = or4-false (eqb count 0) (ltb most_pieces count) (leb count index) (not (eqb kind 4) && not (eqb count 1)) e in
    let z = eqb-false count 0 t.0 in
    record { some = omega arith; few = ltb-false most_pieces count t.1; under = leb-false count index t.2 }

alike : (kind flags : ℕ) → bad_flags kind flags ≡ false → hmac_flag flags ≡ encrypted_flag flags
unfolding bad_flags
alike kind flags e =
    let t = or4-false (ltb 15 flags) (not (eqb (hmac_flag flags) (encrypted_flag flags))) (eqb kind 1 && is_sealed flags) _ e in
    eqb-true (hmac_flag flags) (encrypted_flag flags) (not-false _ t.1)

pub sealed-tag : (flags : ℕ) → is_sealed flags ≡ true → tag_size flags ≡ 32
unfolding is_sealed tag_size
sealed-tag flags e =
    let a = and-true (eqb (hmac_flag flags) 1) (eqb (encrypted_flag flags) 1) e in
    rw (eqb-true (hmac_flag flags) 1 a.0)

unset : (h e : ℕ) → h < 2 → h ≡ e → (eqb h 1 && eqb e 1) ≡ false → h ≡ 0
unset h e below p q =
    let n : h ≡ 1 → ⊥ = λ o. true≢false (rw (eq-eqb h 1 o, eq-eqb e 1 (sym p ∙ o)) at q) in
    omega arith

pub plain-tag : (kind flags : ℕ) → bad_flags kind flags ≡ false → is_sealed flags ≡ false → tag_size flags ≡ 0
unfolding is_sealed tag_size
plain-tag kind flags e p =
    rw (unset (hmac_flag flags) (encrypted_flag flags) (mod-lt (flags / 2) (zero-lt-suc 1)) (alike kind flags e) p)

-- What holds of a message to which none of 1 to 9 applies.
pub record Good (m : List ℕ) : Type 0 where
  pub long : 42 ≤ length m
  pub signature : be16 m 0 ≡ 0x3030
  pub size : be16 m 2 ≡ length m
  pub version : be8 m 4 ≡ 3
  pub kind : bad_type (be8 m 5) ≡ false
  pub flags : bad_flags (be8 m 5) (be16 m 6) ≡ false
  pub piece : bad_piece (be8 m 5) (be16 m 20) (be16 m 22) ≡ false
  pub chained : is_broken (chain_of m) ≡ false
  pub blocks : is_sealed (be16 m 6) ≡ true → (leaves (chain_of m) % 16 ≡ 0) × (16 ≤ leaves (chain_of m))

sixteens : (n : ℕ) → (eqb n 0 || not (eqb (n % 16) 0)) ≡ false → (n % 16 ≡ 0) × (16 ≤ n)
sixteens n e =
    let a = or-false (eqb n 0) _ e in
    let z = eqb-false n 0 a.0 in
    let d = eqb-true (n % 16) 0 (not-false _ a.1) in
    (d, omega arith)

pub good : (m : List ℕ) → refusal_of m ≡ 0 → Good m
unfolding refusal_of refusal_with rows_of header_rows
good m e =
    let rows = rows_of m (header_of m) (chain_of m) in
    let at : (n : ℕ) → test_of n rows ≡ false = λ n. row-false n rows refl e in
    let size = or-false (ltb (be16 m 2) 42) _ (at wrong_length) in
    record {
      long = ltb-false (length m) 42 (at too_short);
      signature = eqb-true (be16 m 0) 0x3030 (not-false _ (at wrong_signature));
      size = eqb-true (be16 m 2) (length m) (not-false _ size.1);
      version = eqb-true (be8 m 4) 3 (not-false _ (at wrong_version));
      kind = at wrong_type;
      flags = at wrong_flags;
      piece = at wrong_piece;
      chained = at wrong_chain;
      blocks = λ s. sixteens (leaves (chain_of m)) (and-false-right _ _ (at wrong_sealed_size) s);
    }

-- What holds of what `read_header` answers for a message that it accepts.
pub record Sound (m : List ℕ) (f : FoundHeader) : Type 0 where
  pub is : f.header ≡ header_of m
  pub good : Good m
  pub spans : f.start + f.size + tag_size f.header.flags ≡ length m
  pub past : 42 ≤ f.start
  pub blocks : is_sealed f.header.flags ≡ true → (f.size % 16 ≡ 0) × (16 ≤ f.size)

pub small-tag : (m : List ℕ) → tag_size (be16 m 6) ≤ 32
unfolding tag_size
small-tag m = omega (arith, mod-lt (be16 m 6 / 2) (zero-lt-suc 1))

sound-good : (m : List ℕ) → Good m → Sound m (header_found m)
unfolding chain_of
sound-good m g =
    let r = room-left (tag_size (be16 m 6)) m g.chained in
    let t = small-tag m in
    record { is = refl; good = g; spans = omega arith; past = omega arith; blocks = g.blocks }

-- What that says of an answer, which is nothing of a refusal.
abbrev sound_of : List ℕ → Result FoundHeader ℕ → Type 0
sound_of m (Err n) = Unit
sound_of m (Ok f) = Sound m f

sound-all : (m : List ℕ) → sound_of m (read_header m)
sound-all m =
    on (eqb (refusal_of m) 0) (λ z. let e = eqb-true (refusal_of m) 0 z in rw (read-good m e) (sound-good m (good m e)))
    (λ z. rw (read-refused m (refusal_of m) refl (eqb-false (refusal_of m) 0 z)) tt)

pub read-sound : (m : List ℕ) (f : FoundHeader) → read_header m ≡ Ok f → Sound m f
read-sound m f r = rw r at (sound-all m)

pub tag_small : (m : List ℕ) (h : Header) (tag : ℕ) → h ≡ header_of m → tag ≡ tag_size h.flags → tag ≤ 32
tag_small m h tag e t = rw (t, e) (small-tag m)

-- The way through `read_header`: each call answers its part of the definition.
module _ (m : List ℕ) (h : Header) (tag : ℕ) (k : Option FoundChain)
    (fields : h ≡ header_of m) (tags : tag ≡ tag_size h.flags) (chains : k ≡ read_chain (room_of tag m)) where
  abbrev Judged : Result Unit ℕ → Type 0
  Judged r = r ≡ unless (refusal_with m h k) tt

  told : refusal_with m h k ≡ refusal_of m
  unfolding refusal_of chain_of
  told = rw (chains, tags, fields)

  pub refused : {n : ℕ} → Judged (Err n) → Err n ≡ read_header m
  unfolding read_header
  refused j = goes-on (refusal_with m h k) tt (header_found m) j ∙ rw told

  fits : Judged (Ok tt) → leaves k + 42 + tag ≤ length m
  unfolding chain_of
  fits j = rw (chains, tags, fields) (room-left (tag_size (be16 m 6)) m (good m (sym told ∙ passed _ tt j)).chained)

  pub tag_fits : Judged (Ok tt) → tag ≤ length m
  tag_fits j = omega (arith, fits j)

  pub rest-fits : Judged (Ok tt) → leaves k ≤ length m - tag
  rest-fits j = omega (arith, fits j)

  pub accepted : Judged (Ok tt) → Ok (record { header = h; start = length m - tag - leaves k; size = leaves k }) ≡ read_header m
  unfolding chain_of
  accepted j = rw (chains, tags, fields) (sym (read-good m (sym told ∙ passed _ tt j)))
