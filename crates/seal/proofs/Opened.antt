-- SPDX-License-Identifier: MPL-2.0
-- Opening: a sealed part by its first and its last block, and the table as a whole.
use Rattle.laws.proofs.Kit.{ℕ, suc, ◌+◌, ◌-◌, ◌*◌, ◌/◌, ◌%◌, ◌≤◌, ◌<◌, ◌≡◌, refl, sym, ◌∙◌, ap, Bool, false, List, ◌++◌, length, take, drop, length-drop, length-take-le}
use Rattle.std.specs.Prelude.{Option, Some, None, MatchOption, unwrap_or, option_copied}
use Rattle.std.specs.Array.{IsWholeChunk}
use Rattle.std.proofs.lemmas.List.{drop-take}
use denote.Bor.{Bor}
use Rattle.laws.proofs.Kit.{true, not, ltb, take_all, take_at, ne_eqb, le-leb, arith}
use Rattle.laws.specs.Rows.{first, or_else, unless}
use Rattle.laws.proofs.Firsts.{first-append}
use Rattle.laws.proofs.Refusals.{unless-none, passed, refused}
use Rattle.std.proofs.lemmas.Result.{err_from_is_err_and}
use Rattle.std.specs.Prelude.{Result, Ok, Err, IsErrAnd}
use Rattle.wire.specs.Refusals.{wrong_tag, short_working}
use Rattle.aes.specs.Cbc.{cbc_decrypt, cbc_decrypt_block, block_before, written}
use Rattle.aes.proofs.Chain.{cbc_decrypt-length}
use Rattle.aes.proofs.Ends.{cbc_decrypt-first, cbc_decrypt-last}
use Rattle.seal.specs.Padding.{bad_plain, bad_blocks}
use Rattle.seal.specs.Opening.{body_of, tag_in, no_part_rows, no_part, key_rows, early_rows, tag_rows, padding_rows, part_rows, part_refusal, open_refusal}
use Rattle.seal.specs.Keys.{tag_of}
use Rattle.laws.specs.Same.{same}
use Rattle.laws.specs.Bytes.{bytes_at}
use Rattle.laws.proofs.Parts.{bytes_at-take, bytes_at-part}
use Rattle.seal.specs.Opening.{sealed_part, plain_of, unless_bad, part_into, opened_into, into_unless}
use Rattle.seal.proofs.Padded.{bad_plain-blocks}

module _ (keys : List (List ℕ)) (v sealed : List ℕ) (some : 16 ≤ length sealed) (blocks : length sealed % 16 ≡ 0) where
  abbrev plain : List ℕ
  plain = cbc_decrypt keys v sealed

  long : length plain ≡ length sealed
  long = cbc_decrypt-length keys v sealed blocks

  -- The last block, by the cipher block before it.
  last-decrypted : cbc_decrypt_block keys (block_before (length sealed / 16 - 1) v sealed) (drop (length sealed - 16) sealed)
      ≡ drop (length sealed - 16) (cbc_decrypt keys v sealed)
  last-decrypted =
      let n = length sealed / 16 - 1 in
      let last : length sealed - 16 ≡ 16 * n = omega arith in
      let in_one : take 16 (drop (16 * n) plain) ≡ drop (16 * n) plain =
      take_all 16 (drop (16 * n) plain) (simp length-drop (omega (arith, long))) in
      rw last (sym (cbc_decrypt-last keys v sealed n (omega arith)) ∙ in_one)

  -- So two blocks decide 13: decrypted by themselves,
  pub judged : {first before last front end : List ℕ} {bad : Bool} → first ≡ take 16 sealed → before ≡ block_before (length sealed / 16 - 1) v sealed
      → last ≡ drop (length sealed - 16) sealed → front ≡ cbc_decrypt_block keys v first → end ≡ cbc_decrypt_block keys before last
      → bad ≡ bad_blocks (length sealed) front end → bad ≡ bad_plain (cbc_decrypt keys v sealed)
  judged f b l p q e =
      rw (e, p, q, f, b, l, ← cbc_decrypt-first keys v sealed some, last-decrypted, ← long) (sym (bad_plain-blocks plain))

  -- or at the ends of the part, opened into the front of a local.
  pub in-front : (zeros : List ℕ) {size given local front : List ℕ} → size ≡ sealed → given ≡ sealed → length sealed ≤ length zeros
      → local ≡ written given (cbc_decrypt keys v given) zeros → front ≡ take (length size) local → front ≡ cbc_decrypt keys v sealed
  in-front zeros n g room e f = rw (f, e, n, g, blocks, le-leb _ _ room) (take_at plain (drop (length sealed) zeros) (length sealed) long)

  pub front-judged : {front first last : List ℕ} {bad : Bool} → front ≡ cbc_decrypt keys v sealed → first ≡ take 16 front
      → last ≡ drop (length front - 16) front → bad ≡ bad_blocks (length sealed) first last → bad ≡ bad_plain (cbc_decrypt keys v sealed)
  front-judged f one end e = rw (e, one, end, f, ← long) (sym (bad_plain-blocks plain))

-- The first block of a front of some bytes is read off the bytes.
pub first-of : (local : List ℕ) (size : ℕ) {front first : List ℕ} → front ≡ take size local → 16 ≤ size → 16 ≤ length front
    → first ≡ bytes_at local 0 16 → first ≡ take 16 front
first-of local size {front} e s h g = g ∙ sym (rw (← e) at (bytes_at-take local size 0 16 s)) ∙ bytes_at-part front 0 16 h

-- What was chained into the last block of whole blocks: the block before it, if what stands before it has one.
pub before-last : (bytes v : List ℕ) (before : Option (Bor (List ℕ))) → 16 ≤ length bytes → length bytes % 16 ≡ 0
    → MatchOption before (length (take (length bytes - 16) bytes) < 16)
    (λ b. (16 ≤ length (take (length bytes - 16) bytes))
    × IsWholeChunk (drop (length (take (length bytes - 16) bytes) - 16) (take (length bytes - 16) bytes)) b.now 16)
    → unwrap_or (option_copied before) v ≡ block_before (length bytes / 16 - 1) v bytes
unfolding block_before
before-last bytes v None some whole few =
    let n : length (take (length bytes - 16) bytes) ≡ length bytes - 16 = length-take-le (length bytes - 16) bytes (omega arith) in
    let one : length bytes / 16 - 1 ≡ 0 = omega arith in
    rw one
before-last bytes v (Some b) some whole h =
    let n : length (take (length bytes - 16) bytes) ≡ length bytes - 16 = length-take-le (length bytes - 16) bytes (omega arith) in
    let k = (length bytes - 32) / 16 in
    let later : length bytes / 16 - 1 ≡ suc k = omega arith in
    let at : length bytes - 16 ≡ 16 * k + 16 = omega arith in
    let past : 16 * k + 16 - 16 ≡ 16 * k = omega arith in
    rw later (h.1.same ∙ rw (n, at, past) (drop-take (16 * k) 16 bytes))

-- A refusal goes on as it is,
pub left : {A : Type 0} {n : ℕ} (r : Result A ℕ) → IsErrAnd r (λ k. k ≡ n) → r ≡ Err n
left r h = let p = err_from_is_err_and r h in rw (p.1, p.2)

-- and is none of nothing; a value goes on too.
value_or : {A : Type 0} → A → Result A ℕ → A
value_or d (Ok a) = a
value_or d (Err n) = d

module _ {A : Type 0} (n : ℕ) (a : A) where
  pub some : {k : ℕ} → Err k ≡ unless n a → (k ≡ n) × (k ≡ 0 → ⊥)
  some e = let w = refused n a e in (w.0, λ z. w.1 (sym w.0 ∙ z))

  pub given : {b : A} → Ok b ≡ unless n a → b ≡ a
  unfolding value_or
  given e = ap (value_or a) (e ∙ unless-none n a (passed n a e))

-- The way through `open_part`: p is the plain text, `r` and `after` what came of opening it where there is room.
module _ (keys m sealed working : List ℕ) where
  abbrev PartAnswered : Result Unit ℕ → List ℕ → Type 0
  PartAnswered r after = (r ≡ unless (part_refusal keys m sealed (length working)) tt) × (after ≡ part_into keys m sealed working)

  pub no-room : ltb (length working) (length sealed) ≡ true → PartAnswered (Err short_working) working
  unfolding part_refusal part_into into_unless
  no-room e = rw e (refl, refl)

  pub part-opened : {p after : List ℕ} {r : Result Unit ℕ} → ltb (length working) (length sealed) ≡ false → plain_of keys m sealed ≡ p
      → r ≡ unless (first (padding_rows p)) tt → after ≡ unless_bad p working → PartAnswered r after
  unfolding part_refusal part_into unless_bad
  part-opened room e judged held = rw (room, e) (judged, held)

-- The rows of all that is tested, as one table.
module _ (keys m : List ℕ) (start room : ℕ) where
  abbrev pub open_rows : List (ℕ × Bool)
  open_rows = early_rows (length m) start (length keys) ++ (tag_rows keys m ++ part_rows keys m (sealed_part m start) room)

  pub one_table : first open_rows ≡ open_refusal keys m start room
  unfolding open_refusal no_part part_refusal
  one_table =
      rw (first-append (no_part_rows (length m) start) _ refl, first-append (key_rows (length keys) ++ tag_rows keys m) _ refl)

-- The way through `open`, table by table: a refusal leaves the working buffer alone, and else it holds what opening the part left.
module _ (keys m : List ℕ) (start : ℕ) (working : List ℕ) where
  abbrev Answered : Result Unit ℕ → List ℕ → Type 0
  Answered r after = (r ≡ unless (open_refusal keys m start (length working)) tt) × (after ≡ opened_into keys m start working)

  refused_with : (n : ℕ) → (n ≡ 0 → ⊥) → open_refusal keys m start (length working) ≡ n → Answered (Err n) working
  unfolding opened_into into_unless
  refused_with n h e = rw (e, ne_eqb n 0 h) (refl, refl)

  pub no-part : {n : ℕ} → Err n ≡ unless (no_part (length m) start) (sealed_part m start) → Answered (Err n) working
  unfolding open_refusal
  no-part {n} e =
      let w = some _ _ e in
      refused_with n w.1 (rw (← w.0, ne_eqb n 0 w.1))

  -- Past the part: the keys.
  past : no_part (length m) start ≡ 0
      → open_refusal keys m start (length working)
      ≡ or_else (or_else (first (key_rows (length keys))) (first (tag_rows keys m))) (part_refusal keys m (sealed_part m start) (length working))
  unfolding open_refusal
  past z = rw (z, first-append (key_rows (length keys)) (tag_rows keys m) refl)

  module _ {part : List ℕ} (placed : Ok part ≡ unless (no_part (length m) start) (sealed_part m start)) where
    there : no_part (length m) start ≡ 0
    there = passed _ _ placed

    pub no-keys : {n : ℕ} → Err n ≡ unless (first (key_rows (length keys))) keys → Answered (Err n) working
    no-keys {n} e =
        let w = some _ _ e in
        refused_with n w.1 (past there ∙ rw (← w.0, ne_eqb n 0 w.1, ne_eqb n 0 w.1))

    module _ {whole : List ℕ} (sixty_four : Ok whole ≡ unless (first (key_rows (length keys))) keys) where
      pub no-tag : not (same (tag_of whole (body_of m)) (tag_in m)) ≡ true → Answered (Err wrong_tag) working
      no-tag e =
          let k = rw (given _ _ sixty_four) at e in
          refused_with wrong_tag (λ z. absurd (omega arith)) (past there ∙ rw (passed _ _ sixty_four, k))

      pub opened : {after : List ℕ} {r : Result Unit ℕ} → not (same (tag_of whole (body_of m)) (tag_in m)) ≡ false
          → r ≡ unless (part_refusal whole m part (length working)) tt → after ≡ part_into whole m part working → Answered r after
      unfolding opened_into part_into
      opened e judged held =
          let k = given _ _ sixty_four in
          let p = given _ _ placed in
          let t : open_refusal keys m start (length working) ≡ part_refusal keys m (sealed_part m start) (length working) =
          past there ∙ rw (passed _ _ sixty_four, rw k at e) in
          rw t (rw (k, p) at judged, rw (k, p) at held)
