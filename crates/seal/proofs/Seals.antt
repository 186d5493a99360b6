-- SPDX-License-Identifier: MPL-2.0
-- The way through `seal`: part and tag, one after the other, make the sealed message.
use Rattle.std.specs.Prelude.{Result, Ok, Err, OkIff, ◌⊎◌}
use Rattle.std.specs.Result.{result_unwrap_or}
use Rattle.laws.proofs.Kit.{true, inl, inr, ltb, lt-ltb, ltb-true, min}
use Rattle.laws.proofs.Kit.{ℕ, ◌+◌, ◌-◌, ◌≤◌, ◌<◌, ◌≡◌, refl, sym, ◌∙◌, false, List, ◌++◌, append_assoc, length, take, drop, length-append, sets}
use Rattle.laws.proofs.Kit.{take_at, length-take-le, ne_eqb, eqb-true, le-ltb, ltb-false, not-false, arith}
use borrow.Rule.Slice.PartMut.{put_mid, Post-is}
use Rattle.laws.specs.Bytes.{bytes_at}
use Rattle.laws.specs.Rows.{first, or_else, unless, test_of}
use Rattle.laws.proofs.Refusals.{passed}
use Rattle.seal.specs.Opening.{key_rows}
use Rattle.seal.proofs.Opened.{some, given}
use Rattle.laws.proofs.Parts.{bytes_at-take}
use Rattle.laws.proofs.Stores.{put-after}
use Rattle.laws.proofs.Firsts.{first-append, row-false}
use Rattle.wire.specs.Refusals.{too_short, wrong_length, wrong_keys, no_room}
use Rattle.sha256.proofs.Lengths.{length-hmac}
use Rattle.aes.specs.Key.{expand_key}
use Rattle.aes.specs.Cbc.{cbc_encrypt}
use Rattle.aes.proofs.Chain.{cbc_encrypt-length}
use Rattle.seal.specs.Keys.{encryption_key, tag_key, vector_block, vector, tag_of}
use Rattle.seal.specs.Padding.{sealed_size, plain_text}
use Rattle.seal.specs.Sealed.{sealed_body, sealed_message, body_rows, room_rows, seal_rows, seal_refusal, sealed_into}
use Rattle.seal.proofs.Padded.{sizes, length-plain_text, plain_text-blocks}

-- The vector looks at the header alone.
pub vector-front : (keys m : List ℕ) (n : ℕ) → 40 ≤ n → vector keys (take n m) ≡ vector keys m
unfolding vector vector_block
vector-front keys m n h =
    let at : (i k : ℕ) → i + k ≤ 40 → bytes_at (take n m) i k ≡ bytes_at m i k = λ i k l. bytes_at-take m n i k (omega arith) in
    rw (at 24 8 (omega arith), at 8 4 (omega arith), at 20 2 (omega arith), at 22 2 (omega arith))

pub length-sealed : (keys : List (List ℕ)) (v payload : List ℕ) → length (cbc_encrypt keys v (plain_text payload)) ≡ sealed_size (length payload)
length-sealed keys v payload = cbc_encrypt-length keys v (plain_text payload) (plain_text-blocks payload) ∙ length-plain_text payload

-- A tag has 32 bytes.
pub length-tag : (keys body : List ℕ) → length (tag_of keys body) ≡ 32
unfolding tag_of
length-tag keys body = length-hmac (tag_key keys) _

-- A size past 2^32 counts as the last below it, and a sum past 2^64 too: both are too long all the same.
capped : {E : Type 0} (r : Result ℕ E) (size : ℕ) {told : ℕ} → OkIff r (size < 4294967296) size → told ≡ result_unwrap_or r 4294967295
    → (told ≡ size) ⊎ ((4294967296 ≤ size) × (told ≡ 4294967295))
capped (Ok n) size h e = inl (e ∙ h.1)
capped (Err n) size h e = inr (omega arith, e)

module _ {E : Type 0} (start size : ℕ) (r : Result ℕ E) {told most end : ℕ} (of_size : OkIff r (size < 4294967296) size)
    (tells : told ≡ result_unwrap_or r 4294967295) (sealed : most ≡ sealed_size told) (sum : end ≡ min (start + most) 18446744073709551615) where
  pub too-long : ltb 65503 end ≡ true → ltb 65503 (start + sealed_size size) ≡ true
  too-long e =
      let h = ltb-true 65503 end e in
      let s = sizes size in
      lt-ltb _ _ (elim (capped r size of_size tells) [ inl w ↦ let k : most ≡ sealed_size size = rw w at sealed in omega arith | inr w ↦ omega arith ])

  pub end_is : ltb 65503 end ≡ false → end ≡ start + sealed_size size
  end_is e =
      let h = ltb-false 65503 end e in
      let s = sizes told in
      elim (capped r size of_size tells) [ inl w ↦ let k : most ≡ sealed_size size = rw w at sealed in omega arith | inr w ↦ absurd (omega arith) ]

-- What the rows leave.
pub record Fit (keys start size room : ℕ) : Type 0 where
  pub keys64 : keys ≡ 64
  pub past : 42 ≤ start
  pub short : start + sealed_size size ≤ 65503
  pub small : size < 65536
  pub roomy : start + sealed_size size + 32 ≤ room

pub fit : (keys start size room : ℕ) → seal_refusal keys start size room ≡ 0 → Fit keys start size room
unfolding seal_refusal
fit keys start size room e =
    let rows = seal_rows keys start size room in
    let at : (n : ℕ) → test_of n rows ≡ false = λ n. row-false n rows refl e in
    let short = ltb-false 65503 (start + sealed_size size) (at wrong_length) in
    let s = sizes size in
    record {
      keys64 = eqb-true keys 64 (not-false _ (at wrong_keys));
      past = ltb-false start 42 (at too_short);
      short = short;
      small = omega arith;
      roomy = ltb-false room (start + sealed_size size + 32) (at no_room);
    }

pub fit-allowed : (keys start size room : ℕ) → Fit keys start size room → seal_refusal keys start size room ≡ 0
unfolding seal_refusal
fit-allowed keys start size room f =
    rw (
      le-ltb start 42 f.past,
      le-ltb 65503 (start + sealed_size size) f.short,
      f.keys64,
      le-ltb room (start + sealed_size size + 32) f.roomy,
    )

-- The way through `seal`, table by table: a refusal leaves the output alone.
module _ (keys payload out : List ℕ) (start : ℕ) where
  abbrev size : ℕ
  size = length payload

  abbrev pub SealAnswered : Result Unit ℕ → List ℕ → Type 0
  SealAnswered r after = (r ≡ unless (seal_refusal (length keys) start size (length out)) tt) × (after ≡ sealed_into keys start payload out)

  refused_with : (n : ℕ) → (n ≡ 0 → ⊥) → seal_refusal (length keys) start size (length out) ≡ n → SealAnswered (Err n) out
  unfolding sealed_into
  refused_with n h e = rw (e, ne_eqb n 0 h) (refl, refl)

  table : seal_refusal (length keys) start size (length out)
      ≡ or_else (first (body_rows start size)) (or_else (first (key_rows (length keys))) (first (room_rows start size (length out))))
  unfolding seal_refusal
  table =
      rw (
        ← first-append (key_rows (length keys)) (room_rows start size (length out)) refl,
        ← first-append (body_rows start size) (key_rows (length keys) ++ room_rows start size (length out)) refl,
      )

  pub no-end : {n : ℕ} → Err n ≡ unless (first (body_rows start size)) (start + sealed_size size) → SealAnswered (Err n) out
  no-end {n} e =
      let w = some _ _ e in
      refused_with n w.1 (table ∙ rw (← w.0, ne_eqb n 0 w.1))

  module _ {end : ℕ} (ended : Ok end ≡ unless (first (body_rows start size)) (start + sealed_size size)) where
    pub no-keys : {n : ℕ} → Err n ≡ unless (first (key_rows (length keys))) keys → SealAnswered (Err n) out
    no-keys {n} e =
        let w = some _ _ e in
        refused_with n w.1 (table ∙ rw (passed _ _ ended, ← w.0, ne_eqb n 0 w.1))

    pub no-room : {whole : List ℕ} → Ok whole ≡ unless (first (key_rows (length keys))) keys
        → ltb (length out) (start + sealed_size size + 32) ≡ true → SealAnswered (Err no_room) out
    no-room k e = refused_with no_room (λ z. absurd (omega arith)) (table ∙ rw (passed _ _ ended, passed _ _ k, e))

-- Keys that were taken are 64.
pub whole : (keys : List ℕ) {ks : List ℕ} → Ok ks ≡ unless (first (key_rows (length keys))) keys → (ks ≡ keys) × (length keys ≡ 64)
whole keys e = (given _ _ e, eqb-true (length keys) 64 (not-false _ (row-false wrong_keys (key_rows (length keys)) refl (passed _ _ e))))

-- The length of a message up to its tag.
pub length-body : (keys before payload : List ℕ) → length (sealed_body keys before payload) ≡ length before + sealed_size (length payload)
unfolding sealed_body
length-body keys before payload = rw (length-append, length-sealed)

-- The output step by step: the part is encrypted where it stands, and the tag put after it.
module _ (keys payload out : List ℕ) (start end : ℕ) (f : Fit (length keys) start (length payload) (length out))
    (ends : end ≡ start + sealed_size (length payload)) (v part tagged : List ℕ)
    (first : v ≡ vector keys out)
    (sealed : part ≡ cbc_encrypt (expand_key (encryption_key keys)) v (plain_text payload))
    (after : tagged ≡ sets (put_mid start (end - start) out part) end (tag_of keys (take end (put_mid start (end - start) out part)))) where
  abbrev written : List ℕ
  written = put_mid start (end - start) out part

  abbrev body : List ℕ
  body = sealed_body keys (take start out) payload

  body-long : length body ≡ end
  body-long = rw (length-body, length-take-le start out (omega arith), ends)

  written_is : written ≡ body ++ drop end out
  unfolding sealed_body
  written_is =
      rw (vector-front keys out start (omega arith), ← first, ← sealed, Post-is start end out (omega arith))
      (sym (append_assoc (take start out) part (drop end out)))

  pub sealed-into : SealAnswered keys payload out start (Ok tt) tagged
  unfolding sealed_into sealed_message
  sealed-into =
      let allowed = fit-allowed (length keys) start (length payload) (length out) f in
      let front : take end written ≡ body = rw written_is (take_at body (drop end out) end body-long) in
      let t = length-tag keys body in (
        rw allowed,
        put-after body (tag_of keys body) out end body-long (omega arith) written_is (rw front at after) ∙ rw (allowed, t, ends),
      )
