-- SPDX-License-Identifier: MPL-2.0
-- The way through `write`: what the table leaves, and the output step by step.
use Rattle.laws.proofs.Kit.{ℕ, ◌+◌, ◌≤◌, ◌≡◌, refl, ◌∙◌, true, false, List, ◌++◌, length, drop, length-append, length-drop, sets, drop-drop}
use Rattle.laws.proofs.Kit.{take-append_seam, ne_eqb, eqb-true, ltb-false, not-false, arith}
use lib.Seq.{drop-append-add}
use Rattle.laws.specs.Bytes.{AreBytes}
use Rattle.laws.specs.Rows.{test_of, unless}
use Rattle.laws.proofs.Bools.{and-false-right}
use Rattle.laws.proofs.Firsts.{row-false}
use Rattle.laws.proofs.Refusals.{unless-none, passed, refused as number-refused, value}
use Rattle.laws.proofs.Stores.{put-after}
use Rattle.wire.specs.Refusals.{wrong_type, wrong_flags, wrong_piece, wrong_chain, wrong_keys, wrong_payload, wrong_piece_size, no_room}
use Rattle.wire.specs.Fields.{bad_type, bad_flags, bad_piece, is_sealed}
use Rattle.wire.specs.Chain.{bad_chain}
use Rattle.payloads.specs.Shapes.{bad_payload}
use Rattle.wire.specs.declared.header.Header.{Header}
use Rattle.wire.proofs.Chains.{chain-long}
use Rattle.writer.specs.Header.{header_bytes}
use Rattle.std.specs.Prelude.{Result, Ok, Err}
use Rattle.seal.specs.Padding.{sealed_size}
use Rattle.seal.specs.Sealed.{seal_refusal, sealed_into}
use Rattle.seal.proofs.Seals.{fit-allowed}
use Rattle.message.specs.Writing.{length_of, write_rows, write_refusal, before_payload, message_bytes, write_answer, written_into}
use Rattle.message.proofs.WrittenSizes.{chain-short, payload-short}
use Rattle.message.proofs.WrittenLengths.{length-within, length_before, plain-is, sealed-is}

-- What the table leaves.
pub record Allowed (h : Header) (chain payload : List ℕ) (keys room : ℕ) : Type 0 where
  pub kind : bad_type h.kind ≡ false
  pub flags : bad_flags h.kind h.flags ≡ false
  pub piece : bad_piece h.kind h.index h.count ≡ false
  pub chained : bad_chain chain ≡ false
  pub keyed : is_sealed h.flags ≡ true → keys ≡ 64
  pub shaped : bad_payload h.kind (is_sealed h.flags) payload ≡ false
  pub sized : length payload ≤ 16384
  pub roomy : length_of h chain payload ≤ room

pub allowed : (h : Header) (chain payload : List ℕ) (keys room : ℕ) → write_refusal h chain payload keys room ≡ 0 → Allowed h chain payload keys room
unfolding write_refusal
allowed h chain payload keys room e =
    let rows = write_rows h chain payload keys room in
    let at : (n : ℕ) → test_of n rows ≡ false = λ n. row-false n rows refl e in
    record {
      kind = at wrong_type;
      flags = at wrong_flags;
      piece = at wrong_piece;
      chained = at wrong_chain;
      keyed = λ s. eqb-true keys 64 (not-false _ (and-false-right (is_sealed h.flags) _ (at wrong_keys) s));
      shaped = at wrong_payload;
      sized = payload-short payload h.kind (is_sealed h.flags) (at wrong_type) (at wrong_payload) (at wrong_piece_size);
      roomy = ltb-false room (length_of h chain payload) (at no_room);
    }

-- How long the parts of a message are that the writer accepts.
pub record Bounds (h : Header) (chain payload : List ℕ) (room : ℕ) : Type 0 where
  pub ends : 2 ≤ length chain
  pub chained : length chain ≤ 2058
  pub sized : length payload ≤ 16384
  pub front : 40 + length chain ≤ length_of h chain payload
  pub short : length_of h chain payload ≤ 18530
  pub roomy : length_of h chain payload ≤ room

pub bounds : (h : Header) (chain payload : List ℕ) (keys room : ℕ) → AreBytes chain → write_refusal h chain payload keys room ≡ 0
    → Bounds h chain payload room
bounds h chain payload keys room w e =
    let a = allowed h chain payload keys room e in
    let c = chain-short chain w a.chained in
    let l = length-within (is_sealed h.flags) (length chain) (length payload) c a.sized in
    record { ends = chain-long chain a.chained; chained = c; sized = a.sized; front = l.0; short = l.1; roomy = a.roomy }

module _ (h : Header) (chain payload keys out : List ℕ) where
  abbrev Answered : Result ℕ ℕ → List ℕ → Type 0
  Answered r after = (r ≡ write_answer h chain payload (length keys) (length out)) × (after ≡ written_into h chain payload keys out)

  abbrev Judged : Result ℕ ℕ → Type 0
  Judged r = r ≡ write_answer h chain payload (length keys) (length out)

  pub refused : {n : ℕ} → Judged (Err n) → Answered (Err n) out
  unfolding write_answer written_into
  refused e = (e, rw (ne_eqb _ 0 (number-refused _ _ e).1))

  -- What was judged is the length, where nothing is refused.
  pub told : {size : ℕ} → Judged (Ok size) → (write_refusal h chain payload (length keys) (length out) ≡ 0) × (size ≡ length_of h chain payload)
  unfolding write_answer
  told e = let z = passed _ _ e in (z, value (e ∙ unless-none _ _ z))

  abbrev start : ℕ
  start = 40 + length chain

  abbrev before : List ℕ
  before = before_payload h chain payload

  module _ {size : ℕ} (judged : Judged (Ok size)) (of-chain : AreBytes chain)
      {m : List ℕ} (front : m ≡ (header_bytes h size ++ chain) ++ drop (40 + length chain) out) where
    good : write_refusal h chain payload (length keys) (length out) ≡ 0
    good = (told judged).0

    whole : size ≡ length_of h chain payload
    whole = (told judged).1

    b : Bounds h chain payload (length out)
    b = bounds h chain payload (length keys) (length out) of-chain good

    is : m ≡ before ++ drop start out
    is = rw whole at front

    answer : {after : List ℕ} → after ≡ message_bytes h chain payload keys ++ drop (length_of h chain payload) out → Answered (Ok size) after
    unfolding write_answer written_into
    answer e = (rw (good, whole), rw good e)

    pub wrote-plain : {n : List ℕ} → is_sealed h.flags ≡ false → n ≡ sets m (40 + length chain) payload → Answered (Ok size) n
    wrote-plain s q =
        let (bytes, number) = plain-is h chain payload keys s in
        answer (put-after before payload out start (length_before h chain payload) (omega (arith, b.roomy)) is q ∙ rw (bytes, number))

    -- Sealing refuses nothing of what was judged.
    seals : is_sealed h.flags ≡ true → seal_refusal (length keys) start (length payload) (length m) ≡ 0
    seals s =
        let number = (sealed-is h chain payload keys s).1 in
        let l = length_before h chain payload in
        let bound = b in
        let keyed = (allowed h chain payload (length keys) (length out) good).keyed s in
        let long : length m ≡ length out = rw (is, length-append, l, length-drop) (omega arith) in
        fit-allowed (length keys) start (length payload) (length m) (omega arith)

    pub unsealed : {n : ℕ} → is_sealed h.flags ≡ true
        → Err n ≡ unless {A = Unit {0}} (seal_refusal (length keys) (40 + length chain) (length payload) (length m)) tt → ⊥
    unsealed s e = (number-refused _ _ e).1 (seals s)

    pub wrote-sealed : {n : List ℕ} → is_sealed h.flags ≡ true → n ≡ sealed_into keys (40 + length chain) payload m → Answered (Ok size) n
    unfolding sealed_into
    wrote-sealed s q =
        let (bytes, number) = sealed-is h chain payload keys s in
        let l = length_before h chain payload in
        let fits = seals s in
        let sum : start + sealed_size (length payload) + 32 ≡ start + (sealed_size (length payload) + 32) = omega arith in
        let total : length before + (sealed_size (length payload) + 32) ≡ length_of h chain payload = omega arith in
        answer (q ∙ rw (fits, bytes, sum, is, ← l, take-append_seam, drop-append-add, drop-drop, total))
