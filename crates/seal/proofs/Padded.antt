-- SPDX-License-Identifier: MPL-2.0
-- Laws of the padding rule, for all who seal and open: a change of the rule is proved here and nowhere else.
use Rattle.laws.proofs.Kit.{ℕ, ◌+◌, ◌-◌, ◌%◌, ◌^◌, ◌≤◌, ◌<◌, ◌≡◌, refl, false, List, ◌++◌, length, take, drop, get_or, length-append, length-replicate}
use Rattle.laws.proofs.Kit.{drop-drop, get_or-take, take-append_seam, eqb, eq-eqb, eqb-true, div-add-mod', arith}
use lib.ListN.{get_or-append}
use lib.Seq.{drop-append_seam}
use Rattle.laws.specs.Bytes.{be32}
use Rattle.laws.proofs.Cases.{on}
use Rattle.laws.proofs.Sames.{same_refl}
use Rattle.seal.specs.Padding.{padding, sealed_size, padding_bytes, plain_text, bad_plain, payload_of, bad_blocks}

-- How long padding and sealed part of p bytes are: the sealed part is whole blocks, and not none; it holds size and payload, and little more.
pub record Sizes (p : ℕ) : Type 0 where
  pub few : padding p ≤ 16
  pub blocks : sealed_size p % 16 ≡ 0
  pub some : 16 ≤ sealed_size p
  pub holds : 4 + p ≤ sealed_size p
  pub most : sealed_size p ≤ p + 20

pub sizes : (p : ℕ) → Sizes p
unfolding sealed_size padding
sizes p = omega arith

pub length-plain_text : (payload : List ℕ) → length (plain_text payload) ≡ sealed_size (length payload)
unfolding plain_text sealed_size padding_bytes
length-plain_text payload = simp (length-append, length-replicate) (omega arith)

pub plain_text-blocks : (payload : List ℕ) → length (plain_text payload) % 16 ≡ 0
plain_text-blocks payload = rw length-plain_text (sizes (length payload)).blocks

-- The size stands in the first four bytes, wherever more of them stand.
told-front : (m l : List ℕ) → ((i : ℕ) → i < 4 → get_or m i 0 ≡ get_or l i 0) → be32 m 0 ≡ be32 l 0
told-front m l e = rw (e 0 (omega arith), e 1 (omega arith), e 2 (omega arith), e 3 (omega arith))

told-take : (n : ℕ) (plain : List ℕ) → 4 ≤ n → be32 (take n plain) 0 ≡ be32 plain 0
told-take n plain h = told-front (take n plain) plain (λ i k. get_or-take n plain i 0 (omega arith))

pub told-append : (plain rest : List ℕ) → 4 ≤ length plain → be32 (plain ++ rest) 0 ≡ be32 plain 0
told-append plain rest h = told-front (plain ++ rest) plain (λ i k. get_or-append plain rest 0 i (omega arith))

-- An opened sealed part is judged by its first and its last block: where the size is as the rule gives, what follows
-- the payload lies in the last one.
pub bad_plain-blocks : (plain : List ℕ) → bad_plain plain ≡ bad_blocks (length plain) (take 16 plain) (drop (length plain - 16) plain)
unfolding bad_plain bad_blocks sealed_size
bad_plain-blocks plain =
    let p = be32 plain 0 in
    let s = sizes p in
    rw (told-take 16 plain (omega arith))
    (on (eqb (length plain) (4 + p + padding p))
    (λ e.
    let l = eqb-true (length plain) (4 + p + padding p) e in
    let k : length plain - 16 + (16 - padding p) ≡ 4 + p = omega arith in
    rw (drop-drop, k))
    (λ e. rw e))

after-payload : (payload : List ℕ) → drop (4 + length payload) (plain_text payload) ≡ padding_bytes (length payload)
unfolding plain_text
after-payload payload = rw (← drop-drop, drop-append_seam)

-- The size is read back.
pub told-plain_text : (payload : List ℕ) → length payload < 2 ^ 32 → be32 (plain_text payload) 0 ≡ length payload
unfolding plain_text
told-plain_text payload h = simp div-add-mod'

-- What is sealed by the rule is not refused with 13,
pub plain_text-accepted : (payload : List ℕ) → length payload < 2 ^ 32 → bad_plain (plain_text payload) ≡ false
unfolding bad_plain
plain_text-accepted payload h =
    rw (told-plain_text payload h, length-plain_text, eq-eqb (sealed_size (length payload)) _ refl, after-payload, same_refl)

-- and its payload is handed out again.
pub payload-plain_text : (payload : List ℕ) → length payload < 2 ^ 32 → payload_of (plain_text payload) ≡ payload
unfolding plain_text
payload-plain_text payload h = rw (told-plain_text payload h, take-append_seam)
