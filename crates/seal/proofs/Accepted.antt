-- SPDX-License-Identifier: MPL-2.0
-- What holds of a message whose sealed part was opened: its tag is right, its plain text is as the padding rule gives, and that plain text stands
-- at the start of the working buffer.
use Rattle.laws.proofs.Kit.{ℕ, ◌+◌, ◌≤◌, ◌≡◌, refl, ◌∙◌, true, false, not, List, ◌++◌, length, take, drop, length-append, length-drop, eqb, eqb-true}
use Rattle.laws.proofs.Kit.{ltb-false, not-false, arith}
use lib.Seq.{drop-append-le, take-append-le}
use Rattle.laws.specs.Bytes.{be32}
use Rattle.laws.specs.Rows.{test_of}
use Rattle.laws.specs.Same.{same}
use Rattle.laws.proofs.Bools.{or-false}
use Rattle.laws.proofs.Firsts.{row-false}
use Rattle.wire.specs.Refusals.{wrong_keys, wrong_tag, short_working, wrong_padding}
use Rattle.seal.specs.Keys.{tag_of}
use Rattle.seal.specs.Padding.{sealed_size, bad_plain, payload_of}
use Rattle.seal.specs.Opening.{body_of, tag_in, sealed_part, plain_of, into_unless, opened_into, open_refusal}
use Rattle.seal.proofs.Padded.{sizes, told-append}
use Rattle.seal.proofs.Opened.{open_rows, one_table}

-- Nothing of 10 to 13 applies.
pub record Accepted (keys m : List ℕ) (start room : ℕ) : Type 0 where
  pub keys64 : length keys ≡ 64
  pub tag : same (tag_of keys (body_of m)) (tag_in m) ≡ true
  pub roomy : length (sealed_part m start) ≤ room
  pub ruled : bad_plain (plain_of keys m (sealed_part m start)) ≡ false

pub accepted : (keys m : List ℕ) (start room : ℕ) → open_refusal keys m start room ≡ 0 → Accepted keys m start room
accepted keys m start room e =
    let rows = open_rows keys m start room in
    let at : (n : ℕ) → test_of n rows ≡ false = λ n. row-false n rows refl (one_table keys m start room ∙ e) in
    record {
      keys64 = eqb-true (length keys) 64 (not-false _ (at wrong_keys));
      tag = not-false _ (at wrong_tag);
      roomy = ltb-false room (length (sealed_part m start)) (at short_working);
      ruled = at wrong_padding;
    }

-- What the working buffer then holds: the plain text at its start, and in it the payload after its size.
pub record Held (plain after : List ℕ) : Type 0 where
  pub told : be32 after 0 ≡ be32 plain 0
  pub fits : 4 + be32 plain 0 ≤ length after
  pub payload : take (be32 plain 0) (drop 4 after) ≡ payload_of plain

-- That of any plain text as the padding rule gives.
held : (plain rest : List ℕ) → bad_plain plain ≡ false → Held plain (plain ++ rest)
unfolding bad_plain
held plain rest ruled =
    let size = (or-false (not (eqb (length plain) (sealed_size (be32 plain 0)))) _ ruled).0 in
    let l = eqb-true (length plain) (sealed_size (be32 plain 0)) (not-false _ size) in
    let s = sizes (be32 plain 0) in
    let room : be32 plain 0 ≤ length (drop 4 plain) = rw length-drop (omega arith) in
    record {
      told = told-append plain rest (omega arith);
      fits = rw length-append (omega arith);
      payload = rw (drop-append-le 4 plain rest (omega arith)) (take-append-le (be32 plain 0) (drop 4 plain) rest room);
    }

pub opened-held : (keys m : List ℕ) (start : ℕ) (working : List ℕ) → open_refusal keys m start (length working) ≡ 0
    → Held (plain_of keys m (sealed_part m start)) (opened_into keys m start working)
unfolding opened_into into_unless
opened-held keys m start working e = rw e (held _ _ (accepted keys m start (length working) e).ruled)
