-- SPDX-License-Identifier: MPL-2.0
-- The way through the reader of a sealed message: opened or not, and the payload judged in the working buffer.
use Rattle.laws.proofs.Kit.{ℕ, ◌+◌, ◌-◌, ◌%◌, ◌≤◌, ◌≡◌, ◌∙◌, ap, Bool, true, false, cond, List, length, take, drop, length-take, length-drop, eqb-true, ne_eqb}
use Rattle.laws.proofs.Kit.{length-append, eqb, not-false, add-sub_cancel_left, arith}
use Rattle.laws.specs.Bytes.{be32}
use Rattle.std.specs.Prelude.{Result, Ok, Err}
use Rattle.laws.specs.Rows.{unless}
use Rattle.laws.proofs.Bools.{or-false}
use Rattle.laws.proofs.Cases.{on}
use Rattle.laws.proofs.Refusals.{passed, refused}
use Rattle.wire.specs.Refusals.{wrong_payload}
use Rattle.wire.specs.declared.header.FoundHeader.{FoundHeader}
use Rattle.payloads.specs.Shapes.{bad_payload}
use Rattle.aes.proofs.Chain.{cbc_decrypt-length}
use Rattle.seal.specs.Padding.{sealed_size, bad_plain}
use Rattle.seal.specs.Opening.{sealed_part, plain_of, open_refusal, into_unless, opened_into}
use Rattle.seal.proofs.Accepted.{accepted, Held, opened-held}
use Rattle.seal.proofs.Padded.{sizes}
use Rattle.message.specs.Reading.{opened, in_working, sealed_read}
use Rattle.message.specs.declared.reading.FoundMessage.{FoundMessage}

-- A payload that was opened lies in the working buffer: the sealed part does, it is as long as what was opened, and that holds the payload.
part-long : (m : List ℕ) (start size : ℕ) → start + size + 32 ≡ length m → length (sealed_part m start) ≡ size
unfolding sealed_part
part-long m start size e = rw (length-take, length-drop) (omega arith)

plain-long : (keys m s : List ℕ) → length s % 16 ≡ 0 → length (plain_of keys m s) ≡ length s
unfolding plain_of
plain-long keys m s e = cbc_decrypt-length _ _ s e

rule-long : (plain : List ℕ) → bad_plain plain ≡ false → length plain ≡ sealed_size (be32 plain 0)
unfolding bad_plain
rule-long plain e = eqb-true (length plain) (sealed_size (be32 plain 0)) (not-false _ (or-false _ _ e).0)

pub opened-fits : (m keys : List ℕ) (start size room : ℕ) → start + size + 32 ≡ length m → size % 16 ≡ 0 → open_refusal keys m start room ≡ 0
    → 4 + be32 (opened m keys start) 0 ≤ room
opened-fits m keys start size room spans blocks e =
    let a = accepted keys m start room e in
    let part = part-long m start size spans in
    let plain = plain-long keys m (sealed_part m start) (rw part blocks) in
    let rule = rule-long (opened m keys start) a.ruled in
    omega (arith, a.roomy, (sizes (be32 (opened m keys start) 0)).holds)

pub length-opened : (m keys : List ℕ) (start size : ℕ) (working : List ℕ) → start + size + 32 ≡ length m → size % 16 ≡ 0
    → length (opened_into keys m start working) ≡ length working
unfolding opened_into into_unless
length-opened m keys start size working spans blocks =
    let n = open_refusal keys m start (length working) in
    on (eqb n 0)
    (λ z.
    let a = accepted keys m start (length working) (eqb-true n 0 z) in
    let part = part-long m start size spans in
    let plain = plain-long keys m (sealed_part m start) (rw part blocks) in
    rw (z, length-append, length-drop) (omega (arith, a.roomy)))
    (λ z. rw z)

pub not_opened : (m keys : List ℕ) (f : FoundHeader) (room : ℕ) {n : ℕ} → Err n ≡ unless {A = Unit {0}} (open_refusal keys m f.start room) tt
    → Err n ≡ sealed_read m keys f room
unfolding sealed_read
not_opened m keys f room e =
    let w = refused (open_refusal keys m f.start room) _ e in
    rw (ne_eqb (open_refusal keys m f.start room) 0 w.1, ne_eqb (open_refusal keys m f.start room) 0 w.1) (ap Err w.0)

module _ (m keys : List ℕ) (f : FoundHeader) (working : List ℕ) {after : List ℕ}
    (e : Ok tt ≡ unless {A = Unit {0}} (open_refusal keys m f.start (length working)) tt) (is : after ≡ opened_into keys m f.start working) where
  pub is_held : Held (opened m keys f.start) after
  is_held = rw is (opened-held keys m f.start working (passed _ _ e))

  pub judged : {size : ℕ} {bad : Bool} {r : Result FoundMessage ℕ} → size ≡ be32 after 0
      → bad ≡ bad_payload f.header.kind true (take (4 + size - 4) (drop 4 after))
      → r ≡ unless (cond bad wrong_payload 0) (in_working f.header size) → r ≡ sealed_read m keys f (length working)
  unfolding sealed_read
  judged told shape p = p ∙ rw (passed _ _ e, shape, add-sub_cancel_left, told ∙ is_held.told, is_held.payload)
