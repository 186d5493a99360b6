-- SPDX-License-Identifier: MPL-2.0
-- A message that was read is read alike with another working buffer that is long enough: only 12 looks at it.
use Rattle.laws.proofs.Kit.{ℕ, ◌≤◌, ◌≡◌, sym, ◌∙◌, true, cond, List, length, le-ltb}
use Rattle.laws.proofs.Cases.{on}
use Rattle.laws.proofs.Firsts.{neither}
use Rattle.wire.specs.Chain.{leaves}
use Rattle.wire.specs.Reader.{header_of, chain_of, refusal_of}
use Rattle.wire.specs.declared.header.Header.{Header}
use Rattle.wire.proofs.Reading.{read-good}
use Rattle.seal.specs.Padding.{payload_of}
use Rattle.seal.specs.Opening.{sealed_part, part_refusal, open_refusal}
use Rattle.seal.proofs.Accepted.{accepted}
use Rattle.message.specs.Reading.{opened, read_message, working_after}
use Rattle.message.specs.Handed.{part_of, payload}
use Rattle.message.specs.declared.reading.FoundMessage.{FoundMessage}
use Rattle.std.specs.Prelude.{Ok}
use Rattle.message.proofs.HandedBack.{handed-opened}
use Rattle.message.proofs.Told.{read-lies}
use Rattle.promises.specs.Refusals.{sealed, start}
use Rattle.promises.specs.Written.{ReadAs}
use Rattle.promises.proofs.ReadBack.{as_read}
use Rattle.promises.proofs.ReaderNumber.{found_in, what_is_read, early, reader_number, read-by-number, number-found, read_found}

module _ (m keys : List ℕ) where
  -- Where nothing was refused, nothing is with another working buffer that is long enough.
  other_none : (room other : ℕ) → reader_number m keys room ≡ 0 → (sealed m ≡ true → length (sealed_part m (start m)) ≤ other)
      → reader_number m keys other ≡ 0
  unfolding open_refusal part_refusal
  other_none room other e l =
      let n = length (sealed_part m (start m)) in
      on (sealed m)
      (λ s.
      let z : open_refusal keys m (start m) room ≡ 0 = rw s at (neither (refusal_of m) _ (neither (early m keys room) _ e).0).1 in
      rw (s, le-ltb other n (l s)) (rw (s, le-ltb room n (accepted keys m (start m) room z).roomy) at e))
      (λ s. rw s (rw s at e))

  -- The payload is that of the plain text or a part of the message, whatever the working buffer held.
  pub handed-alike : (w : List ℕ) → reader_number m keys (length w) ≡ 0 → payload m (working_after m keys w) (what_is_read m keys)
      ≡ cond (sealed m) (payload_of (opened m keys (start m))) (part_of m (start m) (leaves (chain_of m)))
  unfolding payload working_after
  handed-alike w e =
      let z = neither (refusal_of m) _ (neither (early m keys (length w)) _ e).0 in
      on (sealed m) (λ s. rw (read-good m z.0, s) (handed-opened keys m (start m) w (rw s at z.1) (header_of m))) (λ s. rw s)

pub read-header : (m keys w : List ℕ) (f : FoundMessage) → read_message m keys (length w) ≡ Ok f → header_of m ≡ f.header
read-header m keys w f r = sym (read-lies m keys (length w) f r).is

pub read_again : (h : Header) (bytes m keys w v : List ℕ) → ReadAs h bytes m keys w
    → (sealed m ≡ true → length (sealed_part m (start m)) ≤ length v) → ReadAs h bytes m keys v
read_again h bytes m keys w v r room =
    let a = sym (number-found m keys (length w)) ∙ r.accepted in
    let z = other_none m keys (length w) (length v) a room in
    let e = read_found m keys (length w) r.accepted in
    as_read h bytes m keys v (found_in m keys) (read-by-number m keys (length v) ∙ rw z) (rw e at r.header)
    (handed-alike m keys v z ∙ sym (handed-alike m keys w a) ∙ rw e at r.handed)
