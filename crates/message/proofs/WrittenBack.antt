-- SPDX-License-Identifier: MPL-2.0
-- What the writer wrote the reader reads back: the same fields, and the payload's bytes where it says they are.
use Rattle.laws.proofs.Kit.{ℕ, ◌+◌, ◌%◌, ◌≤◌, ◌<◌, ◌≡◌, sym, ◌∙◌, ap, true, false, true≢false, List, [], ◌++◌, append-nil, append_assoc, length, take}
use Rattle.laws.proofs.Kit.{drop, length-append, take-length, drop_at, arith}
use Rattle.laws.specs.Bytes.{AreBytes, be32}
use Rattle.laws.proofs.ByteLists.{append-bytes, cons-bytes, nil-bytes, bytes16-bytes, bytes32-bytes, bytes64-bytes}
use Rattle.wire.specs.Fields.{is_sealed, tag_size}
use Rattle.wire.specs.Reader.{read_header}
use Rattle.wire.specs.declared.header.Header.{Header}
use Rattle.wire.specs.declared.header.FoundHeader.{FoundHeader}
use Rattle.std.specs.Prelude.{Ok}
use Rattle.wire.proofs.Sound.{sealed-tag, plain-tag}
use Rattle.writer.specs.Header.{header_bytes}
use Rattle.writer.proofs.ReadBack.{read_back}
use Rattle.aes.specs.Key.{expand_key}
use Rattle.aes.specs.Cbc.{cbc_encrypt}
use Rattle.seal.specs.Keys.{encryption_key, vector, tag_of}
use Rattle.seal.specs.Padding.{sealed_size, plain_text, payload_of}
use Rattle.seal.specs.Opening.{open_refusal}
use Rattle.seal.specs.Sealed.{sealed_body}
use Rattle.seal.proofs.Padded.{sizes, told-plain_text, payload-plain_text}
use Rattle.seal.proofs.Seals.{length-tag}
use Rattle.seal.proofs.Unsealed.{in_parts, length_part, opened-back, opens_back}
use Rattle.message.specs.Reading.{opened, in_message, in_working, plain_read, sealed_read, read_message}
use Rattle.message.specs.Widths.{InWidth}
use Rattle.message.specs.Writing.{length_of, write_refusal, before_payload, message_bytes}
use Rattle.message.proofs.WrittenLengths.{length-header, length_before, plain-is, sealed-is, length-message_bytes}
use Rattle.message.proofs.Written.{Allowed, allowed, bounds}

header-bytes : (h : Header) (n : ℕ) → InWidth h → n < 65536 → AreBytes (header_bytes h n)
unfolding header_bytes
header-bytes h n w small =
    append-bytes (bytes16-bytes 0x3030 (omega arith))
    (append-bytes (bytes16-bytes n small)
    (append-bytes (cons-bytes (omega arith) nil-bytes)
    (append-bytes (cons-bytes w.kind nil-bytes)
    (append-bytes (bytes16-bytes h.flags w.flags)
    (append-bytes (bytes32-bytes h.sequence w.sequence)
    (append-bytes (bytes64-bytes h.request w.request)
    (append-bytes (bytes16-bytes h.index w.index)
    (append-bytes (bytes16-bytes h.count w.count)
    (append-bytes (bytes64-bytes h.session w.session) (bytes64-bytes h.channel w.channel))))))))))

-- A header, and what stands between chain and tag.
abbrev pub found_at : Header → ℕ → ℕ → FoundHeader
found_at h start size = record { header = h; start = start; size = size }

-- A sealed message that was written, as the reader finds it.
pub record SealedBack (h : Header) (chain payload keys : List ℕ) (room : ℕ) : Type 0 where
  pub header : read_header (message_bytes h chain payload keys) ≡ Ok (found_at h (40 + length chain) (sealed_size (length payload)))
  pub opens : sealed_size (length payload) ≤ room → open_refusal keys (message_bytes h chain payload keys) (40 + length chain) room ≡ 0
  pub told : be32 (opened (message_bytes h chain payload keys) keys (40 + length chain)) 0 ≡ length payload
  pub handed : payload_of (opened (message_bytes h chain payload keys) keys (40 + length chain)) ≡ payload

module _ (h : Header) (chain payload keys : List ℕ) (room space : ℕ) (good : write_refusal h chain payload (length keys) space ≡ 0) where
  a : Allowed h chain payload (length keys) space
  a = allowed h chain payload (length keys) space good

  abbrev start : ℕ
  start = 40 + length chain

  abbrev before : List ℕ
  before = before_payload h chain payload

  -- The header of a message that ends in this body and this tag.
  header-back : (body tag : List ℕ) → message_bytes h chain payload keys ≡ before ++ (body ++ tag) → length tag ≡ tag_size h.flags
      → (is_sealed h.flags ≡ true → (length body % 16 ≡ 0) × (1 ≤ length body))
      → read_header (message_bytes h chain payload keys) ≡ Ok (found_at h start (length body))
  header-back body tag bytes tagged blocks =
      let long = simp length-append at (ap length bytes) in
      let n : length_of h chain payload ≡ 40 + length chain + length body + length tag =
      omega (arith, length-message_bytes h chain payload keys, length-header h (length_of h chain payload)) in
      rw (bytes, append_assoc, n)
      (read_back h chain body tag
      (record { kind = a.kind; flags = a.flags; piece = a.piece; chained = a.chained; tagged = tagged; blocks = blocks }))

  -- A plain message.
  module _ (plain : is_sealed h.flags ≡ false) where
    plain-header : read_header (message_bytes h chain payload keys) ≡ Ok (found_at h start (length payload))
    plain-header =
        header-back payload [] (rw append-nil (plain-is h chain payload keys plain).0) (sym (plain-tag h.kind h.flags a.flags plain))
        (λ s. absurd (true≢false (sym s ∙ plain)))

    -- The payload's bytes are where it lies.
    pub payload-plain : take (length payload) (drop (40 + length chain) (message_bytes h chain payload keys)) ≡ payload
    payload-plain = rw ((plain-is h chain payload keys plain).0, drop_at before payload start (length_before h chain payload)) (take-length payload)

    pub read_plain : read_message (message_bytes h chain payload keys) keys room ≡ Ok (in_message (found_at h (40 + length chain) (length payload)))
    unfolding read_message plain_read
    read_plain = rw (plain-header, plain, payload-plain, rw plain at a.shaped)

  -- A sealed message.
  module _ (sealed : is_sealed h.flags ≡ true) (of-keys : AreBytes keys) (of-chain : AreBytes chain) (of-payload : AreBytes payload)
      (widths : InWidth h) where
    abbrev part : List ℕ
    part = cbc_encrypt (expand_key (encryption_key keys)) (vector keys before) (plain_text payload)

    pub sealed-back : SealedBack h chain payload keys room
    sealed-back =
        let (bytes, number) = sealed-is h chain payload keys sealed in
        let b = bounds h chain payload (length keys) space of-chain good in
        let s = sizes (length payload) in
        let l = length_part keys before payload in
        let at = length_before h chain payload in
        let tag = tag_of keys (sealed_body keys before payload) in
        let of-before = append-bytes (header-bytes h (length_of h chain payload) widths (omega arith)) of-chain in
        let plain : opened (message_bytes h chain payload keys) keys start ≡ plain_text payload =
        rw (bytes, ← at)
        (opened-back keys before payload (a.keyed sealed) (omega arith) (omega arith) of-keys of-before of-payload) in
        record {
          header = rw (← l)
              (header-back part tag (bytes ∙ in_parts keys before payload)
              (length-tag keys (sealed_body keys before payload) ∙ sym (sealed-tag h.flags sealed)) (λ e. rw l (s.blocks, omega arith)));
          opens = λ fits. rw (bytes, ← at)
              (opens_back keys before payload (a.keyed sealed) (omega arith) (omega arith) of-keys of-before of-payload room fits);
          told = rw plain (told-plain_text payload (omega arith));
          handed = rw plain (payload-plain_text payload (omega arith));
        }

    pub read-sealed : sealed_size (length payload) ≤ room
        → read_message (message_bytes h chain payload keys) keys room ≡ Ok (in_working h (length payload))
    unfolding read_message sealed_read
    read-sealed fits =
        let b = sealed-back in
        rw (b.header, sealed, b.opens fits, b.handed, rw sealed at a.shaped, b.told)
