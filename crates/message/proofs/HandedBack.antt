-- SPDX-License-Identifier: MPL-2.0
-- The payload that is handed out of an opened message is that of its plain text; out of a written message, the one that was written.
use Rattle.laws.proofs.Kit.{ℕ, ◌+◌, ◌≤◌, ◌≡◌, ◌∙◌, true, false, List, length, le-ltb, arith}
use Rattle.laws.specs.Bytes.{AreBytes, be32}
use Rattle.wire.specs.Fields.{is_sealed}
use Rattle.wire.specs.declared.header.Header.{Header}
use Rattle.seal.specs.Padding.{sealed_size, payload_of}
use Rattle.seal.specs.Opening.{open_refusal, opened_into}
use Rattle.seal.proofs.Accepted.{opened-held}
use Rattle.message.specs.Handed.{part_of, payload}
use Rattle.message.specs.Reading.{opened, in_message, in_working, working_after}
use Rattle.std.specs.Prelude.{Ok}
use Rattle.message.specs.Widths.{InWidth}
use Rattle.message.specs.Writing.{write_refusal, message_bytes}
use Rattle.message.proofs.WrittenLengths.{plain-is, length-message_bytes}
use Rattle.message.proofs.WrittenBack.{found_at, payload-plain, sealed-back}

-- A sealed part that was opened into the working buffer.
pub handed-opened : (keys m : List ℕ) (start : ℕ) (working : List ℕ) → open_refusal keys m start (length working) ≡ 0
    → (h : Header) → payload m (opened_into keys m start working) (Ok (in_working h (be32 (opened m keys start) 0))) ≡ payload_of (opened m keys start)
unfolding payload part_of
handed-opened keys m start working e h = let held = opened-held keys m start working e in rw (le-ltb _ _ held.fits) held.payload

-- A message that the writer wrote, into an output of `space` bytes.
module _ (h : Header) (chain bytes keys working : List ℕ) (space : ℕ) (good : write_refusal h chain bytes (length keys) space ≡ 0) where
  pub handed-plain : is_sealed h.flags ≡ false
      → payload (message_bytes h chain bytes keys) (working_after (message_bytes h chain bytes keys) keys working)
      (Ok (in_message (found_at h (40 + length chain) (length bytes)))) ≡ bytes
  unfolding payload part_of
  handed-plain plain =
      let number = (plain-is h chain bytes keys plain).1 in
      let long = length-message_bytes h chain bytes keys in
      rw (le-ltb (length (message_bytes h chain bytes keys)) (40 + length chain + length bytes) (omega arith))
      (payload-plain h chain bytes keys (length working) space good plain)

  pub handed-sealed : is_sealed h.flags ≡ true → AreBytes keys → AreBytes chain → AreBytes bytes → InWidth h
      → sealed_size (length bytes) ≤ length working
      → payload (message_bytes h chain bytes keys) (working_after (message_bytes h chain bytes keys) keys working) (Ok (in_working h (length bytes)))
      ≡ bytes
  unfolding working_after
  handed-sealed sealed of-keys of-chain of-bytes widths fits =
      let b = sealed-back h chain bytes keys (length working) space good sealed of-keys of-chain of-bytes widths in
      rw (b.header, sealed, ← b.told) (handed-opened keys _ _ working (b.opens fits) h ∙ b.handed)
