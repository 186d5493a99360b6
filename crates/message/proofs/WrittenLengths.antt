-- SPDX-License-Identifier: MPL-2.0
-- How long the messages are that the writer writes, and what they are: the payload as it is, or sealed.
use Rattle.laws.proofs.Kit.{ℕ, ◌+◌, ◌*◌, ◌/◌, ◌≤◌, ◌≡◌, refl, Bool, true, false, List, ◌++◌, length, length-append, arith}
use Rattle.laws.proofs.Cases.{on}
use Rattle.wire.specs.Fields.{is_sealed}
use Rattle.wire.specs.declared.header.Header.{Header}
use Rattle.writer.specs.Header.{header_bytes}
use Rattle.seal.specs.Padding.{padding, sealed_size}
use Rattle.seal.specs.Sealed.{sealed_message}
use Rattle.seal.proofs.Padded.{sizes}
use Rattle.seal.proofs.Unsealed.{length-sealed_message}
use Rattle.message.specs.Writing.{finished_length, length_of, before_payload, message_bytes}

-- 16 × ceiling((4 + P) / 16)
sealed_size-is : (p : ℕ) → sealed_size p ≡ 16 * ((4 + p + 15) / 16)
unfolding sealed_size padding
sealed_size-is p = omega arith

-- "So the finished length is 74 + additional entries + 16 × ceiling((4 + P) / 16) for payload size P": the chain is its entries and two bytes of end.
pub finished-sealed : (entries p : ℕ) → finished_length true (entries + 2) p ≡ 74 + entries + 16 * ((4 + p + 15) / 16)
unfolding finished_length
finished-sealed entries p = rw sealed_size-is (omega arith)

-- A message that the writer accepts holds header and chain, and is short.
pub length-within : (sealed : Bool) (chain payload : ℕ) → chain ≤ 2058 → payload ≤ 16384
    → (40 + chain ≤ finished_length sealed chain payload) × (finished_length sealed chain payload ≤ 18530)
unfolding finished_length
length-within true chain payload c p = let s = sizes payload in (omega arith, omega arith)
length-within false chain payload c p = (omega arith, omega arith)

pub length-header : (h : Header) (size : ℕ) → length (header_bytes h size) ≡ 40
unfolding header_bytes
length-header h size = refl

pub length_before : (h : Header) (chain payload : List ℕ) → length (before_payload h chain payload) ≡ 40 + length chain
length_before h chain payload = rw (length-append, length-header)

-- The bytes of a message and their number.
module _ (h : Header) (chain payload keys : List ℕ) where
  pub plain-is : is_sealed h.flags ≡ false
      → (message_bytes h chain payload keys ≡ before_payload h chain payload ++ payload)
      × (length_of h chain payload ≡ 40 + length chain + length payload)
  unfolding message_bytes finished_length
  plain-is e = rw e (refl, refl)

  pub sealed-is : is_sealed h.flags ≡ true
      → (message_bytes h chain payload keys ≡ sealed_message keys (before_payload h chain payload) payload)
      × (length_of h chain payload ≡ 40 + length chain + (sealed_size (length payload) + 32))
  unfolding message_bytes finished_length
  sealed-is e = rw e (refl, refl)

  -- They are as many as the writer answers.
  pub length-message_bytes : length (message_bytes h chain payload keys) ≡ length_of h chain payload
  length-message_bytes =
      on (is_sealed h.flags)
      (λ s. let (bytes, number) = sealed-is s in rw (bytes, length-sealed_message, length_before) (omega arith))
      (λ s. let (bytes, number) = plain-is s in rw (bytes, length-append, length_before) (omega arith))
