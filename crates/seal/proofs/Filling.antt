-- SPDX-License-Identifier: MPL-2.0
-- What is written into the room of a sealed part: of sixteen padding bytes those stay that have room.
use Rattle.laws.proofs.Kit.{ℕ, ◌+◌, ◌-◌, ◌≡◌, sym, ◌∙◌, ap, List, ◌++◌, append-nil, append_assoc, length, replicate, sets, take_at, drop-length}
use Rattle.laws.proofs.Kit.{arith}
use lib.ListN.{replicate-append-replicate}
use Rattle.laws.proofs.Stores.{sets-start, sets-cut}
use Rattle.laws.specs.Bytes.{bytes32}
use Rattle.seal.specs.Padding.{padding, sealed_size, padding_bytes, plain_text}
use Rattle.seal.proofs.Padded.{sizes, length-plain_text}

module _ (payload room : List ℕ) (count : ℕ) (fits : length room ≡ sealed_size (length payload)) (pads : count ≡ padding (length payload)) where
  -- Sixteen padding bytes are those of the plain text, and more.
  plain-first : (bytes32 (length payload) ++ payload) ++ replicate 16 count ≡ plain_text payload ++ replicate (16 - count) count
  unfolding plain_text padding_bytes
  plain-first =
      let s = sizes (length payload) in
      let k : count + (16 - count) ≡ 16 = omega arith in
      let r : replicate 16 count ≡ replicate count count ++ replicate (16 - count) count =
      sym (replicate-append-replicate count (16 - count) count ∙ ap (λ (n : ℕ). replicate n count) k) in
      rw (r, ← pads)
      (ap (λ (l : List ℕ). bytes32 (length payload) ++ l) (sym (append_assoc payload (replicate count count) (replicate (16 - count) count))))

  pub plain-stored : sets room 0 ((bytes32 (length payload) ++ payload) ++ replicate 16 count) ≡ plain_text payload
  plain-stored =
      let all : length (plain_text payload) ≡ length room = length-plain_text payload ∙ sym fits in
      ap (sets room 0) plain-first
      ∙ rw (
        ← sets-cut (plain_text payload ++ replicate (16 - count) count) room 0 (length room) (omega arith),
        take_at (plain_text payload) (replicate (16 - count) count) (length room) all,
        sets-start (plain_text payload) room (omega arith),
        all,
        drop-length,
        append-nil,
      )
