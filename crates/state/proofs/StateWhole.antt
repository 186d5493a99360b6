-- SPDX-License-Identifier: MPL-2.0
-- The state of the connection that bytes are read as is those bytes.
use Rattle.laws.proofs.Kit.{ℕ, ◌+◌, ◌*◌, ◌/◌, ◌%◌, ◌^◌, ◌≤◌, ◌<◌, ◌≡◌, refl, sym, ◌∙◌, ap, ap₂, false, List, length, take-length, eqb}
use Rattle.laws.proofs.Kit.{arith}
use Rattle.laws.specs.Bytes.{AreBytes, be8, bytes_at}
use Rattle.laws.proofs.Parts.{bytes_at-part}
use Rattle.laws.proofs.NumberBytes.{bytes-be16, bytes-be32, bytes-be64}
use Rattle.laws.proofs.Runs.{length-gathered}
use Rattle.wire.specs.Fields.{most_pieces}
use Rattle.joining.specs.Heard.{has, most}
use Rattle.state.specs.Layout.{size_place, session_place, expected_place, heard_place, heard_size, count_place, channel_place, last_place}
use Rattle.state.specs.State.{bit_at, heard_at, heard_byte, heard_bytes, progress_at, progress_parts, connection_at, Fits, Whole}
use Rattle.state.proofs.Gathered.{gathered-at, gathered-same, bytes_at-gathered}
use Rattle.state.proofs.Parted.{Stand, stand-joined}
use Rattle.state.proofs.Bits.{eight-bits}
use Rattle.state.proofs.StateBack.{eights, all_parts, all-parts, read_back}

module _ (s : List ℕ) (bytes : AreBytes s) where
  -- A byte of the heard set: each of its bits is the one that was read.
  heard-byte : (i : ℕ) → i < heard_size → be8 s (heard_place + i) ≡ heard_byte (heard_at s most) i
  heard-byte i l = sym (eight-bits (heard_at s most) (8 * i) (be8 s (heard_place + i)) (bytes.at (heard_place + i)) by)
    where
      by : (k : ℕ) → k < 8 → has (heard_at s most) (8 * i + k) ≡ eqb (be8 s (heard_place + i) / 2 ^ k % 2) 1
      by k h =
          let j : 8 * i + k < most = omega (arith, eights) in
          let d : (8 * i + k) / 8 ≡ i = omega arith in
          let m : (8 * i + k) % 8 ≡ k = omega arith in
          gathered-at (bit_at s) false most (8 * i + k) j ∙ ap₂ (λ (b c : ℕ). eqb (be8 s (heard_place + b) / 2 ^ c % 2) 1) d m

  heard-bytes : bytes_at s heard_place heard_size ≡ heard_bytes (heard_at s most) heard_size
  heard-bytes = bytes_at-gathered s heard_place heard_size ∙ gathered-same _ _ heard_size heard-byte

  progress-stand : Stand s expected_place (progress_parts (progress_at s))
  unfolding most_pieces
  progress-stand =
      rw (length-gathered (heard_byte (heard_at s most)) heard_size) (
        bytes-be32 s bytes expected_place,
        (
          heard-bytes,
          (bytes-be64 s bytes count_place, (bytes-be64 s bytes channel_place, (bytes-be16 s bytes last_place, tt))),
        ),
      )

  parts-stand : Stand s 0 (all_parts (connection_at s))
  unfolding connection_at bytes_at
  parts-stand = (bytes-be64 s bytes size_place, (refl, (bytes-be64 s bytes session_place, (refl, (refl, (refl, (refl, progress-stand)))))))

  fits : Fits (connection_at s)
  unfolding connection_at bytes_at
  fits = record { nonce = refl; x = refl; y = refl; digest = refl; heard = length-gathered (bit_at s) most }

pub whole : Whole
whole s e bytes =
    let c = connection_at s in
    let n = sym (ap length (all-parts c)) ∙ (read_back c (fits s bytes)).0 ∙ sym e in
    let k : 0 + length s ≤ length s = omega arith in
    all-parts c
    ∙ stand-joined s 0 (all_parts c) (parts-stand s bytes)
    ∙ ap (bytes_at s 0) n
    ∙ bytes_at-part s 0 (length s) k
    ∙ take-length s
