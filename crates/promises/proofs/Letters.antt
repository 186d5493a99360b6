-- SPDX-License-Identifier: MPL-2.0
-- A Connect message that nothing refuses is written.
use Rattle.laws.proofs.Kit.{ℕ, ◌<◌, ◌≡◌, false, and-false, List, length, le-ltb, arith}
use Rattle.laws.specs.Bytes.{AreBytes}
use Rattle.wire.specs.Fields.{bad_type, bad_flags, bad_piece, most_pieces, is_sealed}
use Rattle.wire.specs.Chain.{bad_chain}
use Rattle.payloads.specs.Shapes.{bad_payload}
use Rattle.wire.specs.declared.header.Header.{Header}
use Rattle.message.specs.Writing.{length_of, write_refusal, message_bytes}
use Rattle.promises.specs.Written.{Wrote}
use Rattle.promises.proofs.Writes.{wrote}

-- A Connect message of a session.
abbrev pub connect_header : (flags sequence request session : ℕ) → Header
connect_header flags sequence request session =
    record { kind = 2; flags = flags; sequence = sequence; request = request; index = 0; count = 1; session = session; channel = 0 }

-- Flags and payload that are not refused.
pub record Carried (flags : ℕ) (bytes : List ℕ) : Type 0 where
  pub low : flags < 65536
  pub of-bytes : AreBytes bytes
  pub flagged : bad_flags 2 flags ≡ false
  pub shaped : bad_payload 2 (is_sealed flags) bytes ≡ false

pub connect-written : (flags sequence request session : ℕ) (chain bytes keys : List ℕ) → sequence < 4294967296 → request < 18446744073709551616
    → session < 18446744073709551616 → AreBytes chain → bad_chain chain ≡ false → Carried flags bytes → AreBytes keys → length keys ≡ 64
    → let h = connect_header flags sequence request session in Wrote h chain bytes keys (message_bytes h chain bytes keys)
unfolding write_refusal bad_type bad_piece most_pieces
connect-written flags sequence request session chain bytes keys s r i b c a of-keys whole =
    let h = connect_header flags sequence request session in
    let k = length_of h chain bytes in
    wrote h chain bytes keys (omega (arith, a.low)) b a.of-bytes of-keys
    (rw (a.flagged, c, whole, and-false (is_sealed flags), a.shaped, le-ltb k k (omega arith)))
