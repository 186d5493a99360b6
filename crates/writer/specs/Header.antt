-- SPDX-License-Identifier: MPL-2.0
-- The bytes of the common header.
use Rattle.std.specs.Prelude.{ℕ, List, [], ◌∷◌, ◌++◌}
use Rattle.laws.specs.Bytes.{bytes16, bytes32, bytes64}
use Rattle.wire.specs.declared.header.Header.{Header}

-- The table "The message on the wire", row by row, of a message of `size` bytes.
unfoldable pub header_bytes : Header → ℕ → List ℕ
header_bytes h size =
    bytes16 0x3030
    ++ bytes16 size
    ++ (3 ∷ [])
    ++ (h.kind ∷ [])
    ++ bytes16 h.flags
    ++ bytes32 h.sequence
    ++ bytes64 h.request
    ++ bytes16 h.index
    ++ bytes16 h.count
    ++ bytes64 h.session
    ++ bytes64 h.channel
