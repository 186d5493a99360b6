-- SPDX-License-Identifier: MPL-2.0
-- A connection in bytes, numbers big-endian as on the wire: the layout, read and written.
use Rattle.std.specs.Prelude.{ℕ, ◌+◌, ◌*◌, ◌/◌, ◌%◌, ◌^◌, ◌≡◌, List, [], ◌∷◌, ◌++◌, Bool, eqb, length}
use Rattle.laws.specs.Runs.{gathered}
use Rattle.laws.specs.Bytes.{AreBytes, be8, be16, be32, be64, bytes_at, bytes16, bytes32, bytes64}
use Rattle.joining.specs.Heard.{bit, has, most}
use Rattle.joining.specs.declared.Progress.{Progress}
use Rattle.hub.specs.declared.Connection.{Connection}
use Rattle.state.specs.Layout.{size_place, state_place, session_place, nonce_place, x_place, y_place, digest_place, expected_place}
use Rattle.state.specs.Layout.{heard_place, heard_size, count_place, channel_place, last_place, state_size}

-- Parts, one after the other.
abbrev pub joined : List (List ℕ) → List ℕ
joined [] = []
joined (x ∷ xs) = x ++ joined xs

-- Whether index i is heard: bit i % 8, of the value 2^(i % 8), of byte i / 8 of the heard set.
abbrev pub bit_at : List ℕ → ℕ → Bool
bit_at s i = eqb (be8 s (heard_place + i / 8) / 2 ^ (i % 8) % 2) 1

-- The first n indexes of the heard set.
abbrev pub heard_at : List ℕ → ℕ → List Bool
heard_at s n = gathered (bit_at s) n

-- Bits as a number, the first having the value 1.
abbrev pub value : List Bool → ℕ
value [] = 0
value (b ∷ bs) = bit b + 2 * value bs

-- An index and the seven after it as a byte.
abbrev pub eight : List Bool → ℕ → ℕ
eight heard at = value (gathered (λ (k : ℕ). has heard (at + k)) 8)

-- The byte of the heard set that has index 8 i and the seven after it.
abbrev pub heard_byte : List Bool → ℕ → ℕ
heard_byte heard i = eight heard (8 * i)

-- The first n bytes of a heard set.
abbrev pub heard_bytes : List Bool → ℕ → List ℕ
heard_bytes heard n = gathered (heard_byte heard) n

-- How far the expected message has come, from its place on.
abbrev pub progress_at : List ℕ → Progress
progress_at s =
    record {
      expected = be32 s expected_place;
      heard = heard_at s most;
      count = be64 s count_place;
      channel = be64 s channel_place;
      last = be16 s last_place;
    }

-- The connection that stands in these bytes.
unfoldable pub connection_at : List ℕ → Connection
connection_at s =
    record {
      size = be64 s size_place;
      state = be8 s state_place;
      session = be64 s session_place;
      nonce = bytes_at s nonce_place 8;
      x = bytes_at s x_place 32;
      y = bytes_at s y_place 32;
      digest = bytes_at s digest_place 32;
      progress = progress_at s;
    }

-- The parts of the progress.
abbrev pub progress_parts : Progress → List (List ℕ)
progress_parts p =
    bytes32 p.expected ∷ heard_bytes p.heard heard_size ∷ bytes64 p.count ∷ bytes64 p.channel ∷ bytes16 p.last ∷ []

unfoldable pub progress_bytes : Progress → List ℕ
progress_bytes p = joined (progress_parts p)

-- The parts of a connection.
abbrev pub state_parts : Connection → List (List ℕ)
state_parts c =
    bytes64 c.size ∷ (c.state ∷ []) ∷ bytes64 c.session ∷ c.nonce ∷ c.x ∷ c.y ∷ c.digest ∷ progress_bytes c.progress ∷ []

-- The bytes of a connection.
unfoldable pub state_bytes : Connection → List ℕ
state_bytes c = joined (state_parts c)

-- A connection as code has it, as far as reading back asks: each array has its length.
pub record Fits (c : Connection) : Type 0 where
  pub nonce : length c.nonce ≡ 8
  pub x : length c.x ≡ 32
  pub y : length c.y ≡ 32
  pub digest : length c.digest ≡ 32
  pub heard : length c.progress.heard ≡ most

-- Every connection is `state_size` bytes, and it is read back from them.
abbrev pub ReadBack : Type 0
ReadBack = (c : Connection) → Fits c → (length (state_bytes c) ≡ state_size) × (connection_at (state_bytes c) ≡ c)

-- Any `state_size` bytes are a connection, and they are its state: so a connection that did not change leaves each byte as it was.
abbrev pub Whole : Type 0
Whole = (s : List ℕ) → length s ≡ state_size → AreBytes s → state_bytes (connection_at s) ≡ s
