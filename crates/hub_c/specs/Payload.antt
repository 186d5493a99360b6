-- SPDX-License-Identifier: MPL-2.0
-- The payload writers in words: when a buffer or a word is wrong, and else what the writer of a format answers and leaves.
use Rattle.std.specs.Prelude.{ℕ, List, [], ◌∷◌, Bool, cond, not, ◌&&◌, ◌||◌, eqb, ltb, length}
use Rattle.payloads.specs.Format.{Format, Values}
use Rattle.payloads.specs.declared.reading.Request.{Request}
use Rattle.writer.specs.Answers.{wrote}
use Rattle.writer.specs.Payload.{payload_written, payload_output}
use Rattle.hub_c.specs.Sizes.{wrong_buffer}

-- The bytes of a nonce.
abbrev pub nonce_size : ℕ
nonce_size = 8

-- The bytes of X, and of Y.
abbrev pub coordinate_size : ℕ
coordinate_size = 32

-- The buffer of the length has another size, a mode more than 16 bits, or a type, a Result or a Status more than 8.
unfoldable pub wrong_words : (size mode code : ℕ) → Bool
wrong_words size mode code = not (eqb size 1) || ltb 65535 mode || ltb 255 code

-- Nonce, X or Y has another size.
unfoldable pub wrong_exchange : (nonce x y : ℕ) → Bool
wrong_exchange nonce x y = not (eqb nonce nonce_size) || not (eqb x coordinate_size) || not (eqb y coordinate_size)

-- A buffer or a word of a Connection Request is wrong.
abbrev pub wrong_request : (mode : ℕ) → (nonce x y size : List ℕ) → Bool
wrong_request mode nonce x y size = wrong_words (length size) mode 0 || wrong_exchange (length nonce) (length x) (length y)

-- A buffer or a word of a Connection Response is wrong. Only one that is Pending looks at nonce, X and Y.
abbrev pub wrong_response : (mode result : ℕ) → (nonce x y size : List ℕ) → Bool
wrong_response mode result nonce x y size =
    wrong_words (length size) mode result || (eqb result 1 && wrong_exchange (length nonce) (length x) (length y))

-- Nonce, X and Y together.
abbrev pub exchange_of : (nonce x y : List ℕ) → Request
exchange_of nonce x y = record { nonce = nonce; x = x; y = y }

-- The bytes of a salt.
abbrev pub salt_size : ℕ
salt_size = 4

-- The bytes of a hash.
abbrev pub hash_size : ℕ
hash_size = 4

-- A device type has more than 16 bits, or salt or hash another size.
unfoldable pub wrong_presence : (device salt hash : ℕ) → Bool
wrong_presence device salt hash = ltb 65535 device || not (eqb salt salt_size) || not (eqb hash hash_size)

-- A buffer or a word of a Presence Response is wrong.
abbrev pub wrong_presence_response : (mode device : ℕ) → (salt hash size : List ℕ) → Bool
wrong_presence_response mode device salt hash size = wrong_words (length size) mode 0 || wrong_presence device (length salt) (length hash)

-- The number that a call answers.
abbrev pub number_given : (wrong : Bool) (f : Format) → Values f → (out : List ℕ) → ℕ
number_given wrong f v out = cond wrong wrong_buffer (wrote (payload_written f v out)).refusal

-- What its output then holds.
abbrev pub bytes_given : (wrong : Bool) (f : Format) → Values f → (out : List ℕ) → List ℕ
bytes_given wrong f v out = cond wrong out (payload_output f v out)

-- What the word of the length then holds.
abbrev pub length_given : (wrong : Bool) (f : Format) → Values f → (out size : List ℕ) → List ℕ
length_given wrong f v out size = cond wrong size ((wrote (payload_written f v out)).size ∷ [])
