-- SPDX-License-Identifier: MPL-2.0
-- What the 64 key bytes are for: the vector and the tag of a message.
use Rattle.std.specs.Prelude.{ℕ, List, ◌++◌, length, take, drop}
use Rattle.laws.specs.Bytes.{bytes_at, bytes16}
use Rattle.aes.specs.Key.{expand_key}
use Rattle.aes.specs.Cipher.{cipher}
use Rattle.sha256.specs.Macs.{hmac}

-- "16 encryption key, 16 vector key, 32 HMAC key": the first.
abbrev pub encryption_key : List ℕ → List ℕ
encryption_key keys = take 16 keys

-- The second.
abbrev pub vector_key : List ℕ → List ℕ
vector_key keys = take 16 (drop 16 keys)

-- The third.
abbrev pub tag_key : List ℕ → List ℕ
tag_key keys = take 32 (drop 32 keys)

-- "SessionID, SequenceNumber, FragmentIndex and FragmentCount joined (8 + 4 + 2 + 2 bytes)", as they stand in a message.
unfoldable pub vector_block : List ℕ → List ℕ
vector_block m = bytes_at m 24 8 ++ (bytes_at m 8 4 ++ (bytes_at m 20 2 ++ bytes_at m 22 2))

-- "The vector is one AES block under the vector key".
unfoldable pub vector : List ℕ → List ℕ → List ℕ
vector keys m = cipher (expand_key (vector_key keys)) (vector_block m)

-- "HMAC-SHA-256 under the HMAC key over the message without its last 32 bytes, with MessageLength holding the final length less 32":
-- `body` is the message without its last 32 bytes, so its length is the number that the tag sees at place 2.
unfoldable pub tag_of : List ℕ → List ℕ → List ℕ
tag_of keys body = hmac (tag_key keys) (take 2 body ++ (bytes16 (length body) ++ drop 4 body))
