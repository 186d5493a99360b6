-- SPDX-License-Identifier: MPL-2.0
-- RFC 2104 with SHA-256, whose blocks are of 64 bytes: HMAC(K, text) = H(K ⊕ opad, H(K ⊕ ipad, text)).
use Rattle.std.specs.Prelude.{ℕ, ◌-◌, cond, List, [], ◌∷◌, ◌++◌, ltb, length, replicate}
use Rattle.std.specs.Int.Bits.{bit_xor}
use Rattle.sha256.specs.Digests.{digest}

-- "ipad = the byte 0x36 repeated B times".
abbrev pub ipad : ℕ
ipad = 0x36

-- "opad = the byte 0x5C repeated B times".
abbrev pub opad : ℕ
opad = 0x5c

-- Zeros appended to a key up to the length of a block.
unfoldable pub filled : List ℕ → List ℕ
filled key = key ++ replicate (64 - length key) 0

-- K: a key longer than a block is hashed first.
unfoldable pub key_block : List ℕ → List ℕ
key_block key = filled (cond (ltb 64 (length key)) (digest key) key)

-- Each byte ⊕ the pad's.
unfoldable pub masked : ℕ → List ℕ → List ℕ
masked pad [] = []
masked pad (x ∷ xs) = bit_xor x pad ∷ masked pad xs

unfoldable pub hmac : List ℕ → List ℕ → List ℕ
hmac key text = digest (masked opad (key_block key) ++ digest (masked ipad (key_block key) ++ text))
