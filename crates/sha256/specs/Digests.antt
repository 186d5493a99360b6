-- SPDX-License-Identifier: MPL-2.0
-- FIPS 180-4 §5.1.1, §5.2.1, §5.3.3 and §6.2: the padding of a message of bytes, the hash value after its blocks, and its digest. A message's length
-- is counted in bytes here, in bits where the standard writes it into the padding.
use Rattle.std.specs.Prelude.{ℕ, zero, suc, ◌-◌, ◌*◌, ◌/◌, ◌%◌, ◌^◌, cond, List, [], ◌∷◌, ◌++◌, ltb, length, replicate}
use Rattle.laws.specs.Bytes.{be32, bytes32, bytes64, bytes_at}
use Rattle.compression.specs.declared.Vars.{Vars}
use Rattle.compression.specs.Compression.{compress}

-- How many bytes of zeros follow the byte 0x80: the fewest after which eight bytes complete a block.
abbrev pub zeros : ℕ → ℕ
zeros l = (119 - l % 64) % 64

-- The padding of a message of l bytes: a bit 1, zeros, and the length in bits as eight bytes.
unfoldable pub padding : ℕ → List ℕ
padding l = 0x80 ∷ (replicate (zeros l) 0 ++ bytes64 (8 * l))

-- H(0): the first 32 bits of the fractional parts of the square roots of the first eight primes.
unfoldable pub H0 : Vars
H0 = record { a = 0x6a09e667; b = 0xbb67ae85; c = 0x3c6ef372; d = 0xa54ff53a; e = 0x510e527f; f = 0x9b05688c; g = 0x1f83d9ab; h = 0x5be0cd19 }

-- M_0 to M_(n-1): the first n words of a block.
unfoldable pub words : List ℕ → ℕ → List ℕ
words block zero = []
words block (suc n) = words block n ++ (be32 block (4 * n) ∷ [])

-- The hash value after a block, which is of sixteen words.
unfoldable pub after_block : Vars → List ℕ → Vars
after_block v block = compress v (words block 16)

-- The hash value after the first n blocks of a message, which are of sixty-four bytes each.
unfoldable pub blocks : Vars → List ℕ → ℕ → Vars
blocks v m zero = v
blocks v m (suc n) = after_block (blocks v m n) (bytes_at m (64 * n) 64)

-- The hash value after a message that is whole blocks.
unfoldable pub hashed : Vars → List ℕ → Vars
hashed v m = blocks v m (length m / 64)

-- The eight words of a hash value, one after the other.
unfoldable pub bytes_of : Vars → List ℕ
bytes_of v =
    bytes32 v.a ++ (bytes32 v.b ++ (bytes32 v.c ++ (bytes32 v.d
    ++ (bytes32 v.e ++ (bytes32 v.f ++ (bytes32 v.g ++ bytes32 v.h))))))

-- The digest of a message. The standard has one for each message of fewer than 2^64 bits; beyond them, where it defines nothing and where no
-- memory reaches, this is thirty-two zero bytes.
unfoldable pub digest : List ℕ → List ℕ
digest m = cond (ltb (length m) (2 ^ 61)) (bytes_of (hashed H0 (m ++ padding (length m)))) (replicate 32 0)
