-- SPDX-License-Identifier: MPL-2.0
-- FIPS 197, 5.2: KeyExpansion, a round key of four words at a time.
use Rattle.std.specs.Prelude.{List, ℕ, zero, suc, ◌+◌, ◌*◌, ◌/◌, ◌%◌, get_or}
use Rattle.laws.specs.Runs.{run}
use Rattle.field.specs.Xor.{xor}
use Rattle.field.specs.Field.{xtime}
use Rattle.field.specs.Sbox.{sbox}
use Rattle.aes.specs.State.{block}

-- The first byte of the round constant Rcon[n + 1]: x to the power of n.
unfoldable pub rcon : ℕ → ℕ
rcon zero = 1
rcon (suc n) = xtime (rcon n)

-- Byte r of what is added to the first word of the round key k to make the next: k's last word turned by one byte (RotWord) and substituted
-- (SubWord), and the round constant, which is c and three zero bytes.
unfoldable pub turned_byte : List ℕ → ℕ → ℕ → ℕ
turned_byte k c zero = xor (sbox (get_or k 13 0)) c
turned_byte k c (suc r) = sbox (get_or k (12 + (suc r + 1) % 4) 0)

-- Byte r of word j of the next round key: each later word is k's own, to which the new word before it is added.
unfoldable pub next_byte : List ℕ → ℕ → ℕ → ℕ → ℕ
next_byte k c zero r = xor (get_or k r 0) (turned_byte k c r)
next_byte k c (suc j) r = xor (get_or k (4 * suc j + r) 0) (next_byte k c j r)

-- The round key after k, whose round constant begins with c.
unfoldable pub next_key : List ℕ → ℕ → List ℕ
next_key k c = block (λ i. next_byte k c (i / 4) (i % 4))

-- The n-th round key; the key itself is the first, of number 0.
unfoldable pub round_key : List ℕ → ℕ → List ℕ
round_key key zero = key
round_key key (suc n) = next_key (round_key key n) (rcon n)

-- The eleven round keys.
unfoldable pub expand_key : List ℕ → List (List ℕ)
expand_key key = run (round_key key) 0 11
