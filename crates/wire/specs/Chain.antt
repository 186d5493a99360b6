-- SPDX-License-Identifier: MPL-2.0
-- The chain of additional headers, as a recursive definition on the bytes that are left, and its answer: how many bytes it leaves
-- after it, or that there is no chain (refusal 8).
use Rattle.std.specs.Prelude.{ℕ, zero, suc, ◌+◌, ◌-◌, List, Bool, true, false, cond, not, ◌||◌, length, drop, ltb, eqb, Option, Some, None}
use Rattle.laws.specs.Bytes.{be8}
use Rattle.wire.specs.declared.chain.FoundChain.{FoundChain}
use Rattle.wire.specs.declared.chain.Entry.{Entry}
use Rattle.wire.specs.declared.chain.Entry.TheVariants.{End, Spans, Wrong}

-- "one byte of type (1 to 3), one byte of size, then that many bytes. The chain ends at type 0, size 0."
unfoldable pub entry_of : List ℕ → Entry
entry_of m =
    cond (ltb (length m) 2) Wrong
    (cond (eqb (be8 m 0) 0) (cond (eqb (be8 m 1) 0) End Wrong)
    (cond (ltb 3 (be8 m 0)) Wrong
    (cond (ltb (length m) (2 + be8 m 1)) Wrong
    (Spans (2 + be8 m 1)))))

-- What the entry at the start of m makes of the chain: its end leaves what stands after it, an entry hands what stands after it
-- to `next`.
abbrev pub follow : Entry → List ℕ → (List ℕ → Option FoundChain) → Option FoundChain
follow Wrong m next = None
follow End m next = Some (record { leaves = length m - 2 })
follow (Spans n) m next = next (drop n m)

-- A chain with at most `left` entries before its end. "The chain is read entry by entry, the remainder being again a chain and shorter."
unfoldable pub chain : ℕ → List ℕ → Option FoundChain
chain zero m = follow (entry_of m) m (λ rest. None)
chain (suc left) m = follow (entry_of m) m (chain left)

-- "At most 8 entries stand before the end."
unfoldable pub most_entries : ℕ
most_entries = 8

-- The chain at the start of its room.
unfoldable pub read_chain : List ℕ → Option FoundChain
read_chain room = chain most_entries room

-- How many bytes stand after the chain; 0 where there is none.
abbrev pub leaves : Option FoundChain → ℕ
leaves (Some found) = found.leaves
leaves None = 0

-- There is no chain.
abbrev pub is_broken : Option FoundChain → Bool
is_broken (Some found) = false
is_broken None = true

-- Refusal 8 in the writer: "(a chain given with bytes after its end too)".
unfoldable pub bad_chain : List ℕ → Bool
bad_chain given = is_broken (read_chain given) || not (eqb (leaves (read_chain given)) 0)
