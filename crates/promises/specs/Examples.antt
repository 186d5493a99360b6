-- SPDX-License-Identifier: MPL-2.0
-- Document 01's numbered examples, P1 to P13: each row is what the definitions give, and what document 01 asks.
use Rattle.std.specs.Prelude.{ℕ, zero, suc, ◌≡◌, List, [], ◌∷◌, ◌++◌, map, length, take, set, replicate}
use Rattle.field.specs.Sbox.{sbox}
use Rattle.wire.specs.Examples.{p1}
use Rattle.seal.specs.Padding.{sealed_size}
use Rattle.message.specs.Reading.{read_message}
use Rattle.message.specs.Answers.{found_message}
use Rattle.joining.specs.Cut.{cut_count, cut_piece}

-- What a message gets without keys and without a working buffer: the number of its refusal, 0 where it is accepted.
abbrev pub gets : List ℕ → List ℕ
gets m = (found_message (read_message m [] 0)).refusal ∷ []

-- The lengths of the first n pieces.
abbrev pub first_pieces : ℕ → ℕ → ℕ → List ℕ
first_pieces F bytes zero = []
first_pieces F bytes (suc n) = first_pieces F bytes n ++ (length (cut_piece F (replicate bytes 0) n) ∷ [])

-- The lengths of the pieces of a report of n bytes.
abbrev pub pieces : ℕ → ℕ → List ℕ
pieces F bytes = first_pieces F bytes (cut_count F bytes 0)

-- The table.
abbrev pub examples : List (List ℕ × List ℕ)
examples =
    -- P1 the 43 bytes …, accepted
    (gets p1, 0 ∷ [])
    -- P2 its first 42 bytes, 3
    ∷ (gets (take 42 p1), 3 ∷ [])
    -- P3 its first 41, 1
    ∷ (gets (take 41 p1), 1 ∷ [])
    -- P4 second byte 31, 2
    ∷ (gets (set p1 1 0x31), 2 ∷ [])
    -- P5 version 4, 4
    ∷ (gets (set p1 4 4), 4 ∷ [])
    -- P6 count 0, 7
    ∷ (gets (set p1 23 0), 7 ∷ [])
    -- P7 index 1 of 1, 7
    ∷ (gets (set p1 21 1), 7 ∷ [])
    -- P8 payload 12, sealed part 16
    ∷ (sealed_size 12 ∷ [], 16 ∷ [])
    -- P9 payload 13, sealed part 32
    ∷ (sealed_size 13 ∷ [], 32 ∷ [])
    -- P10 F = 4, ten bytes, pieces 4, 4, 2
    ∷ (pieces 4 10, 4 ∷ 4 ∷ 2 ∷ [])
    -- P11 F = 4, eight bytes, pieces 4, 4
    ∷ (pieces 4 8, 4 ∷ 4 ∷ [])
    -- P12 F = 4, nothing, one empty piece
    ∷ (pieces 4 0, 0 ∷ [])
    -- P13 substitution of 0x53 is 0xED
    ∷ (sbox 0x53 ∷ [], 0xED ∷ [])
    ∷ []

-- "These are shown of the definitions, as one table under a single claim".
abbrev pub NumberedExamples : Type 0
NumberedExamples = map (λ row. row.0) examples ≡ map (λ row. row.1) examples
