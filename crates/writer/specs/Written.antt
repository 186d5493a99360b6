-- SPDX-License-Identifier: MPL-2.0
-- What a writer answers, and what its output then holds. One that refuses leaves its output as it was.
use Rattle.std.specs.Prelude.{ℕ, List, [], ◌∷◌, ◌++◌, Bool, cond, length, drop, ltb, eqb, Result}
use Rattle.laws.specs.Rows.{first, unless}
use Rattle.wire.specs.Refusals.{wrong_payload, no_room}

-- The refusals of a writer whose bytes would have no shape, or no room.
unfoldable pub put_refusal : (bad : Bool) → (size room : ℕ) → ℕ
put_refusal bad size room = first ((wrong_payload, bad) ∷ (no_room, ltb room size) ∷ [])

-- What a writer answers that has `size` bytes to write.
unfoldable pub written : (bad : Bool) → (size : ℕ) → (out : List ℕ) → Result ℕ ℕ
written bad size out = unless (put_refusal bad size (length out)) size

-- What its output then holds: the bytes and after them what stood there; on a refusal all that stood there.
unfoldable pub output : (bad : Bool) → (size : ℕ) → (bytes out : List ℕ) → List ℕ
output bad size bytes out = cond (eqb (put_refusal bad size (length out)) 0) (bytes ++ drop size out) out
