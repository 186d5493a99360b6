-- SPDX-License-Identifier: MPL-2.0
-- Lists of bytes: every element is below 256, and so is every element of their parts and of what is joined from them.
use Rattle.laws.proofs.Kit.{ℕ, zero, suc, ◌+◌, ◌/◌, ◌%◌, ◌<◌, List, [], ◌∷◌, ◌++◌, take, drop, get_or, replicate, arith}
use lib.Seq.{get_or-drop}
use Rattle.laws.specs.Bytes.{AreBytes, bytes_at, bytes16, bytes32, bytes64}

pub nil-bytes : AreBytes []
nil-bytes = record { at = λ i. omega arith }

cons-at : (x : ℕ) (m : List ℕ) → x < 256 → AreBytes m → (i : ℕ) → get_or (x ∷ m) i 0 < 256
cons-at x m h w zero = h
cons-at x m h w (suc i) = w.at i

pub cons-bytes : {x : ℕ} {m : List ℕ} → x < 256 → AreBytes m → AreBytes (x ∷ m)
cons-bytes {x} {m} h w = record { at = cons-at x m h w }

-- What stands after the first element.
rest-bytes : (x : ℕ) (m : List ℕ) → AreBytes (x ∷ m) → AreBytes m
rest-bytes x m w = record { at = λ i. w.at (suc i) }

joined : (a b : List ℕ) → AreBytes a → AreBytes b → AreBytes (a ++ b)
joined [] b v w = w
joined (x ∷ a) b v w = cons-bytes (v.at 0) (joined a b (rest-bytes x a v) w)

pub append-bytes : {a b : List ℕ} → AreBytes a → AreBytes b → AreBytes (a ++ b)
append-bytes {a} {b} v w = joined a b v w

pub take-bytes : (n : ℕ) (m : List ℕ) → AreBytes m → AreBytes (take n m)
take-bytes zero m w = nil-bytes
take-bytes (suc n) [] w = nil-bytes
take-bytes (suc n) (x ∷ m) w = cons-bytes (w.at 0) (take-bytes n m (rest-bytes x m w))

pub drop-bytes : (n : ℕ) (m : List ℕ) → AreBytes m → AreBytes (drop n m)
drop-bytes n m w = record { at = λ i. rw get_or-drop (w.at (n + i)) }

pub replicate-bytes : (n x : ℕ) → x < 256 → AreBytes (replicate n x)
replicate-bytes zero x h = nil-bytes
replicate-bytes (suc n) x h = cons-bytes h (replicate-bytes n x h)

pub bytes_at-bytes : (m : List ℕ) (at n : ℕ) → AreBytes m → AreBytes (bytes_at m at n)
unfolding bytes_at
bytes_at-bytes m at zero w = nil-bytes
bytes_at-bytes m at (suc n) w = append-bytes (bytes_at-bytes m at n w) (cons-bytes (w.at (at + n)) nil-bytes)

-- The bytes of a number that has no more.
pub bytes16-bytes : (x : ℕ) → x < 65536 → AreBytes (bytes16 x)
bytes16-bytes x h = cons-bytes (omega arith) (cons-bytes (omega arith) nil-bytes)

pub bytes32-bytes : (x : ℕ) → x < 4294967296 → AreBytes (bytes32 x)
bytes32-bytes x h = append-bytes (bytes16-bytes (x / 65536) (omega arith)) (bytes16-bytes (x % 65536) (omega arith))

pub bytes64-bytes : (x : ℕ) → x < 18446744073709551616 → AreBytes (bytes64 x)
bytes64-bytes x h = append-bytes (bytes32-bytes (x / 4294967296) (omega arith)) (bytes32-bytes (x % 4294967296) (omega arith))
