-- SPDX-License-Identifier: MPL-2.0
-- The bytes at a place, `bytes_at`: how many they are, that they are a part of the list where it has them, and that a list filled from
-- its start one byte after the other comes to hold them.
use Rattle.laws.proofs.Kit.{ℕ, zero, suc, ◌+◌, ◌≤◌, ◌<◌, ◌≡◌, refl, List, ◌++◌, append-nil, append_assoc, length, take, drop}
use Rattle.laws.proofs.Kit.{length-append, length-drop, take_at, take-suc, drop_at, get_or-take, add-zero}
use Rattle.laws.proofs.Kit.{arith}
use native.Mathlib.Nat.{add-suc, add_assoc}
use lib.Seq.{get_or-drop}
use Rattle.laws.specs.Bytes.{bytes_at}

pub length-bytes_at : (m : List ℕ) (at n : ℕ) → length (bytes_at m at n) ≡ n
unfolding bytes_at
length-bytes_at m at zero = refl
length-bytes_at m at (suc n) = rw length-append (omega (arith, length-bytes_at m at n))

pub bytes_at-part : (m : List ℕ) (at n : ℕ) → at + n ≤ length m → bytes_at m at n ≡ take n (drop at m)
unfolding bytes_at
bytes_at-part m at zero h = refl
bytes_at-part m at (suc n) h =
    let k : n < length (drop at m) = rw length-drop (omega arith) in
    let p : at + n ≤ length m = omega arith in
    rw (bytes_at-part m at n p, take-suc (drop at m) n 0 k, get_or-drop at m n 0)

-- Two runs of bytes, the second where the first ends.
pub bytes_at-append : (m : List ℕ) (at n k : ℕ) → bytes_at m at (n + k) ≡ bytes_at m at n ++ bytes_at m (at + n) k
unfolding bytes_at
bytes_at-append m at n zero = rw (add-zero n, append-nil)
bytes_at-append m at n (suc k) = rw (add-suc n k, bytes_at-append m at n k, append_assoc, add_assoc at n k)

-- A part that was put between two others is read back.
pub part-back : (a x b : List ℕ) (at n : ℕ) → length a ≡ at → length x ≡ n → bytes_at (a ++ (x ++ b)) at n ≡ x
part-back a x b at n e f =
    let k : at + n ≤ length (a ++ (x ++ b)) = simp length-append (omega arith) in
    rw (bytes_at-part (a ++ (x ++ b)) at n k, drop_at a (x ++ b) at e) (take_at x b n f)

-- The bytes at a place that lies in a front of the list are those of the front.
pub bytes_at-take : (m : List ℕ) (k at n : ℕ) → at + n ≤ k → bytes_at (take k m) at n ≡ bytes_at m at n
unfolding bytes_at
bytes_at-take m k at zero h = refl
bytes_at-take m k at (suc n) h =
    let p : at + n ≤ k = omega arith in
    let q : at + n < k = omega arith in
    rw (bytes_at-take m k at n p, get_or-take k m (at + n) 0 q)
