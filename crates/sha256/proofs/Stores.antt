-- SPDX-License-Identifier: MPL-2.0
-- Bytes put into others, a number's bytes, and a padding, made by stores.
use Rattle.laws.proofs.Kit.{ℕ, ◌+◌, ◌-◌, ◌*◌, ◌^◌, ◌≤◌, ◌<◌, ◌≡◌, refl, List, ◌∷◌, ◌++◌, length, take, set, replicate, length-append}
use Rattle.laws.proofs.Kit.{length-replicate, sets, take_at, arith}
use borrow.Rule.Slice.PartMut.{put_mid}
use lib.Seq.{sets-eq}
use Rattle.std.specs.Int.{w32, w64, to_be_bytes}
use Rattle.laws.specs.Bytes.{bytes32, bytes64}
use Rattle.laws.proofs.Lent.{lent-stores}
use Rattle.sha256.specs.Digests.{padding, zeros}
use Rattle.sha256.proofs.Keys.{zeros-split}

-- bytes copied over those at a place
pub put_by : (out bytes back : List ℕ) (at k : ℕ) → back ≡ bytes → k ≡ length bytes → at + k ≤ length out → put_mid at k out back ≡ sets out at bytes
put_by out bytes back at k e l fits = lent-stores out bytes at k e l fits

-- a number's bytes, as std counts them and as the definitions do
pub be_bytes32 : (x : ℕ) → x < 2 ^ 32 → to_be_bytes w32 x ≡ bytes32 x
be_bytes32 x h = grind arith

pub be_bytes64 : (x : ℕ) → x < 2 ^ 64 → to_be_bytes w64 x ≡ bytes64 x
be_bytes64 x h = grind arith

-- a first byte, zeros, and a run of stores after them
pub padding-by : (x z r : ℕ) (bs p : List ℕ) → p ≡ sets (set (replicate 72 0) 0 x) (1 + r) bs → r ≡ z → z < 64 → length bs ≡ 8
    → take (9 + z) p ≡ x ∷ (replicate z 0 ++ bs)
padding-by x z r bs p e er h l =
    let q = x ∷ replicate z 0 in
    let n : length q ≡ 1 + z = omega (arith, length-replicate {A = ℕ} z 0) in
    let m : length (q ++ bs) ≡ 9 + z = rw length-append (omega arith) in
    let s : 1 + z + length bs ≤ length (q ++ replicate (71 - z) 0) = rw length-append (omega (arith, length-replicate {A = ℕ} (71 - z) 0)) in
    rw (e, er, zeros-split z 71 (omega arith), sets-eq bs (q ++ replicate (71 - z) 0) (1 + z) s, take_at q (replicate (71 - z) 0) (1 + z) n)
    (take_at (q ++ bs) _ (9 + z) m)

-- so the padding of a message of this many bytes
pub padding_by : (r total : ℕ) (bs p : List ℕ) → p ≡ sets (set (replicate 72 0) 0 0x80) (1 + r) bs → r ≡ zeros total
    → bs ≡ bytes64 (8 * total) → take (9 + r) p ≡ padding total
unfolding padding
padding_by r total bs p e er h = let z : r < 64 = omega arith in rw (← er, ← h) (padding-by 0x80 r r bs p e refl z (rw h))
