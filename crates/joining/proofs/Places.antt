-- SPDX-License-Identifier: MPL-2.0
-- Parts of a buffer, and a piece put into it.
use Rattle.laws.proofs.Kit.{ℕ, ◌+◌, ◌≤◌, ◌≡◌, List, ◌++◌, length, take, drop, take_at, length-take-le, drop_at, drop-drop}
use Rattle.laws.proofs.Kit.{take-append_seam, arith}
use Rattle.laws.specs.Parts.{part}
use Rattle.joining.specs.Report.{put}

-- A piece put over as many bytes.
pub put-over : (a x b p : List ℕ) (at : ℕ) → length a ≡ at → length x ≡ length p → put (a ++ (x ++ b)) at p ≡ a ++ (p ++ b)
put-over a x b p at e f =
    rw (take_at a (x ++ b) at e, ← drop-drop (length p) at (a ++ (x ++ b)), drop_at a (x ++ b) at e, drop_at x b (length p) f)

-- A piece that was put is read back.
pub part-put : (b : List ℕ) (at : ℕ) (p : List ℕ) → at + length p ≤ length b → part (put b at p) at (length p) ≡ p
part-put b at p fits =
    rw (drop_at (take at b) (p ++ drop (at + length p) b) at (length-take-le at b (omega arith)))
    (take-append_seam p (drop (at + length p) b))
