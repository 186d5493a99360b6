-- SPDX-License-Identifier: MPL-2.0
-- A part of a list is lent and comes back as other bytes: what the whole then is.
use Rattle.laws.proofs.Kit.{ℕ, ◌+◌, ◌≤◌, ◌≡◌, sym, ◌∙◌, List, append_assoc, length, take, drop, drop-drop, sets}
use borrow.Rule.Slice.PartMut.{put_mid}
use lib.Seq.{sets-eq}

-- The part of n bytes from a place on came back as n bytes: that is a run of stores.
pub lent-stores : (b p : List ℕ) (at n : ℕ) {y : List ℕ} → y ≡ p → n ≡ length p → at + n ≤ length b → put_mid at n b y ≡ sets b at p
lent-stores b p at n e l fits =
    let k : at + length p ≤ length b = rw (← l) fits in
    rw (e, l, drop-drop (length p) at b) (sym (sets-eq p b at k ∙ append_assoc (take at b) p (drop (at + length p) b)))
