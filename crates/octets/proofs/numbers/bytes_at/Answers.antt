-- SPDX-License-Identifier: MPL-2.0
-- Past the end: each call gives the byte at its place, and leaves the closure with the same slice.
use Rattle.laws.proofs.Kit.{ℕ, zero, suc, ◌+◌, ◌≤◌, ◌<◌, ◌≡◌, refl, ◌∙◌, List, get_or, eqb, eqb-true, eqb-false, rules, arith}
use lib.Seq.{get_or-drop}
use Rattle.std.specs.Array.{IsFromFnResultFrom}
use Rattle.std.specs.Fn.{Mut, Called}
use Rattle.laws.proofs.Cases.{on}
use Rattle.laws.specs.Bytes.{be8}
use Rattle.octets.proofs.Places.{placed}
use Rattle.octets.proofs.numbers.bytes_at.Goals as goal

-- Of a closure that gives f of each index, and keeps what it needs for that.
made : {F : Type 0} (g : Mut F (ℕ × Unit {0}) ℕ) (Keeps : F → Type 0) (f : ℕ → ℕ)
    → ((p q : F) (i y : ℕ) → Keeps p → Called g p (i, tt) y q → Keeps q × (y ≡ f i))
    → (p : F) (l : List ℕ) (i n k : ℕ) → Keeps p → IsFromFnResultFrom g p l i n → i ≤ k → k < i + n → get_or l k 0 ≡ f k
made g Keeps f step p l i zero k h r from to = absurd (omega arith)
made g Keeps f step p l i (suc n) k h (q, y, is, c, r) from to =
    let s = step p q i y h c in
    on (eqb i k) (λ z. rw (eqb-true i k z) at (is.1 0 ∙ s.1))
    (λ z. let past = eqb-false i k z in made g Keeps f step q l (i + 1) n k s.0 r (omega arith) (omega arith))

pub returns : goal.returns
returns g c =
    let s = c.args.s.now in
    let at = c.args.at in
    let rest = c.rest-rest.result.now in
    let items = c.from_fn.ensures.items in
    placed s c.from_fn.result at g.row.N items.long
    (λ i k.
    made _ (λ f. f.0.now ≡ rest) (λ i. be8 s (at + i))
    (λ p q i y k d. let e : (q.0.now ≡ rest) × (y ≡ be8 rest i) = search rules in (e.0, e.1 ∙ rw (c.rest-rest.ensures, get_or-drop) refl))
    _ _ 0 g.row.N i refl items.each (omega arith) (omega arith))
