-- SPDX-License-Identifier: MPL-2.0
-- Up to the index the set is as it was, after it the index is marked; the places passed are counted.
use Rattle.laws.proofs.Kit.{ℕ, suc, ◌+◌, ◌-◌, min, ◌<◌, ◌≡◌, ◌∙◌, ap, Bool, false, ◌||◌, ◌&&◌, List, length, set, length-set}
use Rattle.laws.proofs.Kit.{get_or-set_same, eqb, ltb, eq-eqb, ne_eqb, ltb-true, ltb-false, and-false, add-one, ⊎_elim, arith}
use lib.Seq.{set-get_or, take-set-le}
use Rattle.laws.proofs.Bools.{or-true, or-none, and_one}
use Rattle.laws.proofs.Cases.{on}
use Rattle.laws.proofs.Order.{lt-or-ge}
use Rattle.joining.specs.Heard.{bit, has, mark, come}
use Rattle.wire.specs.Fields.{most_pieces}
use Rattle.joining.proofs.HeardLaws.{come-suc, come-le, bit_byte}
use Rattle.joining.proofs.heard.Marked.with.Goals as goal

-- Place i is written: at the index x, where t is y, it is marked, else it is as it was.
module _ (l : List Bool) (x y i t : ℕ) (e : t + x ≡ y + i) where
  at_other : (i ≡ x → ⊥) → set l i (has l i || eqb t y) ≡ l
  at_other d = rw (ne_eqb t y (λ z. d (omega arith)), or-none (has l i)) (set-get_or l i false)

  at-index : i ≡ x → set l i (has l i || eqb t y) ≡ mark l x
  at-index d = rw (d, eq-eqb t y (omega arith), or-true (has l x))

-- What is written at place i is counted where i is under n, that is, where t is under m.
come-set : (l : List Bool) (n i t m : ℕ) (b : Bool) → t + n ≡ m + i → i < length l
    → come (min (suc i) n) (set l i b) ≡ come (min i n) l + bit (b && ltb t m)
come-set l n i t m b e h =
    on (ltb t m)
    (λ u.
    let o = ltb-true t m u in
    let more : min (suc i) n ≡ suc i = omega arith in
    let now : min i n ≡ i = omega arith in
    rw (u, and_one b, more, now, come-suc (set l i b) i, take-set-le i l i b (omega arith), get_or-set_same l i b false h))
    (λ u.
    let o = ltb-false t m u in
    let more : min (suc i) n ≡ n = omega arith in
    let now : min i n ≡ n = omega arith in
    rw (u, and-false b, more, now, take-set-le n l i b (omega arith)) (omega arith))

pub overflow_add-told : goal.overflow_add-told
unfolding most_pieces
overflow_add-told c =
    let s = c.loop-i in
    let p = c.args.placed.now in
    let i = s.i in
    let turn = 128 - p.piece.count + i in
    let b = (has s.is_heard-items i || eqb turn (128 - p.piece.count + p.piece.index)) && ltb turn 128 in
    omega (arith, bit_byte b, come-le (min i p.piece.count) s.is_heard-items)

pub loop-i-preserved : goal.loop-i-preserved
unfolding most_pieces
loop-i-preserved c =
    let s = c.loop-i in
    let v = s.invariant in
    let p = c.args.placed.now in
    let l = s.is_heard-items in
    let i = s.i in
    let n = p.piece.count in
    let x = p.piece.index in
    let here = 128 - n + x in
    let turn = 128 - n + i in
    let b = has l i || eqb turn here in
    let e : turn + x ≡ here + i = omega arith in
    record {
      before = λ h. at_other l x here i turn e (λ e. omega arith) ∙ v.before (omega arith);
      after =
          λ h.
          ⊎_elim (λ g. at_other l x here i turn e (λ e. omega arith) ∙ v.after g)
          (λ g. at-index l x here i turn e (omega arith) ∙ ap (λ (l : List Bool). mark l x) (v.before g)) (lt-or-ge x i);
      counted =
          rw (add-one i)
          (omega (arith, come-set l n i turn 128 b (omega arith) (omega arith), bit_byte (b && ltb turn 128)));
      as_long = omega (arith, length-set l i b);
    }
