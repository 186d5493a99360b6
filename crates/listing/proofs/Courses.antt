-- SPDX-License-Identifier: MPL-2.0
-- The loop's turns are those of a run: what each read brought is what is held after it, after what was left.
use Rattle.laws.proofs.Kit.{ℕ, suc, ◌+◌, ◌≡◌, refl, sym, ◌∙◌, Bool, true, false, true≢false, not, ◌||◌, List, [], ◌∷◌, ◌++◌}
use Rattle.laws.proofs.Kit.{append-nil, append_assoc, length, take, length-append, arith}
use Rattle.std.proofs.Common.{Some, Ok, is_ok}
use Rattle.laws.specs.Chunks.{Stand}
use Rattle.intake.specs.declared.Held.{Held}
use Rattle.lines.specs.Inputs.{NoState}
use Rattle.listing.specs.Turns.{Went, is_over, turn_on, TurnedBy, RunTo, most_turns, Ran, Led}

-- Turns that went on have led from an empty buffer to these bytes, with as many turns still to come.
pub record Way (room : ℕ) (bytes : List ℕ) (ended : Bool) (turns : ℕ) : Type 0 where
  pub reads : List (List ℕ)
  pub count : length reads + turns ≡ most_turns
  pub leads : (test : Stand NoState → Bool) (more : List (List ℕ)) → RunTo test room bytes ended more → RunTo test room [] false (reads ++ more)

module _ (room : ℕ) (bytes : List ℕ) (ended : Bool) (turns left : ℕ) (w : Way room bytes ended turns) (more : turns ≡ suc left) where
  -- A turn that goes on, and what is read after it.
  pub way-more : (after : List ℕ) (r : Held) → Led (turn_on bytes ended room) after r → Way room (take r.held after) r.ended left
  unfolding RunTo
  way-more after r l = record {
    reads = w.reads ++ l.got ∷ [];
    count = rw length-append (omega (arith, w.count));
    leads = λ test more r. rw append_assoc (w.leads test (l.got ∷ more) (l.going, rw (l.holds, l.ended) at r));
  }

  -- The last turn.
  pub way-last : (after : List ℕ) (r : Went) → TurnedBy (turn_on bytes ended room) after r → is_over r ≡ true
      → Ran room (record { last = r; turns = left })
  unfolding RunTo
  way-last after r t o = record {
    reads = w.reads ++ [];
    over = λ v. (w.leads (λ q. q.over || not (is_ok r)) [] (sym t.over ∙ o), rw append-nil (omega (arith, w.count)));
    counted = λ v. absurd (true≢false (sym o ∙ v));
  }

-- The counter has come to its end.
pub way-out : (room : ℕ) (held : Held) (bytes : List ℕ) (turns : ℕ) → Way room bytes held.ended turns → turns ≡ 0
    → Ran room (record { last = Ok (Some held); turns = 0 })
unfolding RunTo
way-out room held bytes turns w z = record {
  reads = w.reads ++ [];
  over = λ v. absurd (true≢false (sym v));
  counted = λ v. (w.leads (λ q. true) [] refl, rw append-nil (omega (arith, w.count)), refl);
}
