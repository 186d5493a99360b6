-- SPDX-License-Identifier: MPL-2.0
-- The numbers of the table are those from 1 to that of its last row; so what a table of such rows refuses has one of them.
use Rattle.laws.proofs.Kit.{ℕ, suc, ◌-◌, ◌≤◌, ◌<◌, ◌≡◌, refl, sym, ◌∙◌, true, List, length, eqb, eqb-false, arith}
use Rattle.std.specs.Prelude.{Bool, map, IfErr}
use Rattle.std.proofs.lemmas.List.{get_or-map}
use Rattle.laws.proofs.Cases.{on}
use Rattle.laws.specs.Rows.{first, up_to, unless}
use Rattle.laws.proofs.Firsts.{first-up_to}
use Rattle.laws.specs.Runs.{run}
use Rattle.laws.proofs.Runs.{run-from-zero}
use Rattle.wire.specs.Refusals.{number, refusals, IsRow}
use Rattle.wire.specs.declared.refusals.Refusal.TheVariants.{TooShort}

numbers : map number refusals ≡ run suc 0 (length refusals)
unfolding run
numbers = refl

pub row-is : (n : ℕ) → 0 < n → n ≤ length refusals → IsRow n
row-is n some small =
    let h : n - 1 < length refusals = omega arith in
    let e : suc (n - 1) ≡ n = omega arith in
    sym (get_or-map number refusals (n - 1) TooShort 1 h) ∙ rw numbers (run-from-zero suc (length refusals) (n - 1) 1 h) ∙ e

module _ {A : Type 0} (a : A) where
  pub unless-row : (n : ℕ) → n ≤ length refusals → IfErr (unless n a) IsRow
  unless-row n small = on (eqb n 0) (λ z. rw z tt) (λ z. rw z (row-is n (omega (arith, eqb-false n 0 z)) small))

  pub table-row : (rows : List (ℕ × Bool)) → up_to (length refusals) rows ≡ true → IfErr (unless (first rows) a) IsRow
  table-row rows e = unless-row (first rows) (first-up_to (length refusals) rows e)
