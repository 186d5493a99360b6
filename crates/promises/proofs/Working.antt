-- SPDX-License-Identifier: MPL-2.0
-- The working buffer's rule: it changes exactly where a sealed message got past 13.
use Rattle.laws.proofs.Kit.{ℕ, ◌≡◌, refl, sym, ◌∙◌, ap, Bool, cond, List, ◌++◌, length, ltb, ne_eqb}
use Rattle.laws.specs.Bytes.{AreBytes}
use Rattle.laws.specs.Rows.{first}
use Rattle.laws.proofs.Bools.{or-false}
use Rattle.laws.proofs.Cases.{on}
use Rattle.laws.proofs.Firsts.{leads-first, quiet-first}
use Rattle.seal.specs.Opening.{into_unless}
use Rattle.message.specs.Reading.{opened, working_after}
use Rattle.joining.specs.Cut.{bad_size}
use Rattle.admission.specs.Admission.{unready, working_admitted}
use Rattle.promises.specs.Refusals.{sealed, start, header_table, sealed_table, untouched_table, WorkingBuffer}
use Rattle.promises.proofs.ReaderNumber.{working-by-number}
use Rattle.promises.proofs.Exactly.{leads-numbered}
use Rattle.promises.proofs.RefusalTables.{early-first}

module _ (F v : ℕ) (m keys working : List ℕ) where
  -- Rows 1 to 13.
  abbrev rows : List (ℕ × Bool)
  rows = header_table m ++ sealed_table m keys (length working)

  -- What a message leaves: the opened part if it is sealed and none of them applies.
  after_first : AreBytes m → working_after m keys working ≡ cond (sealed m) (into_unless (first rows) (opened m keys (start m)) working) working
  after_first bytes =
      working-by-number m keys working
      ∙ ap (λ (n : ℕ). cond (sealed m) (into_unless n (opened m keys (start m)) working) working) (sym (early-first m keys (length working) bytes))

  pub working-buffer : WorkingBuffer F v m keys working
  unfolding working_admitted into_unless
  working-buffer bytes =
      record {
        refused = λ n l.
            on (unready F v) (λ u. rw u)
            (λ u.
            let z = leads-numbered n (untouched_table F v m keys working) refl l in
            let k = or-false (ltb 1 v) (bad_size F) u in
            let e : first rows ≡ n = rw (k.0, k.1) at (leads-first n (untouched_table F v m keys working) l) in
            rw (u, after_first bytes, e, ne_eqb n 0 z) (on (sealed m) (λ s. rw s) (λ s. rw s)));
        plain = λ s. on (unready F v) (λ u. rw u) (λ u. rw (u, after_first bytes, s));
        past = λ q s. rw (q.0, q.1.0, after_first bytes, quiet-first rows q.1.1, s);
      }
