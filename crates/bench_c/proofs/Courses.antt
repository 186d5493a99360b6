-- SPDX-License-Identifier: MPL-2.0
-- A course goes on by one piece.
use Rattle.laws.proofs.Kit.{ℕ, ◌+◌, ◌*◌, ◌≡◌, List, add-one}
use Rattle.joining.specs.declared.Progress.{Progress}
use Rattle.joining.specs.declared.Joined.{Joined}
use Rattle.joining.specs.Join.{join, report_after}
use Rattle.laws.specs.Parts.{part}
use Rattle.bench_c.specs.Course.{piece_of, length_told, course}

module _ (F count : ℕ) (source report₀ : List ℕ) (n : ℕ) where
  -- What the code holds after n pieces.
  pub record Came (held : Progress) (report : List ℕ) (told : ℕ) : Type 0 where
    pub holds : held ≡ (course F count source report₀ n).progress
    pub stands : report ≡ (course F count source report₀ n).report
    pub says : told ≡ (course F count source report₀ n).told

pub came-more : (F count : ℕ) (source report₀ : List ℕ) (n : ℕ) {held : Progress} {report : List ℕ} {told : ℕ}
    → Came F count source report₀ n held report told
    → (joined : Joined) (after : List ℕ) (length : ℕ) → joined ≡ join F held (piece_of count n) (part source (F * n) F) report
    → after ≡ report_after F held (piece_of count n) (part source (F * n) F) report → length ≡ length_told joined.answer
    → Came F count source report₀ (n + 1) joined.progress after length
unfolding course
came-more F count source report₀ n c joined after length j r l =
    rw add-one (record { holds = rw (j, c.holds, c.stands); stands = rw (r, c.holds, c.stands); says = rw (l, j, c.holds, c.stands) })
