-- SPDX-License-Identifier: MPL-2.0
-- The listing's step is steady: what it does is decided by the message that it takes.
use Rattle.laws.proofs.Kit.{ℕ, ◌≤◌, ◌<◌, ◌≡◌, refl, Bool, true, false, List, [], ◌++◌, append-nil, length, take, eqb, leb, leb-true}
use Rattle.laws.proofs.Kit.{leb-false, inl, inr}
use mathlib.Core.Logic.{◌⊎◌}
use lib.Seq.{take-append-le}
use Rattle.laws.proofs.Cases.{on}
use Rattle.wire.specs.Reader.{read_header, wanted}
use Rattle.lines.specs.declared.stream.Next.TheVariants.{Message}
use Rattle.lines.specs.declared.listing.Stage.{Stage}
use Rattle.lines.specs.declared.listing.Stage.TheVariants.{Going, Waiting, Over}
use Rattle.lines.specs.Stream.{ahead}
use Rattle.lines.specs.Listing.{is_refused, turn_by}
use Rattle.laws.specs.Chunks.{waits, is_waiting, Moves, Steady}
use Rattle.lines.specs.Inputs.{NoState, step_at, step_of, line_step}
use Rattle.lines.proofs.Streams.{ahead-fits, ahead-whole, ahead-part, ahead-moves}

module _ (s : NoState) (bytes : List ℕ) where
  same : (more : List ℕ) (ended : Bool) → (line_step s bytes false ≡ waits) ⊎ (line_step s (bytes ++ more) ended ≡ line_step s bytes false)
  unfolding line_step
  same more ended =
      on (leb (wanted bytes) (length bytes)) (λ p.
      let h = leb-true (wanted bytes) (length bytes) p in
      let e : ahead bytes false ≡ Message (wanted bytes) = rw append-nil at (ahead-whole bytes [] false h) in
      inr (rw (e, ahead-whole bytes more ended h, take-append-le (wanted bytes) bytes more h)))
      λ p. inl (rw (ahead-part bytes (leb-false (wanted bytes) (length bytes) p)))

  moves-by : (k size : ℕ) (line : List ℕ) (stage : Stage) → (stage ≡ Going → 0 < size) → size ≤ k → Moves k (step_at stage size line)
  moves-by k size line Going h fits = (h refl, fits)
  moves-by k size line Waiting h fits = tt
  moves-by k size line Over h fits = tt

  moves : (ended : Bool) → Moves (length bytes) (line_step s bytes ended)
  unfolding line_step
  moves ended =
      let t = turn_by bytes (ahead bytes ended) in
      moves-by (length bytes) t.size t.line t.stage (ahead-moves bytes ended) (ahead-fits bytes ended)

  decides-by : (size : ℕ) → is_waiting (step_of (turn_by bytes (Message size))) ≡ false
  decides-by size = on (is_refused (read_header (take size bytes))) (λ e. rw e) (λ e. rw e)

  decides : is_waiting (line_step s bytes true) ≡ false
  unfolding line_step ahead
  decides =
      on (leb (wanted bytes) (length bytes)) (λ p. rw p (decides-by (wanted bytes))) λ p.
      on (eqb (length bytes) 0) (λ r. rw (p, r)) (λ r. rw (p, r) (decides-by (length bytes)))

pub line-steady : Steady line_step
line-steady = record { same = same; moves = moves; decides = decides }
