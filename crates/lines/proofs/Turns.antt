-- SPDX-License-Identifier: MPL-2.0
-- Turns of a listing, one after the other: what they take, and where they lead.
use Rattle.laws.proofs.Kit.{ℕ, zero, suc, ◌+◌, ◌/◌, ◌≤◌, ◌≡◌, refl, Bool, false, List, length, drop, length-append, length-drop, sets}
use Rattle.laws.proofs.Kit.{ltb, arith}
use Rattle.std.proofs.Common.{◌≢◌}
use Rattle.laws.proofs.Cases.{on}
use Rattle.laws.proofs.Stores.{stored-twice}
use Rattle.lines.specs.declared.listing.Listed.{Listed}
use Rattle.lines.specs.declared.listing.Stage.{Stage}
use Rattle.lines.specs.declared.listing.Stage.TheVariants.{Going, Waiting, Over}
use Rattle.lines.specs.Listing.{is_going, turn_at, Run, begun, turn, many_turns, list, listed, turned}
use Rattle.lines.proofs.Streams.{ahead-fits}

-- A turn takes no more than there is.
turn_at-fits : (rest : List ℕ) (ended : Bool) (room written : ℕ) → (turn_at rest ended room written).size ≤ length rest
unfolding turn_at
turn_at-fits rest ended room written = on (ltb room (written + 64)) (λ e. rw e (omega arith)) (λ e. rw e (ahead-fits rest ended))

-- A run that does not go on.
no_more : (stage : Stage) → stage ≢ Going → is_going stage ≡ false
no_more Going e = absurd (e refl)
no_more Waiting e = refl
no_more Over e = refl

module _ (stream : List ℕ) (ended : Bool) (room : ℕ) where
  -- A run that goes on takes a turn.
  pub many_more : (n left : ℕ) (b : Run) → n ≡ suc left → b.stage ≡ Going → many_turns n stream ended room b
      ≡ many_turns left stream ended room (turn stream ended room b)
  unfolding many_turns
  many_more n left b h e = rw (h, e)

  -- A run that does not go on has come to its end.
  many-stop : (n : ℕ) (b : Run) → b.stage ≢ Going → many_turns n stream ended room b ≡ b
  unfolding many_turns
  many-stop zero b e = refl
  many-stop (suc n) b e = rw (no_more b.stage e)

-- What holds between two turns: the code's run and output are those of a run whose turns to come lead to the listing.
pub record Reached (stream : List ℕ) (ended : Bool) (out₀ : List ℕ) (run : Listed) (out : List ℕ) (turns : ℕ) : Type 0 where
  pub so : Run
  pub is : run ≡ listed so
  pub holds : out ≡ sets out₀ 0 so.text
  pub leads : many_turns turns stream ended (length out₀) so ≡ list stream ended (length out₀)
  pub within : so.read ≤ length stream

module _ (stream : List ℕ) (ended : Bool) (out₀ : List ℕ) where
  pub reached-first : (turns : ℕ) → turns ≡ length stream / 42 + 2 → Reached stream ended out₀ (listed begun) out₀ turns
  unfolding list
  reached-first turns e = record { so = begun; is = refl; holds = refl; leads = rw e; within = omega arith }

  module _ {run : Listed} {out : List ℕ} {turns : ℕ} (r : Reached stream ended out₀ run out turns) where
    pub reached-more : (run' : Listed) (out' : List ℕ) (left : ℕ) → length out ≡ length out₀ → turns ≡ suc left → run.stage ≡ Going
        → run' ≡ turned run (turn_at (drop run.read stream) ended (length out) run.written)
        → out' ≡ sets out run.written (turn_at (drop run.read stream) ended (length out) run.written).line
        → Reached stream ended out₀ run' out' left
    unfolding turn
    reached-more run' out' left long h g p q =
        let b = r.so in
        let s = turn_at (drop b.read stream) ended (length out₀) (length b.text) in
        record {
          so = turn stream ended (length out₀) b;
          is = rw (length-append b.text s.line) (rw (long, r.is) at p);
          holds = stored-twice b.text s.line out₀ 0 (length b.text) r.holds (rw (long, r.is) at q) (omega arith);
          leads = rw (← many_more stream ended (length out₀) turns left b h (rw r.is at g)) r.leads;
          within = omega (
            arith,
            r.within,
            turn_at-fits (drop b.read stream) ended (length out₀) (length b.text),
            length-drop b.read stream,
          );
        }

    abbrev Whole : Type 0
    Whole = (run ≡ listed (list stream ended (length out₀))) × (out ≡ sets out₀ 0 (list stream ended (length out₀)).text)

    -- The run goes on no more.
    pub reached-stop : run.stage ≢ Going → Whole
    reached-stop g = rw (← r.leads, many-stop stream ended (length out₀) turns r.so (rw r.is at g)) (r.is, r.holds)

    -- There are no more turns.
    pub reached-last : turns ≡ 0 → Whole
    unfolding many_turns
    reached-last z = rw (← r.leads, z) (r.is, r.holds)
