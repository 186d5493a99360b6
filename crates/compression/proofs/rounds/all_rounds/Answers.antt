-- SPDX-License-Identifier: MPL-2.0
-- A turn of rounds is done on the words that the ring has, and then the ring has those of the next turn.
use Rattle.laws.proofs.Kit.{min, ◌≡◌, ◌∙◌, arith}
use Rattle.compression.specs.Compression.{schedule}
use Rattle.compression.proofs.Rings.{turn-words}
use Rattle.compression.proofs.Turns.{turn-rounds}
use Rattle.compression.proofs.rounds.all_rounds.Goals as goal

pub loop-t-preserved : goal.loop-t-preserved
loop-t-preserved c =
    let l = c.loop-t in
    let m = c.args.w.now in
    let e : min l.t 48 ≡ l.t = omega arith in
    let stands = rw e at l.invariant.words in
    record {
      within = omega arith;
      turn = omega arith;
      words = c.put_next.ensures m stands;
      done =
          c.sixteen_rounds-x.ensures
          ∙ rw (l.invariant.done) (turn-rounds c.args.v (schedule m 48) l.w l.t 16
          (λ i h. rw stands (turn-words m (omega arith) l.t i (omega arith) (omega arith) h)));
    }
