-- SPDX-License-Identifier: MPL-2.0
-- A message that is found lies in what is held; where none is, a read leaves what it holds in the buffer.
use Rattle.laws.proofs.Kit.{length-take, length-drop, ◌∙◌, arith}
use Rattle.lines.proofs.Streams.{message-fits, message-taken}
use Rattle.replay.proofs.play_all.Goals as goal
use Rattle.replay.proofs.play_all.Goals.{in-Message, in-More}

pub slice_bounds-play-end : goal.slice_bounds-play-end
slice_bounds-play-end g c = message-taken _ _ _ c.in-Message.ensures

pub loop-preserved : goal.loop-preserved
loop-preserved g c =
    let v = c.loop.invariant in
    elim c.match-ahead.branch [
      | in-Message w ↦
          let e = rw (length-take, length-drop) at (message-fits _ _ _ w.in-Message.ensures) in
          rw (w.played-is, w.held-is, w.input-is) (record { within = omega (arith, e); fits = v.fits; long = v.long })
      | in-More w ↦
          let e = w.refill-held in
          rw (w.played-is, w.held-is, w.input-is) (record { within = omega arith; fits = e.ensures.held_in_bounds; long = e.auto.input ∙ v.long })
    ]
