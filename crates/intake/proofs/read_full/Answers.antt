-- SPDX-License-Identifier: MPL-2.0
-- What a read brings comes after what has come before.
use Rattle.std.proofs.Common.{rules}
use Rattle.intake.proofs.Buffers.{reads-more}
use Rattle.intake.proofs.read_full.Goals as goal

pub loop-done-preserved : goal.loop-done-preserved
loop-done-preserved g c =
    let v = c.loop-done.invariant in
    let e = c.in-Ok.ensures in
    record {
      within = search rules;
      bytes = reads-more c.loop-done.buffer c.read.new.buf c.loop-done.done c.in-Ok.more _ _ _ v.within e.bound.0 v.bytes e.bytes.0;
    }
