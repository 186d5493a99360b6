-- SPDX-License-Identifier: MPL-2.0
-- Five parts, each where the one before it ends.
use Rattle.wire.specs.Fields.{most_pieces}
use Rattle.laws.proofs.Runs.{length-gathered}
use Rattle.state.specs.Layout.{expected_place, heard_size}
use Rattle.state.specs.State.{heard_byte, progress_parts, progress_bytes}
use Rattle.state.proofs.Parted.{stored-joined}
use Rattle.state.proofs.put_progress.Goals as goal

pub returns : goal.returns
unfolding progress_bytes most_pieces
returns c =
    let p = c.args.p.now in
    let run = rw (length-gathered (heard_byte p.heard) heard_size) at (stored-joined c.args.out.now expected_place (progress_parts p)) in
    rw (c.store16.ensures, c.store64-2.ensures, c.store64.ensures) (rw (c.store_bytes.ensures, c.heard_bytes.ensures, c.store32.ensures) run)
