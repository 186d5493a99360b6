-- SPDX-License-Identifier: MPL-2.0
-- A part copied over the whole of the array.
use Rattle.state.proofs.Parted.{copied-bytes}
use Rattle.state.proofs.bytes_at.Goals as goal

pub returns : goal.returns
returns g c = copied-bytes g.row.N c.args.at c.args.s.now _ c.requires c.copy_from_slice.ensures.after
