-- SPDX-License-Identifier: MPL-2.0
-- A message that is found lies in the stream.
use Rattle.lines.proofs.Streams.{message-taken}
use Rattle.lines.proofs.listing.Listed.turn.Goals as goal

pub slice_bounds-tell-end : goal.slice_bounds-tell-end
slice_bounds-tell-end c = message-taken _ _ _ c.in-Message.ensures
