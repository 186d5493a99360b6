-- SPDX-License-Identifier: MPL-2.0
-- What has been played is a part of what is held, which lies in the buffer.
use Rattle.std.proofs.Common.{◌≡◌, ◌≤◌, length}
use Rattle.replay.proofs.play_all.Given as goal

abbrev pub invariant-loop : goal.invariant-loop
invariant-loop g l = record {
  within : l.played ≤ l.held.held;
  fits : l.held.held ≤ length l.input;
  long : length l.input ≡ length l.initial.input;
}
