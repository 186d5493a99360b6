-- SPDX-License-Identifier: MPL-2.0
-- What is held lies in the buffer; the turns so far are those of a run that goes on.
use Rattle.std.proofs.Common.{◌≤◌, ◌≡◌, length, take}
use Rattle.listing.proofs.Courses.{Way}
use Rattle.listing.proofs.run.Given as goal

abbrev pub invariant-loop-turns : goal.invariant-loop-turns
invariant-loop-turns g l = record {
  fits : l.held.held ≤ length l.input;
  room : length l.out ≡ length l.initial.out;
  way : Way (length l.initial.out) (take l.held.held l.input) l.held.ended l.turns;
}
