-- SPDX-License-Identifier: MPL-2.0
-- Up to the index the set is as it was, after it the index is marked; the places passed are counted.
use Rattle.laws.proofs.Kit.{min, ◌≤◌, ◌<◌, ◌≡◌, length}
use Rattle.joining.specs.Heard.{most, come, mark}
use Rattle.joining.proofs.heard.Marked.with.Given as goal

abbrev pub invariant-loop-i : goal.invariant-loop-i
invariant-loop-i l = record {
  before : l.i ≤ l.placed.piece.index → l.is_heard-items ≡ l.initial.is_heard-items;
  after : l.placed.piece.index < l.i → l.is_heard-items ≡ mark l.initial.is_heard-items l.placed.piece.index;
  counted : l.told ≡ come (min l.i l.placed.piece.count) l.is_heard-items;
  as_long : length l.is_heard-items ≡ most;
}
