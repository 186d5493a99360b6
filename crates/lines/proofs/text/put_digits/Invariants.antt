-- SPDX-License-Identifier: MPL-2.0
-- Putting what is left of the digits into the buffer as it is gives what putting them all into the first one gives.
use Rattle.laws.proofs.Kit.{◌-◌, ◌≡◌, length, sets}
use Rattle.lines.specs.Text.{digits}
use Rattle.lines.proofs.text.put_digits.Given as goal

abbrev pub invariant-loop-place : goal.invariant-loop-place
invariant-loop-place l = record {
  as_long : length l.out ≡ length l.initial.out;
  leads : sets l.out l.at (digits (l.place - l.at) l.rest) ≡ sets l.initial.out l.at (digits l.count l.number);
}
