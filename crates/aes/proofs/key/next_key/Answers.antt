-- SPDX-License-Identifier: MPL-2.0
-- Four sums.
use Rattle.field.specs.Xor.{xor}
use Rattle.aes.proofs.Schedule.{next_words}
use Rattle.aes.proofs.key.next_key.Goals as goal

pub returns : goal.returns
unfolding xor
returns c = rw c.from.ensures (next_words c.args.k c.args.c _ _ c.ranges.c.fits c.up1-turned.ensures c.sub_word.ensures)
