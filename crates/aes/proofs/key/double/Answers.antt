-- SPDX-License-Identifier: MPL-2.0
-- It computes what `xtime` says, a byte.
use Rattle.field.specs.Xor.{xor}
use Rattle.field.specs.Field.{xtime}
use Rattle.field.proofs.Linear.{xtime-byte}
use Rattle.aes.proofs.key.double.Goals as goal

pub overflow_cast-result : goal.overflow_cast-result
unfolding xtime xor
overflow_cast-result c = record { fits = rw c.from-w.ensures (xtime-byte c.args.b c.ranges.b.fits) }
