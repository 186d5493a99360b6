-- SPDX-License-Identifier: MPL-2.0
-- The words of MixColumns, tested over the whole table.
use Rattle.laws.proofs.Kit.{◌∙◌}
use Rattle.laws.specs.Runs.{run, table}
use Rattle.laws.proofs.Runs.{table_at}
use Rattle.field.specs.Xor.{xor}
use Rattle.field.specs.Field.{xtime, times, mul}
use Rattle.field.specs.Sbox.{affine}
use Rattle.field.specs.Words.{spread, twice}
use Rattle.field.proofs.Inverse.{inverses}
use Rattle.field.proofs.Sbox.{sbox_by}
use Rattle.field.proofs.Words.{mixes_by, mixes-by}
use Rattle.field.proofs.tables.mixing.Goals as goal

pub returns : goal.returns
unfolding table run mixes_by twice spread sbox_by affine inverses mul times xtime xor
returns c = table_at mixes_by _ c.ranges.x.fits ∙ mixes-by _ c.ranges.x.fits
