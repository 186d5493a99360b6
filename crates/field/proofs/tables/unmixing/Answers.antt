-- SPDX-License-Identifier: MPL-2.0
-- The words of InvMixColumns, tested over the whole table.
use Rattle.laws.proofs.Kit.{◌∙◌}
use Rattle.laws.specs.Runs.{run, table}
use Rattle.laws.proofs.Runs.{table_at}
use Rattle.field.specs.Xor.{xor}
use Rattle.field.specs.Field.{xtime, times, mul}
use Rattle.field.specs.Sbox.{unaffine}
use Rattle.field.specs.Words.{spread, twice}
use Rattle.field.proofs.Inverse.{inverses}
use Rattle.field.proofs.Sbox.{inv_sbox_by}
use Rattle.field.proofs.Words.{unmixes_by, unmixes-by}
use Rattle.field.proofs.tables.unmixing.Goals as goal

pub returns : goal.returns
unfolding table run unmixes_by twice spread inv_sbox_by unaffine inverses mul times xtime xor
returns c = table_at unmixes_by _ c.ranges.x.fits ∙ unmixes-by _ c.ranges.x.fits
