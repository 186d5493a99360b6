-- SPDX-License-Identifier: MPL-2.0
-- The rule of the substitution back, tested over the whole table.
use Rattle.laws.proofs.Kit.{◌∙◌}
use Rattle.laws.specs.Runs.{run, table}
use Rattle.laws.proofs.Runs.{table_at}
use Rattle.field.specs.Sbox.{unaffine}
use Rattle.field.proofs.Inverse.{inverses}
use Rattle.field.proofs.Sbox.{inv_sbox_by, inv_sbox-by}
use Rattle.field.proofs.tables.unsubstitute.Goals as goal

pub returns : goal.returns
unfolding table run inv_sbox_by unaffine inverses
returns c = table_at inv_sbox_by _ c.ranges.x.fits ∙ inv_sbox-by _ c.ranges.x.fits
