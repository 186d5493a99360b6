-- SPDX-License-Identifier: MPL-2.0
-- The rule of the substitution, tested over the whole table.
use Rattle.laws.proofs.Kit.{◌∙◌}
use Rattle.laws.specs.Runs.{run, table}
use Rattle.laws.proofs.Runs.{table_at}
use Rattle.field.specs.Sbox.{affine}
use Rattle.field.proofs.Inverse.{inverses}
use Rattle.field.proofs.Sbox.{sbox_by, sbox-by}
use Rattle.field.proofs.tables.substitute.Goals as goal

pub returns : goal.returns
unfolding table run sbox_by affine inverses
returns c = table_at sbox_by _ c.ranges.x.fits ∙ sbox-by _ c.ranges.x.fits
