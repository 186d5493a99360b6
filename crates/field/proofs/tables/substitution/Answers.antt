-- SPDX-License-Identifier: MPL-2.0
-- The rule of the substitution, tested over the whole table.
use Rattle.laws.specs.Runs.{run, table}
use Rattle.laws.proofs.Runs.{table_same}
use Rattle.field.specs.Sbox.{affine, sbox}
use Rattle.field.proofs.Inverse.{inverses}
use Rattle.field.proofs.Sbox.{sbox_by, sbox-by}
use Rattle.field.proofs.tables.substitution.Goals as goal

pub returns : goal.returns
unfolding table run sbox_by affine inverses
returns c = table_same sbox_by sbox sbox-by
