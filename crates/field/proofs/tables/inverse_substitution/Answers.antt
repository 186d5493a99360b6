-- SPDX-License-Identifier: MPL-2.0
-- The rule of the substitution back, tested over the whole table.
use Rattle.laws.specs.Runs.{run, table}
use Rattle.laws.proofs.Runs.{table_same}
use Rattle.field.specs.Sbox.{unaffine, inv_sbox}
use Rattle.field.proofs.Inverse.{inverses}
use Rattle.field.proofs.Sbox.{inv_sbox_by, inv_sbox-by}
use Rattle.field.proofs.tables.inverse_substitution.Goals as goal

pub returns : goal.returns
unfolding table run inv_sbox_by unaffine inverses
returns c = table_same inv_sbox_by inv_sbox inv_sbox-by
