-- SPDX-License-Identifier: MPL-2.0
-- The words of the parts, each where those before it end: one run over the whole buffer.
use Rattle.laws.proofs.Stores.{sets-whole}
use Rattle.hub_c.specs.Connect.{connect_words}
use Rattle.hub_c.proofs.connect.put_connect.Goals as goal

pub returns : goal.returns
returns c =
    rw (c.put_shown.ensures, c.put_parts.ensures, c.put_numbers.ensures)
    (sets-whole (connect_words c.args.found) c.args.out.now c.requires)
