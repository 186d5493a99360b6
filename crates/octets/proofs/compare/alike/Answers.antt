-- SPDX-License-Identifier: MPL-2.0
-- They are as long, and agree.
use Rattle.laws.proofs.Kit.{◌∙◌}
use Rattle.octets.proofs.Alike.{all_same}
use Rattle.octets.proofs.compare.alike.Goals as goal

pub returns : goal.returns
returns c = c.agreeing.ensures ∙ all_same c.args.a.now c.args.b.now c.if-a-b.false
