-- SPDX-License-Identifier: MPL-2.0
-- Each index is the one that the call for it read.
use Rattle.laws.proofs.Kit.{false, rules}
use Rattle.wire.specs.Fields.{most_pieces}
use Rattle.joining.specs.Heard.{most}
use Rattle.state.specs.State.{bit_at}
use Rattle.state.proofs.Gathered.{made}
use Rattle.state.proofs.heard_at.Goals as goal

pub returns : goal.returns
unfolding most_pieces
returns c = made _ (bit_at c.args.s.now) _ most _ (λ i y q l k. search rules) false c.from_fn.ensures.items
