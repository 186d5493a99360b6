-- SPDX-License-Identifier: MPL-2.0
-- Each byte is the one that the call for it made.
use Rattle.laws.proofs.Kit.{rules}
use Rattle.wire.specs.Fields.{most_pieces}
use Rattle.state.specs.Layout.{heard_size}
use Rattle.state.specs.State.{heard_byte}
use Rattle.state.proofs.Gathered.{made}
use Rattle.state.proofs.heard_bytes.Goals as goal

pub returns : goal.returns
unfolding most_pieces
returns c = made _ (heard_byte c.args.heard.now) _ heard_size _ (λ i y q l k. search rules) 0 c.from_fn.ensures.items
