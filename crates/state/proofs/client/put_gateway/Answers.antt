-- SPDX-License-Identifier: MPL-2.0
-- Three parts, each where the one before it ends.
use Rattle.state.specs.Layout.{size_place}
use Rattle.state.specs.Client.{gateway_parts, gateway_bytes}
use Rattle.state.proofs.Parted.{stored-joined}
use Rattle.state.proofs.client.put_gateway.Goals as goal

pub returns : goal.returns
unfolding gateway_bytes
returns c = rw (c.store64-2.ensures, c.store8.ensures, c.store64.ensures) (stored-joined c.args.out.now size_place (gateway_parts c.args.g.now))
