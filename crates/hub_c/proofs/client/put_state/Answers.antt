-- SPDX-License-Identifier: MPL-2.0
-- A gateway's connection is as many bytes as the buffer has.
use Rattle.laws.proofs.Kit.{sym, ◌∙◌}
use Rattle.laws.proofs.Stores.{sets-whole}
use Rattle.state.specs.Client.{gateway_bytes}
use Rattle.state.proofs.ClientStored.{gateway-stored}
use Rattle.hub_c.proofs.client.put_state.Goals as goal

pub returns : goal.returns
returns c =
    let g = c.args.g.now in
    rw c.put_gateway.ensures (sets-whole (gateway_bytes g) c.args.state.now (c.requires ∙ sym (gateway-stored.back g).0))
