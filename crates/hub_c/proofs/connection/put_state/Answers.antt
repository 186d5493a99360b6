-- SPDX-License-Identifier: MPL-2.0
-- A connection is as many bytes as the buffer has.
use Rattle.laws.proofs.Kit.{sym, ◌∙◌}
use Rattle.laws.proofs.Stores.{sets-whole}
use Rattle.state.specs.State.{state_bytes}
use Rattle.hub_c.proofs.connection.put_state.Goals as goal

pub returns : goal.returns
returns c =
    rw c.put_connection.ensures.new_out (sets-whole (state_bytes c.args.c.now) c.args.state.now (c.requires ∙ sym c.put_connection.ensures.size))
