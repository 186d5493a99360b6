-- SPDX-License-Identifier: MPL-2.0
-- A response that is Pending has them; of another nothing is said.
use Rattle.hub_c.proofs.Giving.{exchange-right}
use Rattle.hub_c.proofs.payload.request_if.Goals as goal

pub request_of-requires : goal.request_of-requires
request_of-requires c = exchange-right _ _ _ (rw c.if-pending.true at c.requires)
