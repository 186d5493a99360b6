-- SPDX-License-Identifier: MPL-2.0
-- Nothing stands before the message.
use Rattle.laws.proofs.Kit.{refl, []}
use Rattle.sha256.proofs.message.Message.digest.Goals as goal

pub returns : goal.returns
returns c = c.finish.ensures [] refl (λ m. rw c.initial.ensures)
