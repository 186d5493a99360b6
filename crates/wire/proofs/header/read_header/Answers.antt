-- SPDX-License-Identifier: MPL-2.0
-- Each call answers its part of the definition. A message that is not refused has room for its tag and for what its chain leaves.
use Rattle.std.proofs.lemmas.Result.{err_from_is_err_and}
use Rattle.wire.proofs.Sound.{tag_small, refused, tag_fits, rest-fits, accepted}
use Rattle.wire.proofs.header.read_header.Goals as goal

pub chain_of-chain-requires : goal.chain_of-chain-requires
chain_of-chain-requires c = search tag_small

pub returns-in_err-refusal : goal.returns-in_err-refusal
returns-in_err-refusal c =
    let p = err_from_is_err_and c.from_residual.result c.from_residual.ensures.1 in
    rw (p.1, p.2) (search (refused, c.in_err-refusal.ensures))

pub overflow_sub-result : goal.overflow_sub-result
overflow_sub-result c = search (tag_fits, c.in_ok-refusal.ensures)

pub overflow_sub-result-2 : goal.overflow_sub-result-2
overflow_sub-result-2 c = rw c.leaves-size.ensures (search (rest-fits, c.in_ok-refusal.ensures))

pub returns : goal.returns
returns c = rw c.leaves-size.ensures (search (accepted, c.in_ok-refusal.ensures))
