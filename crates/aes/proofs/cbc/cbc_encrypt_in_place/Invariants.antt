-- SPDX-License-Identifier: MPL-2.0
-- Block by block: the first n are encrypted, and v is the last of them.
use Rattle.laws.proofs.Kit.{◌*◌}
use Rattle.aes.specs.Words.{reversed_bytes}
use Rattle.aes.specs.Cbc.{cbc_encrypt_block}
use Rattle.aes.proofs.ChainLoop.{Chained}
use Rattle.aes.proofs.cbc.cbc_encrypt_in_place.Given as goal

abbrev pub invariant-loop-n : goal.invariant-loop-n
invariant-loop-n l =
    Chained (cbc_encrypt_block l.fn.keys) (λ b c. c) l.fn.buffer l.fn.buffer l.fn.vector (reversed_bytes l.v) l.buffer (16 * l.n)
