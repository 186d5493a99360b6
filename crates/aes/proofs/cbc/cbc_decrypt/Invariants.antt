-- SPDX-License-Identifier: MPL-2.0
-- Block by block: the first n are decrypted, and v is the last of them before.
use Rattle.laws.proofs.Kit.{◌*◌}
use Rattle.aes.specs.Words.{bytes_of}
use Rattle.aes.specs.Cbc.{cbc_decrypt_block}
use Rattle.aes.proofs.ChainLoop.{Chained}
use Rattle.aes.proofs.cbc.cbc_decrypt.Given as goal

abbrev pub invariant-loop-n : goal.invariant-loop-n
invariant-loop-n l =
    Chained (cbc_decrypt_block l.fn.keys) (λ b c. b) l.fn.source l.fn.target l.fn.vector (bytes_of l.v) l.target (16 * l.n)
