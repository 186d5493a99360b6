-- SPDX-License-Identifier: MPL-2.0
-- Each word is at its place.
use Rattle.laws.proofs.Kit.{ℕ, ◌*◌, rules}
use Rattle.laws.specs.Bytes.{be32}
use Rattle.sha256.proofs.Hashing.{words_by}
use Rattle.sha256.proofs.Made.{made-each}
use Rattle.sha256.proofs.block.load.Goals as goal

pub returns : goal.returns
returns c =
    words_by c.args.block.now c.from_fn.result c.from_fn.ensures.items.long
    (made-each (λ (n : ℕ). be32 c.args.block.now (4 * n)) c.from_fn.ensures.items (λ n y q k. search rules))
