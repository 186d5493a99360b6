-- SPDX-License-Identifier: MPL-2.0
-- Each byte is masked at its place.
use Rattle.laws.proofs.Kit.{ℕ, get_or, bit_xor, rules, arith}
use Rattle.sha256.proofs.Keys.{masked_by}
use Rattle.sha256.proofs.Made.{made-each}
use Rattle.sha256.proofs.key.masked.Goals as goal

pub returns : goal.returns
returns c =
    let a = c.args in
    masked_by a.pad a.key.now c.from_fn.result (omega (arith, c.from_fn.ensures.items.long))
    (λ i h. made-each (λ (n : ℕ). bit_xor (get_or a.key.now n 0) a.pad) c.from_fn.ensures.items (λ n y q k. search rules) i (omega arith))
