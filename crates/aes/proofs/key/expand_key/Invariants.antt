-- SPDX-License-Identifier: MPL-2.0
-- Key by key: the round keys up to the n-th are made, k is the n-th and c its round constant.
use Rattle.laws.proofs.Kit.{[], ◌+◌, ◌≡◌}
use Rattle.laws.proofs.Runs.{Filled}
use Rattle.aes.specs.Words.{bytes_of}
use Rattle.aes.specs.Key.{rcon, round_key}
use Rattle.aes.proofs.key.expand_key.Given as goal

abbrev pub invariant-loop-n : goal.invariant-loop-n
invariant-loop-n l =
    record {
      made : Filled 11 [] (λ i k. k ≡ round_key l.fn.key i) l.keys (l.n + 1);
      last : bytes_of l.k ≡ round_key l.fn.key l.n;
      constant : l.c ≡ rcon l.n;
    }
