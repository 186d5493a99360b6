-- SPDX-License-Identifier: MPL-2.0
-- Key by key.
use Rattle.laws.proofs.Kit.{◌≡◌, refl, ◌∙◌, add-one, arith}
use Rattle.laws.proofs.Runs.{fill_more, fill-all}
use Rattle.aes.specs.Key.{rcon, round_key, expand_key}
use Rattle.aes.proofs.key.expand_key.Goals as goal

pub loop-n-init : goal.loop-n-init
unfolding round_key rcon
loop-n-init c =
    record {
      made = record { len = refl; done = λ i h. (let z : i ≡ 0 = omega arith in rw z) };
      last = c.words-k.ensures;
      constant = refl;
    }

pub loop-n-preserved : goal.loop-n-preserved
unfolding round_key rcon
loop-n-preserved c =
    let v = c.loop-n.invariant in
    let key = rw (v.last, v.constant) at c.next_key-k.ensures in
    record {
      made = fill_more _ _ _ _ _ _ v.made (omega arith) (rw add-one (c.bytes_of.ensures ∙ key));
      last = rw add-one key;
      constant = rw (c.double-c.ensures, v.constant, add-one);
    }

pub returns : goal.returns
unfolding expand_key
returns c = fill-all _ _ _ _ _ c.loop-n.invariant.made (omega arith)
