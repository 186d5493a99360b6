-- SPDX-License-Identifier: MPL-2.0
-- Two records are the same whose fields are.
use Rattle.laws.proofs.Kit.{◌≡◌}
use Rattle.joining.specs.declared.Progress.{Progress}
use Rattle.hub.specs.declared.Connection.{Connection}

pub same-progress : (p q : Progress) → p.expected ≡ q.expected → p.heard ≡ q.heard → p.count ≡ q.count → p.channel ≡ q.channel
    → p.last ≡ q.last → p ≡ q
same-progress p q e h n c l = λ i. record { expected = e i; heard = h i; count = n i; channel = c i; last = l i }

pub same-connection : (c d : Connection) → c.size ≡ d.size → c.state ≡ d.state → c.session ≡ d.session → c.nonce ≡ d.nonce → c.x ≡ d.x
    → c.y ≡ d.y → c.digest ≡ d.digest → c.progress ≡ d.progress → c ≡ d
same-connection c d f s t n x y g p =
    λ i. record { size = f i; state = s i; session = t i; nonce = n i; x = x i; y = y i; digest = g i; progress = p i }
