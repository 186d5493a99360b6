-- SPDX-License-Identifier: MPL-2.0
-- Two values that equal a third are equal.
use Rattle.laws.proofs.Kit.{sym, ◌∙◌}
use Rattle.hub.proofs.Telling.{said-apart}
use Rattle.gateway.proofs.Telling as gateway
use Rattle.promises.specs.Determinacy.{OneResult, OneOutcome, ToldApart, ToldApartByGateway}

pub one-result : OneResult
one-result A value r s p q = p ∙ sym q

pub one-outcome : OneOutcome
one-outcome A B value held r s p q = λ i. ((p.0 ∙ sym q.0) i, (p.1 ∙ sym q.1) i)

pub told-apart : ToldApart
told-apart = said-apart

pub told-apart-by-gateway : ToldApartByGateway
told-apart-by-gateway = gateway.said-apart
