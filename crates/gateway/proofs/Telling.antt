-- SPDX-License-Identifier: MPL-2.0
-- What an answer of the gateway says in numbers tells it from every other: the answer is read back from them.
use Rattle.laws.proofs.Kit.{◌≡◌, refl, sym, ◌∙◌, ap, cond, eqb, ne_eqb, arith}
use Rattle.std.specs.Prelude.{Some, None}
use Rattle.joining.specs.declared.answer.Said.{Said}
use Rattle.gateway.specs.declared.Answer.{Answer}
use Rattle.gateway.specs.declared.Answer.TheVariants.{Refused, Next, Ready, Failed, Again}
use Rattle.gateway.specs.Answers.{said, HasTypeByte}

-- The answer that says this.
abbrev meant : Said → Answer
meant s =
    cond (eqb s.kind 0) (Refused s.refusal)
    (cond (eqb s.kind 7) (Next s.value)
    (cond (eqb s.kind 8) Ready
    (cond (eqb s.kind 9) Failed (Again (cond (eqb s.value 256) None (Some s.value))))))

meant-said : (a : Answer) → HasTypeByte a → meant (said a) ≡ a
meant-said (Refused n) b = refl
meant-said (Next t) b = refl
meant-said Ready b = refl
meant-said Failed b = refl
meant-said (Again (Some t)) b = rw (ne_eqb t 256 (λ e. omega arith))
meant-said (Again None) b = refl

pub said-apart : (a b : Answer) → HasTypeByte a → HasTypeByte b → said a ≡ said b → a ≡ b
said-apart a b x y e = sym (meant-said a x) ∙ ap meant e ∙ meant-said b y
