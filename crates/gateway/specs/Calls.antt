-- SPDX-License-Identifier: MPL-2.0
-- A call of the gateway's step, seen from outside: what it leaves and answers.
use Rattle.joining.specs.declared.answer.Said.{Said}
use Rattle.admission.specs.Calls.{Call}
use Rattle.gateway.specs.declared.Gateway.{Gateway}
use Rattle.gateway.specs.declared.Answer.{Answer}
use Rattle.gateway.specs.Answers.{said}
use Rattle.gateway.specs.Step.{step}

-- What one call of the step leaves.
abbrev pub after : Gateway → Call → Gateway
after g x = (step g x.message x.keys x.working x.verdict).gateway

-- What it answers.
abbrev pub answer : Gateway → Call → Answer
answer g x = (step g x.message x.keys x.working x.verdict).answer

-- The same in numbers and values.
abbrev pub says : Gateway → Call → Said
says g x = said (answer g x)
