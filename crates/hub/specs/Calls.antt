-- SPDX-License-Identifier: MPL-2.0
-- A call of the step, seen from outside: what it leaves and answers; and calls one after the other.
use Rattle.std.specs.Prelude.{ℕ, List}
use Rattle.laws.specs.Courses.{final}
use Rattle.joining.specs.declared.answer.Said.{Said}
use Rattle.admission.specs.Calls.{Call}
use Rattle.hub.specs.declared.Connection.{Connection}
use Rattle.hub.specs.declared.Answer.{Answer}
use Rattle.hub.specs.Answers.{said}
use Rattle.hub.specs.Step.{step, report_stepped}

-- Where connection and report buffer stand, before a call or after it.
pub record Standing : Type 0 where
  pub connection : Connection
  pub report : List ℕ

-- What one call of the step leaves: the next connection and the report buffer.
abbrev pub after : Standing → Call → Standing
after s x =
    record {
      connection = (step s.connection x.message x.keys x.working s.report x.verdict).connection;
      report = report_stepped s.connection x.message x.keys x.working s.report x.verdict;
    }

-- What it answers.
abbrev pub answer : Standing → Call → Answer
answer s x = (step s.connection x.message x.keys x.working s.report x.verdict).answer

-- The same in document 01's numbers and values.
abbrev pub says : Standing → Call → Said
says s x = said (answer s x)

-- What a list of calls leaves, one after the other.
abbrev pub after_all : Standing → List Call → Standing
after_all s xs = final after s xs
