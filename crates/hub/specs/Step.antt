-- SPDX-License-Identifier: MPL-2.0
-- A step: one message, the keys, both lent buffers and a verdict, on any connection. "A step checks in this order, the first that applies
-- being the answer: 25; 24; 1 to 9; for sealed messages 10 to 13; 14; 16; 15; then 19, 17, 18, 21, 20, 22, 23." What comes before 16 is
-- the same in both roles, and with it what the working buffer holds (`working_admitted`).
use Rattle.std.specs.Prelude.{ℕ, List}
use Rattle.admission.specs.Admission.{step_by}
use Rattle.hub.specs.declared.Connection.{Connection}
use Rattle.hub.specs.declared.Stepped.{Stepped}
use Rattle.hub.specs.Host.{refuse}
use Rattle.hub.specs.Hear.{hear, report_heard}

-- The next connection and the answer.
unfoldable pub step : Connection → List ℕ → List ℕ → List ℕ → List ℕ → ℕ → Stepped
step c message keys working report verdict = step_by (refuse c) (λ h payload. hear c h payload report verdict) c.size verdict message keys working

-- The report buffer after a step.
unfoldable pub report_stepped : Connection → List ℕ → List ℕ → List ℕ → List ℕ → ℕ → List ℕ
report_stepped c message keys working report verdict =
    step_by (λ n. report) (λ h payload. report_heard c h payload report) c.size verdict message keys working
