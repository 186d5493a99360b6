-- SPDX-License-Identifier: MPL-2.0
-- A call of a step, in either role, seen from outside.
use Rattle.std.specs.Prelude.{ℕ, List}

-- What one call is given beside the connection and, on the hub's side, the report buffer.
pub record Call : Type 0 where
  pub message : List ℕ
  pub keys : List ℕ
  pub working : List ℕ
  pub verdict : ℕ
