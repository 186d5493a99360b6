-- SPDX-License-Identifier: MPL-2.0
-- A certificate's place lies in its payload.
use Rattle.laws.proofs.Kit.{ℕ, ◌+◌, ◌≤◌, List, length, ltb, ltb-false, arith}
use Rattle.laws.specs.Bytes.{be16}
use Rattle.laws.proofs.Cases.{on}
use Rattle.payloads.specs.Reading.{certificate_of}

pub certificate_inside : (p : List ℕ) → (certificate_of p).from + (certificate_of p).size ≤ length p
unfolding certificate_of
certificate_inside p =
    on (ltb (length p) (5 + be16 p 3)) (λ e. rw e (omega arith)) (λ e. rw e (ltb-false (length p) (5 + be16 p 3) e))
