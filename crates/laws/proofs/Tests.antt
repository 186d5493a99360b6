-- SPDX-License-Identifier: MPL-2.0
-- What closes the returns of `if … { return n; }` code against a table of rows: each branch's fact turns a test into true or false,
-- and a `cond` on a test that is known gives its arm.
use Rattle.laws.proofs.Kit.{◌≡◌, Bool, true, false, cond, eq-eqb, ne_eqb, lt-ltb, le-ltb, le-leb, lt-leb, rules}

pub cond-true : {A : Type 0} (b : Bool) (x y : A) → b ≡ true → cond b x y ≡ x
cond-true b x y e = rw e

pub cond-false : {A : Type 0} (b : Bool) (x y : A) → b ≡ false → cond b x y ≡ y
cond-false b x y e = rw e

-- What `search` is handed at such a return.
pub ruleset tests = (rules, lt-ltb, le-ltb, le-leb, lt-leb, eq-eqb, ne_eqb, cond-true, cond-false)
