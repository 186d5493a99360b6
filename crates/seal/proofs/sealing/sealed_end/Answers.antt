-- SPDX-License-Identifier: MPL-2.0
-- A size past 2^32 is too long, and so is a sum past 2^64.
use Rattle.laws.proofs.Kit.{ltb-false}
use Rattle.seal.proofs.Opened.{left}
use Rattle.seal.proofs.Seals.{too-long, end_is}
use Rattle.seal.proofs.sealing.sealed_end.Goals as goal

pub returns-in_err-when-2-clause-value : goal.returns-in_err-when-2-clause-value
returns-in_err-when-2-clause-value c =
    let r = c.in_err-when-2.ensures.refused in
    let long = too-long c.args.start c.args.size _ c.try_from.ensures c.unwrap_or-size.ensures
    c.sealed_size.ensures c.saturating_add-end.ensures r.0 in
    rw (left _ c.from_residual-in_err-when-2.ensures.1, r.1, c.in_ok-when.ensures.passed, long)

pub returns-clause-value : goal.returns-clause-value
returns-clause-value c =
    let e = end_is c.args.start c.args.size _ c.try_from.ensures c.unwrap_or-size.ensures
    c.sealed_size.ensures c.saturating_add-end.ensures c.in_ok-when-2.ensures.passed in
    let fits = rw e at c.in_ok-when-2.ensures.passed in
    rw (e, c.in_ok-when.ensures.passed, fits)

pub returns-clause-fits : goal.returns-clause-fits
returns-clause-fits c =
    let e = end_is c.args.start c.args.size _ c.try_from.ensures c.unwrap_or-size.ensures
    c.sealed_size.ensures c.saturating_add-end.ensures c.in_ok-when-2.ensures.passed in
    (ltb-false _ _ c.in_ok-when.ensures.passed, e, ltb-false _ _ c.in_ok-when-2.ensures.passed)
