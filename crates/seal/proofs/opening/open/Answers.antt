-- SPDX-License-Identifier: MPL-2.0
-- The tables one after the other: the tag is judged where the part and the keys are there, the part is opened where the tag is right.
use Rattle.laws.proofs.Kit.{◌∙◌}
use Rattle.seal.proofs.Opened.{left, no-part, no-keys, no-tag, opened}
use Rattle.seal.proofs.opening.open.Goals as goal

pub returns-in_err-sealed : goal.returns-in_err-sealed
returns-in_err-sealed c =
    let a = c.args in
    let e = no-part a.keys.now a.message.now a.start a.working.now c.in_err-sealed.ensures.value in
    record { value = left _ c.from_residual.ensures.1 ∙ e.0; new_working = e.1 }

pub returns-in_err-keys : goal.returns-in_err-keys
returns-in_err-keys c =
    let a = c.args in
    let e = no-keys a.keys.now a.message.now a.start a.working.now c.in_ok-sealed.ensures.value c.in_err-keys.ensures in
    record { value = left _ c.from_residual-in_err-keys.ensures.1 ∙ e.0; new_working = e.1 }

pub returns-in_err-when : goal.returns-in_err-when
returns-in_err-when c =
    let a = c.args in
    let parts = c.split_at.ensures in
    let r = c.in_err-when.ensures.refused in
    let tag = rw (c.same_tag.ensures, c.tag_of.ensures, parts.front, parts.back) at r.0 in
    let e = no-tag a.keys.now a.message.now a.start a.working.now c.in_ok-sealed.ensures.value c.in_ok-keys.ensures tag in
    record { value = rw (left _ c.from_residual-in_err-when.ensures.1, r.1) e.0; new_working = e.1 }

pub returns : goal.returns
returns c =
    let a = c.args in
    let parts = c.split_at.ensures in
    let tag = rw (c.same_tag.ensures, c.tag_of.ensures, parts.front, parts.back) at c.in_ok-when.ensures.passed in
    let p = c.open_part.ensures in
    let e = opened a.keys.now a.message.now a.start a.working.now c.in_ok-sealed.ensures.value c.in_ok-keys.ensures tag p.value p.new_working in
    record { value = e.0; new_working = e.1 }
