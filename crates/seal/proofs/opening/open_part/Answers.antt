-- SPDX-License-Identifier: MPL-2.0
-- Keys and vector are the definition's, so what is judged and written is the opened sealed part.
use Rattle.laws.proofs.Kit.{◌≡◌}
use Rattle.aes.specs.Cbc.{cbc_decrypt}
use Rattle.seal.specs.Opening.{plain_of}
use Rattle.seal.proofs.Opened.{left, no-room, part-opened}
use Rattle.seal.proofs.opening.open_part.Goals as goal

pub returns-in_err-when : goal.returns-in_err-when
returns-in_err-when c =
    let a = c.args in
    let r = c.in_err-when.ensures.refused in
    let e = no-room a.keys.now a.message.now a.sealed.now a.working.now (rw c.bytes.ensures.value at r.0) in
    record { value = rw (left _ c.from_residual.ensures.1, r.1) e.0; new_working = e.1 }

pub returns : goal.returns
unfolding plain_of
returns c =
    let a = c.args in
    let o = c.open_blocks.ensures in
    let plain : plain_of a.keys.now a.message.now a.sealed.now ≡ cbc_decrypt c.round_keys.result c.vector-vector.result a.sealed.now =
    rw (c.round_keys.ensures, c.vector-vector.ensures) in
    let e = part-opened a.keys.now a.message.now a.sealed.now a.working.now (rw c.bytes.ensures.value at c.in_ok-when.ensures.passed) plain
    o.value o.new_working in
    record { value = e.0; new_working = e.1 }
