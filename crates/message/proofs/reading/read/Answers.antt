-- SPDX-License-Identifier: MPL-2.0
-- By what the header's reader answered.
use Rattle.laws.proofs.Kit.{refl, sym, ◌∙◌, arith}
use Rattle.std.proofs.lemmas.Result.{err_from_is_err_and}
use Rattle.wire.proofs.Sound.{read-sound}
use Rattle.message.specs.Reading.{read_message, working_after}
use Rattle.message.proofs.reading.read.Goals as goal

pub returns-in_err-found : goal.returns-in_err-found
unfolding read_message working_after
returns-in_err-found c =
    let p = err_from_is_err_and c.from_residual.result c.from_residual.ensures.1 in
    rw (p.1, p.2, ← c.in_err-found.ensures) (record { value = refl; new_working = refl })

pub returns-then-is_sealed : goal.returns-then-is_sealed
unfolding read_message working_after
returns-then-is_sealed c =
    let e = c.read_sealed.ensures in
    rw (← c.in_ok-found.ensures, sym c.is_sealed.ensures ∙ c.if-is_sealed.true)
    (record { value = e.value; new_working = e.new_working })

pub read_plain-requires : goal.read_plain-requires
read_plain-requires c = let sound = read-sound _ _ (sym c.in_ok-found.ensures) in omega (arith, sound.spans)

pub returns : goal.returns
unfolding read_message working_after
returns c =
    rw (← c.in_ok-found.ensures, sym c.is_sealed.ensures ∙ c.if-is_sealed.false)
    (record { value = c.read_plain.ensures; new_working = refl })
