-- SPDX-License-Identifier: MPL-2.0
-- The length is formed where the rows above it leave a chain and a payload that are short.
use Rattle.laws.proofs.Kit.{sym, ◌∙◌, arith}
use Rattle.message.proofs.WrittenSizes.{chain-short, payload-short}
use Rattle.message.proofs.writing.judged.Goals as goal

pub finished_length-size-requires : goal.finished_length-size-requires
finished_length-size-requires c = (
  chain-short _ (record { at = λ i. omega (arith, c.type_inv.chain i) }) (sym c.bad_chain.ensures ∙ c.in_ok-when-4.ensures.passed),
  payload-short _ c.args.header.kind _ (sym c.bad_type.ensures ∙ c.in_ok-when.ensures.passed)
      (sym c.bad_payload.ensures ∙ c.in_ok-when-6.ensures.passed) c.in_ok-when-7.ensures.passed,
)
