-- SPDX-License-Identifier: MPL-2.0
-- The plain text is whole blocks, so it is encrypted where it stands.
use Rattle.laws.proofs.Kit.{◌∙◌}
use Rattle.seal.proofs.Padded.{plain_text-blocks}
use Rattle.seal.proofs.sealing.encrypt_part.Goals as goal

pub returns : goal.returns
returns c = c.cbc_encrypt_in_place.ensures.new_buffer ∙ rw (c.put_plain.ensures, plain_text-blocks, c.round_keys.ensures)
