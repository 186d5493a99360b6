-- SPDX-License-Identifier: MPL-2.0
-- The numbered examples, computed.
use Rattle.laws.proofs.Kit.{refl}
use Rattle.field.specs.Xor.{xor}
use Rattle.field.specs.Field.{xtime, times, mul, square, ones, inverse}
use Rattle.field.specs.Sbox.{affine, sbox}
use Rattle.wire.specs.Chain.{entry_of, chain, most_entries, read_chain}
use Rattle.wire.specs.Fields.{bad_type, bad_flags, bad_piece, most_pieces, is_sealed, tag_size}
use Rattle.payloads.specs.Format.{ends_from, holds_from, accepts_from}
use Rattle.payloads.specs.Shapes.{is_shaped, bad_payload}
use Rattle.wire.specs.Reader.{room_of, chain_of, header_rows, rows_of, refusal_with, refusal_of, read_header}
use Rattle.seal.specs.Padding.{padding, sealed_size}
use Rattle.message.specs.Reading.{plain_read, read_message}
use Rattle.joining.specs.Cut.{cut_refusal}
use Rattle.promises.specs.Examples.{NumberedExamples}

pub numbered-examples : NumberedExamples
unfolding read_message plain_read bad_payload is_shaped accepts_from holds_from ends_from read_header refusal_of refusal_with rows_of header_rows chain_of room_of read_chain most_entries chain entry_of bad_type bad_flags bad_piece most_pieces is_sealed tag_size sealed_size padding cut_refusal sbox affine inverse square ones mul times xtime xor
numbered-examples = refl
