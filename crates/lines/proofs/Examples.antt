-- SPDX-License-Identifier: MPL-2.0
-- The listing's example, computed.
use Rattle.laws.proofs.Kit.{◌≡◌, refl, []}
use Rattle.wire.specs.Examples.{p1}
use Rattle.wire.specs.Chain.{entry_of, chain, most_entries, read_chain}
use Rattle.wire.specs.Fields.{bad_type, bad_flags, bad_piece, most_pieces, is_sealed, tag_size}
use Rattle.wire.specs.Reader.{room_of, chain_of, header_rows, rows_of, refusal_with, refusal_of, read_header, wanted}
use Rattle.lines.specs.Text.{digits, digit_count, field}
use Rattle.lines.specs.Stream.{ahead}
use Rattle.lines.specs.Listing.{header_line, line_of}
use Rattle.laws.specs.Chunks.{steps, whole}
use Rattle.lines.specs.Inputs.{line_step, listing}
use Rattle.lines.specs.Examples.{p1_line}

-- "For the message of P1 the whole output is `1 0 0 1 43` and a newline".
pub p1-listed : listing p1 ≡ p1_line
unfolding listing whole steps line_step ahead wanted line_of header_line field digit_count digits read_header refusal_of refusal_with rows_of header_rows chain_of room_of read_chain most_entries chain entry_of bad_type bad_flags bad_piece most_pieces is_sealed tag_size
p1-listed = refl

-- "for no input, nothing".
pub none-listed : listing [] ≡ []
unfolding listing whole steps line_step ahead wanted
none-listed = refl
