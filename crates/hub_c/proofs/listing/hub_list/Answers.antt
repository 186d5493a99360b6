-- SPDX-License-Identifier: MPL-2.0
-- The buffers have their sizes; the line is that of the message.
use Rattle.lines.proofs.Puts.{room}
use Rattle.hub_c.proofs.Sizing.{first-sized, line-told}
use Rattle.laws.proofs.Kit.{length, zero-add, arith}
use Rattle.hub_c.specs.Line.{line_text}
use Rattle.hub_c.proofs.listing.hub_list.Goals as goal

pub returns-clause-new_line : goal.returns-clause-new_line
returns-clause-new_line c =
    let m = c.args.message.now in
    let line = c.args.line.now in
    let wide = first-sized (length line) 64 (length c.args.size.now) 1 c.if-line-size.false in
    let r = room 64 0 (line_text m) line (omega arith) in
    let told = rw (c.read_header-answer.ensures, c.number16.ensures, line-told m, ← r.1) at c.put_line-end.ensures.new_out in
    rw c.if-line-size.false told

pub returns-clause-new_size : goal.returns-clause-new_size
returns-clause-new_size c =
    let m = c.args.message.now in
    let line = c.args.line.now in
    let wide = first-sized (length line) 64 (length c.args.size.now) 1 c.if-line-size.false in
    let r = room 64 0 (line_text m) line (omega arith) in
    let told = rw (c.read_header-answer.ensures, c.number16.ensures, line-told m, ← r.0, zero-add) at c.put_line-end.ensures.value in
    rw c.if-line-size.false (rw told at c.put_length.ensures)
