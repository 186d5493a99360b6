-- SPDX-License-Identifier: MPL-2.0
-- Eight parts, each where the one before it ends.
use Rattle.laws.proofs.Kit.{◌≡◌, length, rules}
use Rattle.state.specs.Layout.{size_place}
use Rattle.wire.specs.Fields.{most_pieces}
use Rattle.state.specs.State.{state_parts, state_bytes}
use Rattle.state.proofs.Parted.{stored-joined}
use Rattle.state.proofs.StateBack.{state-length}
use Rattle.state.proofs.put_connection.Goals as goal

pub returns-clause-new_out : goal.returns-clause-new_out
unfolding state_bytes most_pieces
returns-clause-new_out c =
    let k = c.args.c.now in
    let nonce : length k.nonce ≡ 8 = search rules in
    let x : length k.x ≡ 32 = search rules in
    let y : length k.y ≡ 32 = search rules in
    let digest : length k.digest ≡ 32 = search rules in
    let run = rw (nonce, x, y, digest) at (stored-joined c.args.out.now size_place (state_parts k)) in
    rw (c.put_progress.ensures, c.store_bytes-4.ensures, c.store_bytes-3.ensures, c.store_bytes-2.ensures)
    (rw (c.store_bytes.ensures, c.store64-2.ensures, c.store8.ensures, c.store64.ensures) run)

pub returns-clause-size : goal.returns-clause-size
returns-clause-size c = state-length c.args.c.now (search rules) (search rules) (search rules) (search rules)
