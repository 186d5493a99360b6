-- SPDX-License-Identifier: MPL-2.0
-- What an output then holds: what the stores from its start make of it, unless a refusal stood before them.
use Rattle.laws.proofs.Kit.{ℕ, ◌≡◌, refl, Bool, List, [], ◌∷◌, length, sets, cond, eqb, eqb-true, ltb, ltb-false}
use Rattle.laws.proofs.Cases.{on}
use Rattle.laws.proofs.Firsts.{first-quiet}
use Rattle.laws.proofs.Stores.{sets-start}
use Rattle.wire.specs.Refusals.{wrong_payload, no_room}
use Rattle.wire.specs.declared.header.Header.{Header}
use Rattle.writer.specs.Written.{put_refusal, output}
use Rattle.writer.specs.Header.{header_bytes}

pub stored : (bad : Bool) (size : ℕ) (bytes out : List ℕ) → length bytes ≡ size
    → output bad size bytes out ≡ cond (eqb (put_refusal bad size (length out)) 0) (sets out 0 bytes) out
unfolding output put_refusal
stored bad size bytes out e =
    let n = put_refusal bad size (length out) in
    on (eqb n 0)
    (λ z.
    let quiet = first-quiet ((wrong_payload, bad) ∷ (no_room, ltb (length out) size) ∷ []) refl (eqb-true n 0 z) in
    let room = ltb-false (length out) size quiet.1.0 in
    rw (z, sets-start bytes out (rw e room), e))
    (λ z. rw z)

pub length_header : (h : Header) (size : ℕ) → length (header_bytes h size) ≡ 40
unfolding header_bytes
length_header h size = refl
