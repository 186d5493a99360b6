-- SPDX-License-Identifier: MPL-2.0
-- What a payload writer wrote reads back: for any format, by the one theorem of formats.
use Rattle.laws.proofs.Kit.{ℕ, ◌≡◌, refl, sym, ◌∙◌, true, not, List, [], ◌∷◌, length, take, drop, take-append_seam, ltb, eq-eqb, not-false}
use Rattle.std.specs.Prelude.{Ok}
use Rattle.laws.proofs.Firsts.{first-quiet}
use Rattle.laws.proofs.Refusals.{passed, unless-none}
use Rattle.wire.specs.Refusals.{wrong_payload, no_room}
use Rattle.payloads.specs.Format.{Format, Values, fits, write, accepts, read}
use Rattle.payloads.proofs.Formats.{read_back}
use Rattle.writer.specs.Written.{put_refusal, written, output}
use Rattle.writer.specs.Payload.{payload_written, payload_output}

module _ (f : Format) (v : Values f) (out : List ℕ) (n : ℕ) (answered : payload_written f v out ≡ Ok n) where
  bytes-written : (fits f v ≡ true) × (take n (payload_output f v out) ≡ write f v)
  unfolding written output put_refusal
  bytes-written =
      let size = length (write f v) in
      let r = put_refusal (not (fits f v)) size (length out) in
      let z = passed r size (sym answered) in
      let same = sym (unless-none r size z) ∙ answered in
      let e : size ≡ n = cc in
      let quiet = first-quiet ((wrong_payload, not (fits f v)) ∷ (no_room, ltb (length out) size) ∷ []) refl z in
      (not-false _ quiet.0, rw (eq-eqb r 0 z, ← e) (take-append_seam (write f v) (drop size out)))

  -- The first n bytes of the output are those of the format; they are accepted, and say the values that were given.
  pub payload-back : (take n (payload_output f v out) ≡ write f v) × (accepts f (write f v) ≡ true) × (read f (write f v) ≡ v)
  payload-back = let b = bytes-written in let k = read_back f v b.0 in (b.1, k.0, k.1)
