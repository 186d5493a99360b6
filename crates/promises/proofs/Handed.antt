-- SPDX-License-Identifier: MPL-2.0
-- What the reader found lies in its buffer, so the choosing function hands out the part at its place; on a refusal it finds nothing.
use Rattle.laws.proofs.Kit.{ℕ, ◌+◌, ◌≤◌, ◌≡◌, sym, ◌∙◌, ap, Bool, true, false, cond, List, length, le-ltb}
use Rattle.laws.proofs.Cases.{on}
use Rattle.wire.specs.Fields.{is_sealed}
use Rattle.wire.specs.declared.header.Header.{Header}
use Rattle.message.specs.Handed.{part_of, place_of, payload}
use Rattle.message.specs.declared.reading.FoundMessage.{FoundMessage}
use Rattle.std.specs.Prelude.{Ok}
use Rattle.message.proofs.Told.{handed-refused, message-refused, read-lies, length-working_after}
use Rattle.promises.proofs.ReaderNumber.{found_in, number-found, read_found}
use Rattle.promises.proofs.ReadAgain.{handed-alike}
use Rattle.promises.specs.Refusals.{sealed, payload_in}
use Rattle.promises.specs.Handed.{LiesIn, left, PayloadHanded}

-- A part whose place lies in its buffer.
lies_in : (m w : List ℕ) (f : FoundMessage) (s : Bool) → f.sealed ≡ s → f.from + f.size ≤ cond s (length w) (length m)
    → LiesIn (cond s 1 0) (cond s w m) (place_of (Ok f)) (payload m w (Ok f))
unfolding payload part_of
lies_in m w f true e fits = record { which = rw e; inside = fits; part = rw (e, le-ltb (length w) (f.from + f.size) fits) }
lies_in m w f false e fits = record { which = rw e; inside = fits; part = rw (e, le-ltb (length m) (f.from + f.size) fits) }

pub payload-handed : PayloadHanded
unfolding part_of
payload-handed m keys working = (
  λ n e.
      let r = message-refused m keys (length working) n e in
      (ap place_of r, ap (payload m (left m keys working)) r ∙ handed-refused m (left m keys working) n),
  λ a.
      let f = found_in m keys in
      let r = read_found m keys (length working) a in
      let l = read-lies m keys (length working) f r in
      let s : f.sealed ≡ sealed m = l.sealed ∙ ap (λ (h : Header). is_sealed h.flags) l.is in
      let fits : f.from + f.size ≤ cond (sealed m) (length (left m keys working)) (length m) =
      rw (length-working_after m keys working, ← s) l.inside in
      let z = sym (number-found m keys (length working)) ∙ a in
      let is : payload m (left m keys working) (Ok f) ≡ payload_in m keys =
      handed-alike m keys working z ∙ on (sealed m) (λ t. rw t) (λ t. rw (t, le-ltb (length m) _ (rw t at fits))) in
      rw r (is, lies_in m (left m keys working) f (sealed m) s fits),
)
