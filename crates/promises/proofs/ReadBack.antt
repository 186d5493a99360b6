-- SPDX-License-Identifier: MPL-2.0
-- Demand 2's messages: what the writer's answer and output say gives message's theorems their premises.
use Rattle.laws.proofs.Kit.{ℕ, ◌+◌, ◌≤◌, ◌≡◌, refl, ◌∙◌, ap, false, List, length, drop, take_at, eqb, eqb-true}
use Rattle.laws.proofs.Cases.{on}
use Rattle.wire.specs.Fields.{is_sealed}
use Rattle.wire.specs.declared.header.Header.{Header}
use Rattle.message.specs.Answers.{found_message}
use Rattle.message.specs.Handed.{payload}
use Rattle.message.specs.Reading.{in_message, in_working, read_message, working_after}
use Rattle.message.specs.declared.reading.FoundMessage.{FoundMessage}
use Rattle.std.specs.Prelude.{Result, Ok}
use Rattle.message.specs.Writing.{length_of, write_refusal, message_bytes, write_answer, written_into}
use Rattle.message.proofs.WrittenLengths.{length-message_bytes}
use Rattle.message.proofs.WrittenBack.{found_at, read_plain, read-sealed}
use Rattle.message.proofs.HandedBack.{handed-plain, handed-sealed}
use Rattle.joining.specs.Cut.{bad_size}
use Rattle.hub.specs.declared.Connection.{Connection}
use Rattle.hub.specs.Host.{refuse}
use Rattle.hub.specs.Hear.{hear, report_heard}
use Rattle.hub.specs.Step.{step, report_stepped}
use Rattle.promises.proofs.Admitting.{role-hears}
use Rattle.promises.specs.Written.{Wrote, ReadAs, ReadsBack, StepsByState}

module _ (h : Header) (chain bytes keys message : List ℕ) (w : Wrote h chain bytes keys message) where
  -- Nothing was refused.
  passed : write_refusal h chain bytes (length keys) (length w.output) ≡ 0
  unfolding write_answer
  passed =
      let n = write_refusal h chain bytes (length keys) (length w.output) in
      on (eqb n 0) (λ e. eqb-true n 0 e) (λ e. rw e at w.accepted)

  pub is-message : message ≡ message_bytes h chain bytes keys
  unfolding write_answer written_into
  is-message =
      let size = length_of h chain bytes in
      w.bytes ∙ rw passed (take_at (message_bytes h chain bytes keys) (drop size w.output) size (length-message_bytes h chain bytes keys))

-- What the reader answered, in the numbers of its definition.
pub as_read : (h : Header) (bytes m keys working : List ℕ) (f : FoundMessage) → read_message m keys (length working) ≡ Ok f → f.header ≡ h
    → payload m (working_after m keys working) (Ok f) ≡ bytes → ReadAs h bytes m keys working
as_read h bytes m keys working f r e p =
    record {
      accepted = ap (λ (a : Result FoundMessage ℕ). (found_message a).refusal) r;
      header = ap (λ (a : Result FoundMessage ℕ). (found_message a).header) r ∙ e;
      handed = ap (payload m (working_after m keys working)) r ∙ p;
    }

pub reads-back : ReadsBack
reads-back h chain bytes keys message w working room =
    let m = message_bytes h chain bytes keys in
    let good = passed h chain bytes keys message w in
    rw (is-message h chain bytes keys message w)
    (on (is_sealed h.flags)
    (λ s.
    as_read h bytes m keys working (in_working h (length bytes))
    (read-sealed h chain bytes keys (length working) (length w.output) good s w.of-keys w.of-chain w.of-payload w.widths (room s))
    refl
    (handed-sealed h chain bytes keys working (length w.output) good s w.of-keys w.of-chain w.of-payload w.widths (room s)))
    (λ s.
    as_read h bytes m keys working (in_message (found_at h (40 + length chain) (length bytes)))
    (read_plain h chain bytes keys (length working) (length w.output) good s) refl
    (handed-plain h chain bytes keys working (length w.output) good s)))

-- A plain message with any keys: it looks at none.
pub reads_plain : (h : Header) (chain bytes keys message : List ℕ) → Wrote h chain bytes keys message → (others working : List ℕ)
    → is_sealed h.flags ≡ false → ReadAs h bytes message others working
unfolding write_refusal message_bytes
reads_plain h chain bytes keys message w others working s =
    let room = length w.output in
    let good : write_refusal h chain bytes (length others) room ≡ 0 = rw s (rw s at (passed h chain bytes keys message w)) in
    let same : message ≡ message_bytes h chain bytes others = is-message h chain bytes keys message w ∙ rw s in
    rw same
    (as_read h bytes (message_bytes h chain bytes others) others working (in_message (found_at h (40 + length chain) (length bytes)))
    (read_plain h chain bytes others (length working) room good s) refl (handed-plain h chain bytes others working room good s))

-- A step whose message is read hears it.
pub step-hears : (c : Connection) (h : Header) (bytes m keys working report : List ℕ) (v : ℕ) → bad_size c.size ≡ false → v ≤ 1
    → ReadAs h bytes m keys working
    → (step c m keys working report v ≡ hear c h bytes report v) × (report_stepped c m keys working report v ≡ report_heard c h bytes report)
unfolding step report_stepped
step-hears c h bytes m keys working report v z l r = (
  role-hears (refuse c) (λ h p. hear c h p report v) c.size v h bytes m keys working z l r,
  role-hears (λ n. report) (λ h p. report_heard c h p report) c.size v h bytes m keys working z l r,
)

pub steps-by-state : StepsByState
steps-by-state c h chain payload keys message w working report v room l z =
    step-hears c h payload message keys working report v z l (reads-back h chain payload keys message w working room)
