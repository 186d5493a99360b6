-- SPDX-License-Identifier: MPL-2.0
-- A step on a Discovery message: 16 does not look at it, and "Host states" have no row for it. Every Presence Response can be carried by a message.
use Rattle.laws.proofs.Kit.{ℕ, ◌≡◌, refl, sym, ◌∙◌, false, true≢false, not, and-false, ◌||◌, eqb, ltb, le-ltb, arith}
use Rattle.laws.proofs.Bools.{or-false}
use Rattle.wire.specs.Fields.{bad_type, hmac_flag, encrypted_flag, is_sealed, bad_flags}
use Rattle.payloads.specs.Format.{◌and◌, write}
use Rattle.payloads.specs.Shapes.{presence_response}
use Rattle.payloads.specs.Typed.{has_widths, Typed}
use Rattle.payloads.proofs.TypedBytes.{written-bytes}
use Rattle.message.specs.Writing.{length_of, write_refusal}
use Rattle.hub.specs.Hear.{is_foreign}
use Rattle.promises.specs.HostStates.{Admitted}
use Rattle.promises.specs.Presence.{values_of, DiscoveryAnswered, CanBeCarried}
use Rattle.promises.proofs.HostSteps.{by-host-states}
use Rattle.promises.proofs.StepTable.{leaves-alone}
use Rattle.promises.proofs.Writes.{wrote}
use Rattle.promises.proofs.ReadBack.{reads-back}
use Rattle.promises.proofs.PresenceBack.{fitting, good}

pub discovery-answered : DiscoveryAnswered
discovery-answered s x k kind v z =
    let c = s.connection in
    let own : is_foreign c k.header ≡ false = rw (kind, and-false (not (eqb c.state 0))) in
    let h : Admitted s x = record { content = k; verdict = v; size = z; own = own } in
    let told = ((by-host-states s x h).discovery kind).0 in
    let left = leaves-alone c x.message x.keys x.working s.report x.verdict 15 told in
    (told, λ i. record { connection = left.0 i; report = left.1 i })

-- 6 refuses sealed Discovery.
plain : (flags : ℕ) → bad_flags 1 flags ≡ false → is_sealed flags ≡ false
unfolding bad_flags
plain flags e =
    let a = or-false (ltb 15 flags || not (eqb (hmac_flag flags) (encrypted_flag flags)) || is_sealed flags) false e in
    (or-false (ltb 15 flags || not (eqb (hmac_flag flags) (encrypted_flag flags))) (is_sealed flags) a.0).1

pub can-be-carried : CanBeCarried
unfolding write_refusal bad_type has_widths Typed
can-be-carried r w device name salt hash h widths kind flagged placed chain of-chain chained keys of-keys =
    let v = values_of r in
    let p = write presence_response v in
    let k = length_of h chain p in
    let fit = fitting r w in
    let unsealed = plain h.flags flagged in
    let typed : Typed presence_response v = omega (arith, w.mode) and device and name and salt and hash and tt in
    let written = wrote h chain p keys widths of-chain (written-bytes presence_response v refl fit typed) of-keys
    (rw (kind, flagged, placed, chained, le-ltb k k (omega arith), unsealed, good r w)) in
    record { written = written; read = λ working. reads-back h chain p keys _ written working (λ s. absurd (true≢false (sym s ∙ unsealed))) }
