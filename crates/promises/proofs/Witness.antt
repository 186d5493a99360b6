-- SPDX-License-Identifier: MPL-2.0
-- The premises of demand 3 can be met: a Ready connection of fragment size 4, and a report of ten bytes that comes in five calls, its three
-- fragments in another order, one of them twice, and something between.
use Rattle.laws.proofs.Kit.{ℕ, ◌≤◌, ◌<◌, ◌≡◌, refl, Bool, true, false, ◌&&◌, List, [], ◌∷◌, length, replicate, eqb, ltb, eq-eqb, eqb-false, ltb-true}
use Rattle.laws.proofs.Kit.{arith}
use Rattle.laws.specs.Bytes.{AreBytes}
use Rattle.laws.proofs.ByteLists.{nil-bytes, cons-bytes}
use Rattle.laws.proofs.Bools.{and-true}
use Rattle.laws.proofs.Cases.{on}
use Rattle.wire.specs.Fields.{most_pieces}
use Rattle.wire.specs.Chain.{entry_of, chain, most_entries, read_chain, bad_chain}
use Rattle.payloads.specs.Reading.{read_request}
use Rattle.wire.specs.Reader.{header_rows, rows_of, refusal_with, refusal_of, read_header}
use Rattle.message.specs.Reading.{read_message}
use Rattle.seal.specs.Padding.{padding, sealed_size}
use Rattle.joining.specs.Join.{expecting}
use Rattle.joining.specs.Cut.{cut_refusal}
use Rattle.hub.specs.declared.Connection.{Connection}
use Rattle.hub.specs.Opening.{blank}
use Rattle.hub.specs.Host.{requested, with_digest_and_state}
use Rattle.hub.specs.Hear.{with_progress}
use Rattle.hub.specs.Answers.{said, is_quiet}
use Rattle.hub.proofs.StepCases.{step-tests}
use Rattle.promises.specs.Reports.{Sending, began, fragments, fragment, Fair, Sent, Course, done, brings, rests, HandedOut}
use Rattle.promises.specs.Met.{Typed, Choice, Good, call_for}
use Rattle.promises.proofs.ReportsJoined.{demand-three}
use Rattle.promises.proofs.Writes.{not-longer, can-be-sent}
use Rattle.joining.specs.Events.{Event, piece, between, LastMissing}
use Rattle.admission.specs.Calls.{Call}
use Rattle.hub.specs.Calls.{Standing, says}

-- A list whose elements are tested to be bytes.
abbrev below : List ℕ → Bool
below [] = true
below (x ∷ m) = ltb x 256 && below m

pub are-bytes : (m : List ℕ) → below m ≡ true → AreBytes m
are-bytes [] e = nil-bytes
are-bytes (x ∷ m) e = let a = and-true (ltb x 256) (below m) e in cons-bytes (ltb-true x 256 a.0) (are-bytes m a.1)

-- Opened at fragment size 4, requested in session 7, Ready, and expecting number 5.
abbrev ready : Connection
ready = with_progress (with_digest_and_state (requested (blank 4) 7 (read_request [])) (replicate 32 0) 3) (expecting 5)

abbrev ten_bytes : Sending
ten_bytes = record { connection = ready; buffer = replicate 16 0; keys = replicate 64 0; channel = 1; report = replicate 10 1 }

ten-bytes-fair : Fair ten_bytes
unfolding cut_refusal most_pieces
ten-bytes-fair = record { ready = refl; unheard = refl; number = omega arith; cut = refl; room = omega arith }

ten-bytes-typed : Typed ten_bytes
ten-bytes-typed =
    record {
      session = omega arith;
      channel = omega arith;
      report = are-bytes (replicate 10 1) refl;
      keys = are-bytes (replicate 64 0) refl;
      whole = refl;
    }

abbrev pub choice : Choice
choice = record { request = 9; acknowledge = true; wake = false; chain = 0 ∷ 0 ∷ []; working = replicate 16 255; verdict = 1 }

-- A fragment's sealed part has sixteen bytes.
sixteen : (i : ℕ) → i < 3 → sealed_size (length (fragment ten_bytes i)) ≤ 16
unfolding sealed_size padding
sixteen i l = omega (arith, not-longer ten_bytes ten-bytes-fair ten-bytes-typed i l)

pub end-allowed : bad_chain (0 ∷ 0 ∷ []) ≡ false
unfolding bad_chain read_chain most_entries chain entry_of
end-allowed = refl

choice-good : Good ten_bytes choice
choice-good =
    record {
      request = omega arith;
      of-chain = are-bytes (0 ∷ 0 ∷ []) refl;
      chained = end-allowed;
      room = sixteen;
      verdict = omega arith;
    }

-- Something between: no bytes at all are refused, on every connection.
abbrev pub empty_call : Call
empty_call = record { message = []; keys = []; working = []; verdict = 0 }

nothing-refused : (p : Standing) → is_quiet (says p empty_call) ≡ true
unfolding read_message read_header refusal_of refusal_with rows_of header_rows
nothing-refused p =
    step-tests p.connection [] [] [] p.report 0 (λ s b. is_quiet (said s.answer) ≡ true)
    (λ t. refl) (λ t z. refl) (λ t z. refl)

-- Fragment 2, something between, then 0 and 2 again.
abbrev pub before : List Call
before = call_for ten_bytes 2 choice ∷ empty_call ∷ call_for ten_bytes 0 choice ∷ call_for ten_bytes 2 choice ∷ []

abbrev pub events_before : List Event
events_before = piece 2 ∷ between ∷ piece 0 ∷ piece 2 ∷ []

sent : (i : ℕ) → i < 3 → Sent ten_bytes i (call_for ten_bytes i choice)
sent i l = can-be-sent ten_bytes ten-bytes-fair ten-bytes-typed i l choice choice-good

ten-bytes-course : Course ten_bytes (began ten_bytes) before events_before
ten-bytes-course =
    brings {i = 2} (omega arith) (sent 2 (omega arith))
    (rests (nothing-refused _) (brings {i = 0} (omega arith) (sent 0 (omega arith)) (brings {i = 2} (omega arith) (sent 2 (omega arith)) done)))

last-missing : LastMissing (fragments ten_bytes) 1 events_before
last-missing = (refl, λ j l n. on (eqb j 2) (λ e. rw e) (λ e. rw (e, eq-eqb j 0 (omega (arith, eqb-false j 2 e)))))

-- Fragment 1 brings the report.
pub ten-bytes-handed-out : HandedOut ten_bytes before events_before 1 (call_for ten_bytes 1 choice)
ten-bytes-handed-out =
    ((demand-three ten_bytes ten-bytes-fair).each before events_before ten-bytes-course 1 (omega arith) (call_for ten_bytes 1 choice) (sent 1 (omega arith))
    ).last last-missing
