-- SPDX-License-Identifier: MPL-2.0
-- What the writer does not refuse it writes; and every fragment of a report is of that kind.
use Rattle.laws.proofs.Kit.{ℕ, ◌+◌, ◌*◌, ◌≤◌, ◌<◌, ◌≡◌, refl, sym, Bool, true, false, and-false, List, [], ◌∷◌, length, drop, replicate}
use Rattle.laws.proofs.Kit.{length-replicate, take_at, ne_eqb, le-ltb, lt-leb, arith}
use Rattle.wire.specs.Fields.{bad_type, bad_flags, bad_piece, is_sealed, most_pieces}
use Rattle.payloads.specs.Shapes.{bad_payload}
use Rattle.wire.specs.declared.header.Header.{Header}
use Rattle.laws.specs.Bytes.{AreBytes}
use Rattle.laws.proofs.ByteLists.{take-bytes, drop-bytes}
use Rattle.message.specs.Writing.{length_of, write_refusal, message_bytes, write_answer, written_into}
use Rattle.message.proofs.WrittenLengths.{length-message_bytes}
use Rattle.joining.specs.Heard.{bit}
use Rattle.joining.specs.Cut.{cut_count}
use Rattle.joining.proofs.Cuts.{not-over}
use Rattle.promises.specs.Written.{Wrote}
use Rattle.promises.specs.Reports.{Sending, fragments, fragment, header_for, Fair, Sent, done, brings}
use Rattle.promises.specs.Met.{Typed, Choice, Good, flags_of, call_for, CanBeSent, AnyOrder}
use Rattle.promises.proofs.ReportsJoined.{counted, is-part, start-fair}
use Rattle.message.specs.Widths.{InWidth}
use Rattle.hub.specs.Calls.{after}

-- A call of the writer with an output that is just long enough.
pub wrote : (h : Header) (chain bytes keys : List ℕ) → InWidth h → AreBytes chain → AreBytes bytes → AreBytes keys
    → write_refusal h chain bytes (length keys) (length_of h chain bytes) ≡ 0 → Wrote h chain bytes keys (message_bytes h chain bytes keys)
unfolding write_answer written_into
wrote h chain bytes keys widths of-chain of-bytes of-keys good =
    let n = length_of h chain bytes in
    let k = length-replicate {A = ℕ} n 0 in
    record {
      widths = widths;
      of-chain = of-chain;
      of-payload = of-bytes;
      of-keys = of-keys;
      output = replicate n 0;
      accepted = rw (k, good);
      bytes = rw (k, good) (sym (take_at (message_bytes h chain bytes keys) (drop n (replicate n 0)) n (length-message_bytes h chain bytes keys)));
    }

-- Acknowledge and wake are free; 2 and 4 are there.
flags-free : (a w : Bool) → (bad_flags 4 (6 + bit a + 8 * bit w) ≡ false) × (6 + bit a + 8 * bit w ≤ 15)
unfolding bad_flags is_sealed
flags-free true true = (refl, omega arith)
flags-free true false = (refl, omega arith)
flags-free false true = (refl, omega arith)
flags-free false false = (refl, omega arith)

module _ (s : Sending) (f : Fair s) (t : Typed s) (i : ℕ) (l : i < fragments s) where
  pub not-longer : length (fragment s i) ≤ s.connection.size
  not-longer = rw (is-part s f i l) (not-over s.report (start-fair s f).cut i l)

  of-fragment : AreBytes (fragment s i)
  of-fragment =
      let at = s.connection.size * i in
      rw (is-part s f i l) (take-bytes s.connection.size (drop at s.report) (drop-bytes at s.report t.report))

  placed : bad_piece 4 i (cut_count s.connection.size (length s.report) i) ≡ false
  unfolding bad_piece
  placed =
      let n = fragments s in
      rw (counted s f i l, ne_eqb n 0 (λ z. omega arith), le-ltb most_pieces n (start-fair s f).cut.most, lt-leb n i l)

  module _ (d : Choice) (g : Good s d) where
    abbrev h : Header
    h = header_for s i d.request (flags_of d)

    widths : InWidth h
    unfolding most_pieces
    widths =
        let u = (flags-free d.acknowledge d.wake).1 in
        omega (arith, counted s f i l, (start-fair s f).cut.most, f.number, g.request, t.session, t.channel)

    allowed : write_refusal h d.chain (fragment s i) (length s.keys) (length_of h d.chain (fragment s i)) ≡ 0
    unfolding write_refusal bad_type bad_payload
    allowed =
        let n = length_of h d.chain (fragment s i) in
        let short = le-ltb 16384 (length (fragment s i)) (omega (arith, not-longer, (start-fair s f).small)) in
        rw ((flags-free d.acknowledge d.wake).0, placed, g.chained, t.whole, and-false (is_sealed (flags_of d)), short, le-ltb n n (omega arith))

    pub sent : Sent s i (call_for s i d)
    sent =
        record {
          request = d.request;
          flags = flags_of d;
          chain = d.chain;
          written = wrote h d.chain (fragment s i) s.keys widths g.of-chain of-fragment t.keys allowed;
          keys = refl;
          room = g.room i l;
          verdict = g.verdict;
        }

pub can-be-sent : (s : Sending) → CanBeSent s
can-be-sent = sent

pub any_order : (s : Sending) → AnyOrder s
any_order s f t [] g p = done
any_order s f t (d ∷ ds) g p = brings g.0.0 (sent s f t d.0 g.0.0 d.1 g.0.1)
    (any_order s f t ds g.1 (after p (call_for s d.0 d.1)))
