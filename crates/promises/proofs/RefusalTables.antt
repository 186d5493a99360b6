-- SPDX-License-Identifier: MPL-2.0
-- Demand 1 for readers, cutter, opener and writer: each call's refusal is the first number of its table, and laws' both directions do the rest.
use Rattle.laws.proofs.Kit.{ℕ, ◌+◌, ◌-◌, ◌≤◌, ◌≡◌, refl, sym, ◌∙◌, ap, true, true≢false, cond, List, ◌++◌, length, eqb, ne_eqb, eqb-true, le-ltb}
use Rattle.laws.proofs.Kit.{lt-leb, arith}
use Rattle.laws.specs.Bytes.{AreBytes, be8, be16}
use Rattle.laws.specs.Rows.{first, or_else, unless}
use Rattle.laws.proofs.Cases.{on}
use Rattle.laws.proofs.Firsts.{first-append}
use Rattle.laws.proofs.Refusals.{refused as number-refused}
use Rattle.wire.specs.Chain.{leaves}
use Rattle.wire.specs.Reader.{chain_of, header_rows, rows_of, refusal_with, refusal_of, header_found, read_header}
use Rattle.std.specs.Prelude.{Ok, Err}
use Rattle.wire.specs.declared.header.Header.{Header}
use Rattle.wire.proofs.Reading.{read-good}
use Rattle.wire.proofs.Sound as wire
use Rattle.wire.proofs.Told.{header_refused, refused-header}
use Rattle.seal.specs.Opening.{sealed_part, no_part, key_rows, tag_rows, part_rows, part_refusal, open_refusal}
use Rattle.message.specs.Reading.{payload_rows, read_message}
use Rattle.message.specs.Writing.{finished_length, length_of, write_refusal, write_answer}
use Rattle.message.proofs.Told.{message-refused, refused-message}
use Rattle.writer.specs.declared.Wrote.{Wrote}
use Rattle.writer.specs.Answers.{wrote}
use Rattle.joining.specs.Cut.{bad_size, cut_refusal}
use Rattle.hub.specs.declared.Opened.{Opened}
use Rattle.hub.specs.Opening.{opened}
use Rattle.promises.specs.Refusals.{sealed, start, header_table, payload_in, sealed_table, reader_table, HeaderExact, ReaderExact}
use Rattle.promises.specs.Refusals.{cut_table, CutRefused, CutterExact, open_table, not_opened, OpenerExact, Opens, writer_table}
use Rattle.promises.specs.Refusals.{not_written, WriterExact}
use Rattle.promises.proofs.Apart.{apart}
use Rattle.promises.proofs.Exactly.{exactly, answered-exactly}
use Rattle.promises.proofs.ReaderNumber.{found_in, what_is_read, early, reader_number, read-by-number}

cut-refused : (F : ℕ) (report : List ℕ) (i n : ℕ) → (n ≡ 0 → ⊥) → cut_refusal F (length report) i ≡ n → CutRefused F report i n
cut-refused F report i n z e = (rw (e, ne_eqb n 0 z), rw (e, ne_eqb n 0 z), rw (e, ne_eqb n 0 z))

pub cutter-exact : CutterExact
unfolding cut_refusal
cutter-exact F report i n =
    exactly (CutRefused F report i n) n (cut_table F (length report) i) refl
    (λ p.
    let w = number-refused _ _ (sym p.0) in
    (λ z. w.1 (sym w.0 ∙ z), sym w.0))
    (cut-refused F report i n)

pub opener-exact : OpenerExact
unfolding opened
opener-exact F n =
    exactly (opened F ≡ not_opened n) n (open_table F) refl
    (λ p.
    on (bad_size F)
    (λ b. let q : 24 ≡ n = ap (λ (o : Opened). o.refusal) (rw b at p) in (λ z. omega arith, rw b q))
    (λ b. let q : F ≡ 0 = ap (λ (o : Opened). o.connection.size) (rw b at p) in absurd (true≢false (rw q at b))))
    (λ z p.
    on (bad_size F) (λ b. let q : 24 ≡ n = rw b at p in rw b (ap not_opened q)) (λ b. absurd (z (sym (rw b at p)))))

pub opens : Opens
unfolding opened
opens F q = rw q.0

-- A message has forty bytes or more.
some-length : (h : Header) (chain payload : List ℕ) → length_of h chain payload ≡ 0 → ⊥
unfolding finished_length
some-length h chain payload e = omega arith

wrote-unless : (k l : ℕ) → wrote (unless k l) ≡ cond (eqb k 0) (wrote (Ok l)) (not_written k)
wrote-unless k l = on (eqb k 0) (λ e. rw e) (λ e. rw e)

pub writer-exact : WriterExact
unfolding write_refusal write_answer
writer-exact h chain payload keys room n =
    let l = length_of h chain payload in
    let rows = writer_table h chain payload keys room in
    let e = wrote-unless (first rows) l in
    let k =
    answered-exactly n (wrote (Ok l)) not_written (λ q. some-length h chain payload (ap (λ (w : Wrote). w.size) q))
    (λ m q. ap (λ (w : Wrote). w.refusal) q) rows refl in
    (λ r. k.0 (sym e ∙ r), λ w. e ∙ k.1 w)

header-first : (m : List ℕ) → first (header_table m) ≡ refusal_of m
unfolding refusal_of refusal_with rows_of header_rows
header-first m = refl

pub header-exact : HeaderExact
unfolding read_header
header-exact m n =
    let rows = header_table m in
    let e : read_header m ≡ unless (first rows) (header_found m) = rw (header-first m) in
    let k = answered-exactly n (Ok (header_found m)) Err (λ e. apart (cc)) (λ m e. cc) rows refl in
    (λ r. k.0 (sym e ∙ header_refused m n r), λ l. refused-header m n (e ∙ k.1 l))

module _ (m keys : List ℕ) (room : ℕ) (bytes : AreBytes m) where
  -- What seal tests for itself never applies to what passed 1 to 9.
  part-there : refusal_of m ≡ 0 → sealed m ≡ true → no_part (length m) (start m) ≡ 0
  unfolding no_part
  part-there z s =
      let w = wire.read-sound m (header_found m) (read-good m z) in
      let b = w.blocks s in
      let t = wire.sealed-tag (be16 m 6) s in
      let short : length m ≤ 65535 = omega (arith, w.good.size, bytes.at 2, bytes.at 3) in
      let spans : start m + leaves (chain_of m) + 32 ≡ length m = omega (arith, w.spans) in
      let q : length m - 32 - start m ≡ leaves (chain_of m) = omega arith in
      rw (le-ltb (length m) 42 (omega arith), le-ltb 65535 (length m) short, lt-leb (length m - 32) (start m) (omega arith), q, b.0)

  -- Rows 10 to 13 are seal's two tables in turn.
  sealed-first : refusal_of m ≡ 0 → first (sealed_table m keys room) ≡ cond (sealed m) (open_refusal keys m (start m) room) 0
  unfolding open_refusal part_refusal
  sealed-first z =
      on (sealed m)
      (λ s. rw (s, part-there z s) (first-append (key_rows (length keys) ++ tag_rows keys m) (part_rows keys m (sealed_part m (start m)) room) refl))
      (λ s. rw s)

  -- Rows 1 to 13, then all of them.
  pub early-first : first (header_table m ++ sealed_table m keys room) ≡ early m keys room
  early-first =
      first-append (header_table m) (sealed_table m keys room) refl
      ∙ rw (header-first m) (on (eqb (refusal_of m) 0) (λ e. rw e (sealed-first (eqb-true (refusal_of m) 0 e))) (λ e. rw e))

  pub reader-first : first (reader_table m keys room) ≡ reader_number m keys room
  reader-first =
      let row = payload_rows (be8 m 5) (sealed m) (payload_in m keys) in
      first-append (header_table m ++ sealed_table m keys room) row refl ∙ ap (λ (n : ℕ). or_else n (first row)) early-first

pub reader-exact : ReaderExact
reader-exact m keys room n b =
    let rows = reader_table m keys room in
    let e : read_message m keys room ≡ unless (first rows) (found_in m keys) =
    read-by-number m keys room ∙ ap (λ (n : ℕ). unless n (found_in m keys)) (sym (reader-first m keys room b)) in
    let k = answered-exactly n (what_is_read m keys) Err (λ e. apart (cc)) (λ m e. cc) rows refl in
    (λ r. k.0 (sym e ∙ message-refused m keys room n r), λ l. refused-message m keys room n (e ∙ k.1 l))
