-- SPDX-License-Identifier: MPL-2.0
-- Demand 1 for a step of either role: its table is that of 25 and 24, the reader's, and the role's own.
use Rattle.laws.proofs.Kit.{ℕ, ◌≡◌, sym, ◌∙◌, ap, true, false, List, ◌++◌, length, eqb, eqb-true, eqb-false, le-ltb, refl, ◌≤◌, arith}
use mathlib.Core.Bool.{Bool}
use Rattle.laws.specs.Bytes.{AreBytes}
use Rattle.laws.specs.Rows.{first, or_else, numbered, leads}
use Rattle.laws.proofs.Cases.{on}
use Rattle.laws.proofs.Firsts.{first-append, neither}
use Rattle.wire.specs.Reader.{header_of, refusal_of}
use Rattle.wire.specs.declared.header.Header.{Header}
use Rattle.message.specs.Reading.{read_message, working_after}
use Rattle.message.specs.Handed.{payload}
use Rattle.joining.specs.Cut.{bad_size}
use Rattle.joining.specs.declared.answer.Said.{Said}
use Rattle.joining.specs.Answers.{refused}
use Rattle.admission.specs.Admission.{admit, working_admitted, on_read, step_by}
use Rattle.admission.proofs.Ways.{admit-tests}
use Rattle.promises.specs.Refusals.{◌⇔◌, reader_table, ready_table, handed_out}
use Rattle.promises.specs.Written.{ReadAs}
use Rattle.promises.proofs.ReaderNumber.{what_is_read, early, reader_number, read-by-number, read_found}
use Rattle.promises.proofs.RefusalTables.{reader-first}
use Rattle.promises.proofs.Exactly.{exactly}

-- No refusal has the number 0.
abbrev pub Firm : Said → Type 0
Firm s = s.kind ≡ 0 → s.refusal ≡ 0 → ⊥

-- A role: what an answer says, how it refuses, and what it does with a message that was read.
module _ {A : Type 0} (say : A → Said) (refuse : ℕ → A) (heard : Header → List ℕ → A) where
  -- Its refusals say their number, and what says a number is one.
  pub record Refuses : Type 0 where
    pub told : (n : ℕ) → say (refuse n) ≡ refused n
    pub only : (a : A) (n : ℕ) → (n ≡ 0 → ⊥) → (say a).refusal ≡ n → say a ≡ refused n
    pub firm : (h : Header) (p : List ℕ) → Firm (say (heard h p))

  -- A step on a connection of fragment size F; after 14 the role has these rows.
  module _ (F v : ℕ) (m keys working : List ℕ) (later : List ℕ → List (ℕ × Bool)) where
    -- What a message says that passes 1 to 14 is by them.
    abbrev pub HeardBy : Type 0
    HeardBy = (p : List ℕ) → bad_size F ≡ false → refusal_of m ≡ 0 → (say (heard (header_of m) p)).refusal ≡ first (later p)

    abbrev pub table : List (ℕ × Bool)
    table = ready_table F v ++ (reader_table m keys (length working) ++ later (handed_out m keys working))

    module _ (role : Refuses) (by : HeardBy) where
      -- What is said where nothing before it refused.
      read_number : bad_size F ≡ false
          → (say (on_read refuse heard m (working_after m keys working) (read_message m keys (length working)))).refusal
          ≡ or_else (reader_number m keys (length working)) (first (later (handed_out m keys working)))
      read_number sized =
          let n = reader_number m keys (length working) in
          rw (read-by-number m keys (length working))
          (on (eqb n 0)
          (λ e.
          let z = (neither (refusal_of m) _ (neither (early m keys (length working)) _ (eqb-true n 0 e)).0).0 in
          rw e (by (payload m (working_after m keys working) (what_is_read m keys)) sized z))
          (λ e. rw e (ap (λ (s : Said). s.refusal) (role.told n))))

      step-number : AreBytes m → (say (step_by refuse heard F v m keys working)).refusal ≡ first table
      step-number bytes =
          admit-tests F v m keys working (λ w' r. (say (on_read refuse heard m w' r)).refusal ≡ first table)
          (λ t. rw t (ap (λ (s : Said). s.refusal) (role.told 25)))
          (λ t z. rw (t, z) (ap (λ (s : Said). s.refusal) (role.told 24)))
          (λ t z.
          rw (t, z)
          (read_number z ∙ ap (λ (n : ℕ). or_else n (first (later (handed_out m keys working)))) (sym (reader-first m keys (length working) bytes))
          ∙ sym (first-append (reader_table m keys (length working)) (later (handed_out m keys working)) refl)))

      refusal-firm : (n : ℕ) → (n ≡ 0 → ⊥) → Firm (say (refuse n))
      refusal-firm n z k e = z (sym (ap (λ (s : Said). s.refusal) (role.told n)) ∙ e)

      step-firm : Firm (say (step_by refuse heard F v m keys working))
      step-firm =
          let n = reader_number m keys (length working) in
          admit-tests F v m keys working (λ w' r. Firm (say (on_read refuse heard m w' r)))
          (λ t. refusal-firm 25 (λ z. omega arith)) (λ t s. refusal-firm 24 (λ z. omega arith))
          (λ t s.
          rw (read-by-number m keys (length working))
          (on (eqb n 0) (λ e. rw e (role.firm (header_of m) (payload m (working_after m keys working) (what_is_read m keys))))
          (λ e. rw e (refusal-firm n (eqb-false n 0 e)))))

      -- So each number is said exactly where its row is the first that applies.
      pub role-exact : numbered table ≡ true → (n : ℕ) → AreBytes m → (say (step_by refuse heard F v m keys working) ≡ refused n) ⇔ leads n table
      role-exact counted n bytes =
          let s = step_by refuse heard F v m keys working in
          let e = step-number bytes in
          exactly (say s ≡ refused n) n table counted
          (λ r.
          let told = ap (λ (s : Said). s.refusal) r in
          (λ z. step-firm (ap (λ (s : Said). s.kind) r) (told ∙ z), sym e ∙ told))
          (λ z q. role.only s n z (e ∙ q))

-- A step whose message is read hears it.
pub role-hears : {A : Type 0} (refuse : ℕ → A) (heard : Header → List ℕ → A) (F v : ℕ) (h : Header) (bytes m keys working : List ℕ)
    → bad_size F ≡ false → v ≤ 1 → ReadAs h bytes m keys working → step_by refuse heard F v m keys working ≡ heard h bytes
unfolding admit working_admitted
role-hears refuse heard F v h bytes m keys working z l r =
    let e = read_found m keys (length working) r.accepted in
    rw (le-ltb 1 v l, z, e, rw e at r.handed, rw e at r.header)
