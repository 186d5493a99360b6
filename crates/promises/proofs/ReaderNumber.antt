-- SPDX-License-Identifier: MPL-2.0
-- The number of the reader's refusal, 0 where there is none: wire's of 1 to 9, then seal's where the message is sealed, then 14. What is
-- read, and what the working buffer then holds, follow from it.
use Rattle.laws.proofs.Kit.{ℕ, ◌≡◌, sym, ◌∙◌, ap, cond, List, length, eqb, eqb-true}
use Rattle.laws.specs.Bytes.{be8, be32}
use Rattle.laws.specs.Rows.{first, or_else, unless}
use Rattle.laws.proofs.Cases.{on}
use Rattle.wire.specs.Chain.{leaves}
use Rattle.wire.specs.Reader.{header_of, chain_of, refusal_of, read_header}
use Rattle.seal.specs.Opening.{open_refusal, into_unless, opened_into}
use Rattle.message.specs.Reading.{opened, payload_rows, plain_read, sealed_read, read_message, working_after}
use Rattle.message.specs.Answers.{found_message}
use Rattle.message.specs.declared.reading.FoundMessage.{FoundMessage}
use Rattle.std.specs.Prelude.{Result, Ok}
use Rattle.promises.specs.Refusals.{sealed, start, payload_in}

module _ (m keys : List ℕ) where
  -- What is found where nothing is refused.
  abbrev pub found_in : FoundMessage
  found_in =
      record {
        header = header_of m;
        sealed = sealed m;
        from = cond (sealed m) 4 (start m);
        size = cond (sealed m) (be32 (opened m keys (start m)) 0) (leaves (chain_of m));
      }

  abbrev pub what_is_read : Result FoundMessage ℕ
  what_is_read = Ok found_in

  module _ (room : ℕ) where
    -- 1 to 13.
    abbrev pub early : ℕ
    early = or_else (refusal_of m) (cond (sealed m) (open_refusal keys m (start m) room) 0)

    -- 1 to 14.
    abbrev pub reader_number : ℕ
    reader_number = or_else early (first (payload_rows (be8 m 5) (sealed m) (payload_in m keys)))

    pub read-by-number : read_message m keys room ≡ unless reader_number found_in
    unfolding read_message read_header plain_read sealed_read
    read-by-number = on (eqb (refusal_of m) 0) (λ e. rw e (on (sealed m) (λ s. rw s) (λ s. rw s))) (λ e. rw (e, e, e))

    -- The number of what was found is that number; where it is 0, that is what was read.
    pub number-found : (found_message (read_message m keys room)).refusal ≡ reader_number
    number-found =
        ap (λ (a : Result FoundMessage ℕ). (found_message a).refusal) read-by-number
        ∙ on (eqb reader_number 0) (λ e. rw e (sym (eqb-true reader_number 0 e))) (λ e. rw e)

    pub read_found : (found_message (read_message m keys room)).refusal ≡ 0 → read_message m keys room ≡ what_is_read
    read_found z = let n = sym number-found ∙ z in read-by-number ∙ rw n

  pub working-by-number : (working : List ℕ)
      → working_after m keys working ≡ cond (sealed m) (into_unless (early (length working)) (opened m keys (start m)) working) working
  unfolding working_after read_header opened_into into_unless
  working-by-number working =
      on (eqb (refusal_of m) 0) (λ e. rw e (on (sealed m) (λ s. rw s) (λ s. rw s)))
      (λ e. on (sealed m) (λ s. rw (e, s, e)) (λ s. rw (e, s)))
