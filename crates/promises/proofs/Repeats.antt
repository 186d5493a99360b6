-- SPDX-License-Identifier: MPL-2.0
-- Demand 2's conversation: what was read in an enrolment step's message is known until a Failure, and who asks for the same step is known too.
use Rattle.laws.proofs.Kit.{ℕ, ◌≡◌, refl, ◌∙◌, ap, List, [], ◌∷◌, length}
use Rattle.wire.specs.declared.header.Header.{Header}
use Rattle.message.specs.Reading.{working_after}
use Rattle.message.specs.Handed.{payload}
use Rattle.std.specs.Prelude.{Ok}
use Rattle.hub.specs.declared.Stepped.{Stepped}
use Rattle.hub.specs.declared.Answer.{Answer}
use Rattle.hub.specs.declared.Answer.TheVariants.{Reply, Again}
use Rattle.hub.specs.Answers.{said, is_quiet}
use Rattle.hub.proofs.StepCases.{step-tests, step-cases}
use Rattle.hub.proofs.StepMachine.{still}
use Rattle.hub.proofs.Telling.{said-apart}
use Rattle.promises.specs.Enrolment.{NoFailure, SameStep, Content, RepeatedStep, RepeatedBytes}
use Rattle.promises.proofs.Apart.{apart}
use Rattle.promises.proofs.ReadBack.{as_read, step-hears}
use Rattle.promises.proofs.ReaderNumber.{read_found}
use Rattle.promises.proofs.ReadAgain.{read_again}
use Rattle.promises.proofs.StateKept.{step_kept}
use Rattle.promises.proofs.RepeatKnown.{Known, still-known, same_known, again, hear-replied}
use Rattle.admission.specs.Calls.{Call}
use Rattle.hub.specs.Calls.{Standing, after, answer, after_all}

-- The message of a call that was answered with a reply was read,
content : (p : Standing) (x : Call) (t : ℕ) → answer p x ≡ Reply t → Content x
content p x t =
    step-cases p.connection x.message x.keys x.working p.report x.verdict (λ s b. s.answer ≡ Reply t → Content x)
    (λ n e. apart (cc))
    (λ z f r e.
    record {
      header = f.header;
      payload = payload x.message (working_after x.message x.keys x.working) (Ok f);
      reads = as_read f.header _ x.message x.keys x.working f r refl refl;
    })

-- and what was read is known since.
replied : (p : Standing) (x : Call) (t : ℕ) (k : Content x) → answer p x ≡ Reply t → Known (after p x).connection k.header k.payload t
replied p x t k =
    step-tests p.connection x.message x.keys x.working p.report x.verdict
    (λ s b. s.answer ≡ Reply t → Known s.connection k.header k.payload t) (λ o e. apart (cc)) (λ o z e. apart (cc))
    (λ o z.
    let e = read_found x.message x.keys (length x.working) k.reads.accepted in
    rw (e, rw e at k.reads.handed, rw e at k.reads.header)
    (hear-replied p.connection z k.header k.payload p.report x.verdict t))

known-since : (h : Header) (bytes : List ℕ) (t : ℕ) (p : Standing) → Known p.connection h bytes t → (xs : List Call) → NoFailure p xs
    → Known (after_all p xs).connection h bytes t
known-since h bytes t p w [] n = w
known-since h bytes t p w (x ∷ xs) n =
    let k = step_kept p.connection w.low w.high p.report x (λ e. n.0 (ap said e)) in
    known-since h bytes t (after p x) (still-known p.connection (after p x).connection h bytes t k w) xs n.1

pub repeated-step : RepeatedStep
repeated-step p x t e xs n y o =
    let q = after_all (after p x) xs in
    let h = o.second.header in
    let b = o.second.payload in
    let k = known-since _ _ t (after p x) (replied p x t o.first (said-apart (answer p x) (Reply t) e)) xs n in
    let w = same_known q.connection _ h _ b t o.kind o.session o.same k in
    let a : answer q y ≡ Again t =
    ap (λ (s : Stepped). s.answer)
    ((step-hears q.connection h b y.message y.keys y.working q.report y.verdict w.sized o.verdict o.second.reads).0
    ∙ again q.connection h b q.report y.verdict t w) in
    (ap said a, still q y (ap (λ (b : Answer). is_quiet (said b)) a))

-- The same payload asks for the same step.
same_self : (p : List ℕ) → SameStep p p
same_self p = record { type = refl; nonce = λ e. refl; x = λ e. refl; y = λ e. refl; digested = λ e. refl }

pub repeated-bytes : RepeatedBytes
repeated-bytes p x t e xs n y o =
    let a = said-apart (answer p x) (Reply t) e in
    let k = content p x t a in
    repeated-step p x t e xs n y
    (record {
      first = k;
      second = record {
        header = k.header;
        payload = k.payload;
        reads = rw (o.message, o.keys) (read_again _ _ x.message x.keys x.working y.working k.reads o.room);
      };
      kind = (replied p x t k a).kind;
      session = refl;
      same = same_self k.payload;
      verdict = o.verdict;
    })
