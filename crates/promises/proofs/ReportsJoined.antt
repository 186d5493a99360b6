-- SPDX-License-Identifier: MPL-2.0
-- Demand 3: the step is the machine over which joining proved it for any number of pieces.
use Rattle.laws.proofs.Kit.{ℕ, ◌*◌, ◌<◌, ◌≡◌, refl, ◌∙◌, ap, false, List, length, take, eqb-true, lt-leb}
use mathlib.Core.Bool.{false≢true}
use Rattle.laws.proofs.Cases.{on}
use Rattle.laws.proofs.Courses.{end, goes}
use Rattle.laws.specs.Parts.{part}
use Rattle.joining.specs.Cut.{bad_size, cut_refusal, cut_count}
use Rattle.joining.proofs.Cuts.{uncut, cuttable}
use Rattle.joining.proofs.Snapshot as snapshot
use Rattle.joining.proofs.DemandThree as joining
use Rattle.joining.proofs.HeardCount.{all_told, told-again, told-taken}
use Rattle.joining.proofs.DemandThree.{Machine, only-the-set, handed_out, as-sent, at-no-other, late-copy}
use Rattle.joining.specs.Answers.{is_complete}
use Rattle.hub.proofs.StepMachine.{Brings, hub}
use Rattle.promises.specs.Reports.{Sending, began, fragments, Fair, fragment, header_for, Sent, Course, done, brings, rests}
use Rattle.promises.specs.Reports.{Brought, DemandThree, NotBetween}
use Rattle.promises.proofs.ReadBack.{steps-by-state}
use Rattle.joining.specs.Events.{Event}
use Rattle.admission.specs.Calls.{Call}
use Rattle.hub.specs.Calls.{Standing}

module _ (s : Sending) (f : Fair s) where
  -- What the cutter does not refuse at piece 0 it refuses at no piece under the count.
  uncut-all : (bad_size s.connection.size ≡ false) × ((i : ℕ) → i < fragments s → cut_refusal s.connection.size (length s.report) i ≡ 0)
  unfolding cut_refusal
  uncut-all = let k = uncut s.connection.size (length s.report) 0 f.cut in (k.0, λ i l. rw (k.0, k.1, lt-leb (fragments s) i l))

  pub counted : (i : ℕ) → i < fragments s → cut_count s.connection.size (length s.report) i ≡ fragments s
  counted i l = rw (uncut-all.1 i l)

  pub is-part : (i : ℕ) → i < fragments s → fragment s i ≡ part s.report (s.connection.size * i) s.connection.size
  is-part i l = rw (uncut-all.1 i l)

  -- The report as joining sees it.
  abbrev pub start : snapshot.Start
  start =
      record {
        size = s.connection.size;
        count = fragments s;
        channel = s.channel;
        report = s.report;
        held = s.connection.progress;
        buffer = s.buffer;
      }

  pub start-fair : snapshot.Startable start
  start-fair =
      let k = cuttable s.connection.size (length s.report) 0 f.cut in
      record { small = k.small; cut = k.cut; number = f.number; fresh = f.unheard; room = f.room }

  -- The step as joining's machine.
  abbrev machine : Machine s.connection.size
  machine = hub s.connection f.ready uncut-all.0

  -- A fragment that was sent is one that joining is brought.
  sent-brings : (i : ℕ) → i < fragments s → (x : Call) → Sent s i x
      → Brings s.connection (snapshot.piece_of start i) (snapshot.piece_bytes start i) x
  sent-brings i l x o =
      let h = header_for s i o.request o.flags in
      record {
        header = h;
        kind = refl;
        session = refl;
        piece = rw (counted i l);
        hears = λ d b z.
            rw (o.keys, ← (is-part i l))
            (steps-by-state d h o.chain _ _ _ o.written x.working b x.verdict (λ e. o.room) o.verdict z);
      }

  course : {p : Standing} {xs : List Call} {es : List Event} → Course s p xs es → joining.CourseOf start machine p xs es
  course done = end
  course (brings {x = x} {i = i} l o r) = goes (joining.brings l (sent-brings i l x o)) (course r)
  course (rests q r) = goes (joining.rests q) (course r)

  brought : (xs : List Call) (es : List Event) → Course s (began s) xs es → (i : ℕ) → i < fragments s → (x : Call) → Sent s i x
      → Brought s xs es i x
  brought xs es r i l x o =
      let b = sent-brings i l x o in
      let a = as-sent start start-fair machine (course r) i l x b in
      record {
        last = λ d.
            record {
              answered = handed_out start start-fair machine (course r) i l x b d;
              whole = ap (λ (p : Standing). take (length s.report) p.report) (a d).1 ∙ (a d).2;
              long = ap (λ (p : Standing). length p.report) (a d).1 ∙ (a d).3;
              next = ap (λ (p : Standing). p.connection) (a d).1;
            };
        no_other = at-no-other start start-fair machine (course r) i l x b;
        taken = told-taken start start-fair machine (course r) i l x b;
        repeated = told-again start start-fair machine (course r) i l x b;
        counted = all_told start start-fair machine (course r) i l;
        late = late-copy start start-fair machine (course r) i l x b;
      }

pub demand-three : DemandThree
demand-three s f =
    record {
      only = λ xs ys es ds r q e. only-the-set (start s f) (start-fair s f) (machine s f) (course s f r) (course s f q) e;
      each = brought s f;
    }

pub not-between : NotBetween
not-between s e =
    on (is_complete s) (λ c. let k = eqb-true s.kind 6 c in absurd (false≢true (rw k at e))) (λ c. c)
