-- SPDX-License-Identifier: MPL-2.0
-- The step as the machine of demand 3: a piece of the report that the reader reads is joined, and a quiet answer changes nothing.
use Rattle.laws.proofs.Kit.{ℕ, ◌≡◌, refl, ◌∙◌, ap, true, false, List, eq-eqb}
use Rattle.wire.specs.declared.header.Header.{Header}
use Rattle.joining.specs.declared.Progress.{Progress}
use Rattle.joining.specs.declared.Piece.{Piece}
use Rattle.joining.specs.declared.answer.Said.{Said}
use Rattle.joining.specs.Answers.{arrived, is_complete}
use Rattle.joining.specs.Cut.{bad_size}
use Rattle.joining.specs.Join.{join, report_after}
use Rattle.joining.proofs.DemandThree.{Machine}
use Rattle.hub.specs.declared.Connection.{Connection}
use Rattle.hub.specs.declared.Stepped.{Stepped}
use Rattle.hub.specs.Answers.{said, is_quiet}
use Rattle.hub.specs.Hear.{piece_in, with_progress, joined, hear, report_heard}
use Rattle.hub.specs.Step.{step, report_stepped}
use Rattle.admission.specs.Calls.{Call}
use Rattle.hub.specs.Calls.{Standing, after, says}
use Rattle.hub.proofs.QuietKeeps.{step-still}
use Rattle.hub.proofs.Telling.{said_of}

-- The call's message is heard as a Session message of this connection's session that brings the piece.
pub record Brings (c : Connection) (p : Piece) (bytes : List ℕ) (x : Call) : Type 0 where
  pub header : Header
  pub kind : header.kind ≡ 4
  pub session : header.session ≡ c.session
  pub piece : piece_in header ≡ p
  pub hears : (d : Connection) (b : List ℕ) → bad_size d.size ≡ false
      → (step d x.message x.keys x.working b x.verdict ≡ hear d header bytes b x.verdict)
      × (report_stepped d x.message x.keys x.working b x.verdict ≡ report_heard d header bytes b)

-- A quiet call changes nothing, on any connection.
pub still : (s : Standing) (x : Call) → is_quiet (says s x) ≡ true → after s x ≡ s
still s x e =
    let k = step-still s.connection s.report x.message x.keys x.working x.verdict e in
    λ j. record { connection = k.0 j; report = k.1 j }

-- A Ready connection.
module _ (c : Connection) (ready : c.state ≡ 3) (sized : bad_size c.size ≡ false) where
  -- A piece is joined.
  pub step-joins : (h : Progress) (b : List ℕ) (p : Piece) (bytes : List ℕ) (x : Call) → Brings c p bytes x
      → (step (with_progress c h) x.message x.keys x.working b x.verdict ≡ joined c (join c.size h p bytes b))
      × (report_stepped (with_progress c h) x.message x.keys x.working b x.verdict ≡ report_after c.size h p bytes b)
  unfolding hear report_heard
  step-joins h b p bytes x i =
      let k = i.hears (with_progress c h) b sized in
      rw (k.0, k.1, i.kind, ready, eq-eqb i.header.session c.session i.session, i.piece) (refl, refl)

  -- The machine.
  abbrev pub hub : Machine c.size
  hub =
      record {
        C = Standing;
        X = Call;
        A = Said;
        next = after;
        says = says;
        Brings = Brings c;
        Quiet = λ a. is_quiet a ≡ true;
        seat = λ h b. record { connection = with_progress c h; report = b };
        answer = arrived;
        done = is_complete;
        joins = λ h b p bytes x i j. let k = step-joins h b p bytes x i in record { connection = (k.0 j).connection; report = k.1 j };
        answers = λ h b p bytes x i.
            ap (λ (s : Stepped). said s.answer) (step-joins h b p bytes x i).0 ∙ said_of (join c.size h p bytes b).answer;
        still = still;
        done-taken = λ k. refl;
        done-repeat = λ k. refl;
        done_refused = λ k. refl;
      }
