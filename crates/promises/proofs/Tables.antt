-- SPDX-License-Identifier: MPL-2.0
-- What is answered is in its table: of a table of rows by their numbers, of a step by the way that it went.
use Rattle.laws.proofs.Kit.{ℕ, ◌≤◌, refl, true, false, List, [], ◌∷◌, ◌++◌, length, eqb, eqb-false, ltb, arith}
use Rattle.std.specs.Option.{option_map}
use Rattle.std.specs.Prelude.{Bool, Option, Some, None, Result, Ok, Err, IfErr}
use Rattle.laws.proofs.Cases.{on}
use Rattle.laws.proofs.Firsts.{first-up_to}
use Rattle.laws.specs.Rows.{first, or_else, unless}
use Rattle.wire.specs.Refusals.{refusals, IsRow, wrong_payload, no_room}
use Rattle.wire.specs.Reader.{read_header, refusal_of, refusal_with, rows_of, header_rows, header_of, chain_of, header_found}
use Rattle.wire.specs.declared.header.Header.{Header}
use Rattle.wire.specs.declared.header.FoundHeader.{FoundHeader}
use Rattle.wire.specs.Fields.{is_sealed}
use Rattle.wire.proofs.Rows.{row-is, unless-row, table-row}
use Rattle.payloads.specs.Types.{connect_number}
use Rattle.payloads.specs.declared.types.ConnectType.{ConnectType}
use Rattle.payloads.specs.declared.types.ConnectType.TheVariants.{ConnectionRequest, ConnectionResponse, DeviceRequest, DeviceResponse}
use Rattle.payloads.specs.declared.types.ConnectType.TheVariants.{DoneRequest, DoneResponse}
use Rattle.payloads.specs.Shapes.{bad_payload}
use Rattle.payloads.specs.Connect.{read_connect, not_connect}
use Rattle.payloads.specs.Discovery.{read_discovery}
use Rattle.writer.specs.Written.{written, put_refusal}
use Rattle.seal.specs.Opening.{no_part, no_part_rows, key_rows, tag_rows, part_refusal, part_rows, sealed_part, open_refusal}
use Rattle.seal.specs.Sealed.{seal_refusal, seal_rows}
use Rattle.message.specs.Reading.{read_message, after_header, plain_read, sealed_read, payload_rows}
use Rattle.message.specs.Handed.{payload}
use Rattle.message.specs.Writing.{write_answer, write_refusal, write_rows, length_of}
use Rattle.message.specs.declared.reading.FoundMessage.{FoundMessage}
use Rattle.joining.specs.declared.Piece.{Piece}
use Rattle.joining.specs.declared.Progress.{Progress}
use Rattle.joining.specs.declared.Arrival.{Arrival}
use Rattle.joining.specs.Cut.{bad_size, cutting, cut_refusal, size_rows, piece_rows, piece_count}
use Rattle.joining.specs.Join.{join, join_refusal, join_rows}
use Rattle.joining.proofs.JoinWays.{join-cases}
use Rattle.admission.specs.Admission.{admit, on_read}
use Rattle.admission.specs.Calls.{Call}
use Rattle.hub.specs.declared.Connection.{Connection}
use Rattle.hub.specs.declared.Stepped.{Stepped}
use Rattle.hub.specs.declared.Answer.{Answer}
use Rattle.hub.specs.declared.Answer.TheVariants.{Refused, Reply, Again, Failure, Taken, Repeat, Complete}
use Rattle.hub.specs.Answers.{answer_of}
use Rattle.hub.specs.Host.{refuse}
use Rattle.hub.specs.Hear.{hear, piece_in}
use Rattle.hub.specs.Step.{step}
use Rattle.hub.specs.Calls.{Standing, answer}
use Rattle.hub.proofs.HostWays.{connect-cases}
use Rattle.hub.proofs.StepCases.{hear-cases}
use Rattle.gateway.specs.declared.Gateway.{Gateway}
use Rattle.gateway.specs.declared.Stepped.{Stepped as GatewayStepped}
use Rattle.gateway.specs.declared.Answer.{Answer as GatewayAnswer}
use Rattle.gateway.specs.declared.Answer.TheVariants as client
use Rattle.gateway.specs.Client.{refuse as gateway-refuse}
use Rattle.gateway.specs.Step.{step as gateway-step, hear as gateway-hear}
use Rattle.gateway.specs.Answers.{due_in}
use Rattle.gateway.specs.Calls as gateway
use Rattle.gateway.proofs.Ways.{hear-has}
use Rattle.promises.specs.Tables.{RefusedByRows, IsType, NamedByTypes}

-- ---- rows

abbrev rows : ℕ
rows = length refusals

-- Of two tables one after the other.
either-small : (n m : ℕ) → n ≤ rows → m ≤ rows → or_else n m ≤ rows
either-small n m a b = on (eqb n 0) (λ z. rw z b) (λ z. rw z a)

header-row : (m : List ℕ) → IfErr (read_header m) IsRow
unfolding read_header refusal_of refusal_with rows_of header_rows
header-row m = table-row (header_found m) (rows_of m (header_of m) (chain_of m)) refl

open-small : (keys m : List ℕ) (start room : ℕ) → open_refusal keys m start room ≤ rows
unfolding open_refusal no_part part_refusal
open-small keys m start room =
    either-small _ _ (first-up_to rows (no_part_rows (length m) start) refl)
    (either-small _ _ (first-up_to rows (key_rows (length keys) ++ tag_rows keys m) refl)
    (first-up_to rows (part_rows keys m (sealed_part m start) room) refl))

payload-small : (kind : ℕ) (sealed : Bool) (p : List ℕ) → first (payload_rows kind sealed p) ≤ rows
payload-small kind sealed p = first-up_to rows (payload_rows kind sealed p) refl

found-row : (m keys : List ℕ) (room : ℕ) (f : FoundHeader) → IfErr (after_header (Ok f) m keys room) IsRow
unfolding plain_read sealed_read
found-row m keys room f =
    on (is_sealed f.header.flags)
    (λ s. rw s (unless-row _ _ (either-small _ _ (open-small keys m f.start room) (payload-small f.header.kind true _))))
    (λ s. rw s (unless-row _ _ (payload-small f.header.kind false _)))

after-row : (m keys : List ℕ) (room : ℕ) (r : Result FoundHeader ℕ) → IfErr r IsRow → IfErr (after_header r m keys room) IsRow
after-row m keys room (Err n) w = w
after-row m keys room (Ok f) w = found-row m keys room f

message-row : (m keys : List ℕ) (room : ℕ) → IfErr (read_message m keys room) IsRow
unfolding read_message
message-row m keys room = after-row m keys room (read_header m) (header-row m)

connect-row : (p : List ℕ) → IfErr (read_connect p) IsRow
unfolding read_connect
connect-row p = on (not_connect p) (λ b. rw b refl) (λ b. rw b tt)

discovery-row : (p : List ℕ) → IfErr (read_discovery p) IsRow
unfolding read_discovery
discovery-row p = on (bad_payload 1 false p) (λ b. rw b refl) (λ b. rw b tt)

write-row : (h : Header) (chain p : List ℕ) (keys room : ℕ) → IfErr (write_answer h chain p keys room) IsRow
unfolding write_answer write_refusal
write-row h chain p keys room = table-row (length_of h chain p) (write_rows h chain p keys room) refl

part-row : (bad : Bool) (size : ℕ) (out : List ℕ) → IfErr (written bad size out) IsRow
unfolding written put_refusal
part-row bad size out = table-row size ((wrong_payload, bad) ∷ (no_room, ltb (length out) size) ∷ []) refl

seal-row : (keys start size room : ℕ) → IfErr (unless (seal_refusal keys start size room) (tt {0})) IsRow
unfolding seal_refusal
seal-row keys start size room = table-row (tt {0}) (seal_rows keys start size room) refl

cut-row : (F bytes i : ℕ) → IfErr (cutting F bytes i) IsRow
unfolding cut_refusal
cut-row F bytes i = table-row (piece_count F bytes) (size_rows F ++ piece_rows F bytes i) refl

admit-row : (size verdict : ℕ) (m keys : List ℕ) (room : ℕ) → IfErr (admit size verdict m keys room) IsRow
unfolding admit
admit-row size verdict m keys room =
    on (ltb 1 verdict) (λ t. rw t refl) (λ t. on (bad_size size) (λ z. rw (t, z) refl) (λ z. rw (t, z) (message-row m keys room)))

-- What a role answers, where it refuses with rows alone, and what it hears has the property too.
module _ {A : Type 0} (G : A → Type 0) (refused : ℕ → A) (heard : Header → List ℕ → A) (refuses : (n : ℕ) → IsRow n → G (refused n))
    (hears : (h : Header) (p : List ℕ) → G (heard h p)) where
  read-row : (m working : List ℕ) (r : Result FoundMessage ℕ) → IfErr r IsRow → G (on_read refused heard m working r)
  read-row m working (Err n) w = refuses n w
  read-row m working (Ok f) w = hears f.header (payload m working (Ok f))

-- ---- the hub's step

typed : (t : ConnectType) → IsType (connect_number t)
typed t = record { type = t; number = refl }

-- What is refused is a row's number, what is named a type's.
abbrev Tabled : Answer → Type 0
Tabled (Refused n) = IsRow n
Tabled (Reply n) = IsType n
Tabled (Again n) = IsType n
Tabled Failure = Unit {0}
Tabled (Taken k) = Unit {0}
Tabled (Repeat k) = Unit {0}
Tabled (Complete l k) = Unit {0}

-- A piece is refused with a row.
abbrev PieceTabled : Arrival → Type 0
PieceTabled a = Tabled (answer_of a)

join-tabled : (F : ℕ) (held : Progress) (piece : Piece) (bytes report : List ℕ) → PieceTabled (join F held piece bytes report).answer
unfolding join_refusal
join-tabled F held piece bytes report =
    join-cases F held piece bytes report (λ j b. PieceTabled j.answer)
    (λ z. row-is _ (omega (arith, eqb-false _ 0 z)) (first-up_to rows (join_rows F held piece bytes report) refl))
    (λ z k. tt) (λ z k d. tt) (λ z k d. tt)

hear-tabled : (c : Connection) (h : Header) (p report : List ℕ) (v : ℕ) → Tabled (hear c h p report v).answer
hear-tabled c h p report v =
    hear-cases c h p report v (λ s b. Tabled s.answer) (λ f. refl)
    (λ f k.
    connect-cases c h.session p v (λ s. Tabled s.answer) refl typed (λ t s. typed ConnectionResponse) (λ t s. typed DeviceResponse) (λ z. tt)
    (λ t s. typed DoneResponse))
    (λ f j. join-tabled c.size c.progress (piece_in h) p report) (λ f k j. refl)

step-tabled : (p : Standing) (x : Call) → Tabled (answer p x)
unfolding step
step-tabled p x =
    let c = p.connection in
    read-row (λ (s : Stepped). Tabled s.answer) (refuse c) (λ h q. hear c h q p.report x.verdict) (λ n w. w)
    (λ h q. hear-tabled c h q p.report x.verdict) x.message _ _ (admit-row c.size x.verdict x.message x.keys (length x.working))

-- ---- the gateway's

abbrev DueTabled : Option ℕ → Type 0
DueTabled (Some n) = IsType n
DueTabled None = Unit {0}

abbrev TabledByGateway : GatewayAnswer → Type 0
TabledByGateway (client.Refused n) = IsRow n
TabledByGateway (client.Next n) = IsType n
TabledByGateway client.Ready = Unit {0}
TabledByGateway client.Failed = Unit {0}
TabledByGateway (client.Again d) = DueTabled d

again-tabled : (d : Option ConnectType) → DueTabled (option_map connect_number d)
again-tabled (Some t) = typed t
again-tabled None = tt

gateway-tabled : (g : Gateway) (x : Call) → TabledByGateway (gateway.answer g x)
unfolding gateway-step
gateway-tabled g x =
    read-row (λ (s : GatewayStepped). TabledByGateway s.answer) (gateway-refuse g) (λ h p. gateway-hear g h p x.verdict) (λ n w. w)
    (λ h p.
    hear-has g (λ s. TabledByGateway s.answer) refl again-tabled tt (λ s. typed DeviceRequest) (λ s. typed DoneRequest) (λ s. tt) refl h p x.verdict)
    x.message _ _ (admit-row g.size x.verdict x.message x.keys (length x.working))

due-tabled : (state : ℕ) → DueTabled (due_in state)
due-tabled state =
    on (eqb state 0) (λ e. rw e (typed ConnectionRequest))
    (λ e.
    on (eqb state 1) (λ f. rw (e, f) (typed DeviceRequest))
    (λ f. on (eqb state 2) (λ k. rw (e, f, k) (typed DoneRequest)) (λ k. rw (e, f, k) tt)))

-- ---- the statements

pub refused-by-rows : RefusedByRows
refused-by-rows =
    record {
      header = header-row;
      message = message-row;
      connect = connect-row;
      discovery = discovery-row;
      write = write-row;
      write-part = part-row;
      keys = λ keys. table-row keys (key_rows (length keys)) refl;
      opening = λ keys m start room. unless-row (tt {0}) (open_refusal keys m start room) (open-small keys m start room);
      sealing = seal-row;
      cut = cut-row;
      join = λ F held piece bytes report n e. rw e at (join-tabled F held piece bytes report);
      admit = admit-row;
      step = λ p x n e. rw e at (step-tabled p x);
      gateway-step = λ g x n e. rw e at (gateway-tabled g x);
    }

pub named-by-types : NamedByTypes
named-by-types =
    record {
      reply = λ p x n e. rw e at (step-tabled p x);
      again = λ p x n e. rw e at (step-tabled p x);
      next = λ g x n e. rw e at (gateway-tabled g x);
      gateway-again = λ g x n e. rw e at (gateway-tabled g x);
      due = λ state n e. rw e at (due-tabled state);
    }
