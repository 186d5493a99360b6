-- SPDX-License-Identifier: MPL-2.0
-- What a call answers is in document 01's tables. A number that it refuses with is a row's, and a byte by which an answer names a message is the
-- number of a type: so the case of `Refusal` that `Refused::refusal` gives, and the case of `ConnectType` that is made of the byte, has the number
-- that was answered.
use Rattle.std.specs.Prelude.{ℕ, ◌≡◌, List, length, Bool, Some, IfErr}
use Rattle.laws.specs.Rows.{first, unless}
use Rattle.wire.specs.Refusals.{IsRow}
use Rattle.wire.specs.Reader.{read_header}
use Rattle.wire.specs.declared.header.Header.{Header}
use Rattle.payloads.specs.Types.{connect_number}
use Rattle.payloads.specs.declared.types.ConnectType.{ConnectType}
use Rattle.payloads.specs.Connect.{read_connect}
use Rattle.payloads.specs.Discovery.{read_discovery}
use Rattle.writer.specs.Written.{written}
use Rattle.seal.specs.Opening.{key_rows, open_refusal}
use Rattle.seal.specs.Sealed.{seal_refusal}
use Rattle.message.specs.Reading.{read_message}
use Rattle.message.specs.Writing.{write_answer}
use Rattle.joining.specs.declared.Arrival.TheVariants.{Refused as refusedPiece}
use Rattle.joining.specs.declared.Piece.{Piece}
use Rattle.joining.specs.declared.Progress.{Progress}
use Rattle.joining.specs.Cut.{cutting}
use Rattle.joining.specs.Join.{join}
use Rattle.admission.specs.Admission.{admit}
use Rattle.admission.specs.Calls.{Call}
use Rattle.hub.specs.declared.Answer.TheVariants.{Refused, Reply, Again}
use Rattle.hub.specs.Calls.{Standing, answer}
use Rattle.gateway.specs.declared.Gateway.{Gateway}
use Rattle.gateway.specs.declared.Answer.TheVariants as client
use Rattle.gateway.specs.Answers.{due_in}
use Rattle.gateway.specs.Calls as gateway

-- "A refusal carries its number from document 01's table".
pub record RefusedByRows : Type 0 where
  -- Readers, of a header, a message and a payload;
  pub header : (m : List ℕ) → IfErr (read_header m) IsRow
  pub message : (m keys : List ℕ) (room : ℕ) → IfErr (read_message m keys room) IsRow
  pub connect : (p : List ℕ) → IfErr (read_connect p) IsRow
  pub discovery : (p : List ℕ) → IfErr (read_discovery p) IsRow
  -- writers, of a message, and of a header and each payload;
  pub write : (h : Header) (chain payload : List ℕ) (keys room : ℕ) → IfErr (write_answer h chain payload keys room) IsRow
  pub write-part : (bad : Bool) (size : ℕ) (out : List ℕ) → IfErr (written bad size out) IsRow
  -- keys, opening and sealing;
  pub keys : (keys : List ℕ) → IfErr (unless (first (key_rows (length keys))) keys) IsRow
  pub opening : (keys m : List ℕ) (start room : ℕ) → IfErr (unless (open_refusal keys m start room) (tt {0})) IsRow
  pub sealing : (keys start size room : ℕ) → IfErr (unless (seal_refusal keys start size room) (tt {0})) IsRow
  -- cutting and joining;
  pub cut : (F bytes i : ℕ) → IfErr (cutting F bytes i) IsRow
  pub join : (F : ℕ) (held : Progress) (piece : Piece) (bytes report : List ℕ) (n : ℕ)
      → (join F held piece bytes report).answer ≡ refusedPiece n → IsRow n
  -- and the steps of both roles, with what comes before their states.
  pub admit : (size verdict : ℕ) (m keys : List ℕ) (room : ℕ) → IfErr (admit size verdict m keys room) IsRow
  pub step : (p : Standing) (x : Call) (n : ℕ) → answer p x ≡ Refused n → IsRow n
  pub gateway-step : (g : Gateway) (x : Call) (n : ℕ) → gateway.answer g x ≡ client.Refused n → IsRow n

-- A type of Connect has this number.
pub record IsType (n : ℕ) : Type 0 where
  pub type : ConnectType
  pub number : connect_number type ≡ n

-- "A reply is its type named in the answer"; so is the request that comes next, and the one that is due.
pub record NamedByTypes : Type 0 where
  pub reply : (p : Standing) (x : Call) (n : ℕ) → answer p x ≡ Reply n → IsType n
  pub again : (p : Standing) (x : Call) (n : ℕ) → answer p x ≡ Again n → IsType n
  pub next : (g : Gateway) (x : Call) (n : ℕ) → gateway.answer g x ≡ client.Next n → IsType n
  pub gateway-again : (g : Gateway) (x : Call) (n : ℕ) → gateway.answer g x ≡ client.Again (Some n) → IsType n
  pub due : (state n : ℕ) → due_in state ≡ Some n → IsType n
