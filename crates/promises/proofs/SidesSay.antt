-- SPDX-License-Identifier: MPL-2.0
-- What the letters of two sides say. An enrolment has three requests and three replies, by their places: 0, 1 and 2. The state of a side is how many
-- it has taken: the one at its state's place is taken, one before it is Again.
use Rattle.laws.proofs.Kit.{ℕ, ◌+◌, ◌≤◌, ◌<◌, ◌≡◌, refl, sym, ◌∙◌, false, cond, List, eqb, eqb-true, eqb-false}
use Rattle.laws.proofs.Kit.{arith}
use Rattle.laws.proofs.Cases.{on}
use Rattle.payloads.specs.Reading.{connect_type, code_of, read_request}
use Rattle.admission.specs.Calls.{Call}
use Rattle.hub.specs.Hear.{certificate}
use Rattle.hub.specs.Calls.{after}
use Rattle.promises.specs.Enrolment.{Content}
use Rattle.promises.specs.TwoSides.{Sides, Letter, Asks, connection-request, device-request, done-request, Replies, connection-response}
use Rattle.promises.specs.TwoSides.{device-response, done-response, Given}
use Rattle.promises.proofs.FieldsBack.{fields_back}
use Rattle.promises.proofs.ReadBack.{reads-back}
use Rattle.wire.specs.Fields.{is_sealed}
use Rattle.promises.specs.Written.{ReadAs}
use Rattle.promises.proofs.ReadBack.{reads_plain}

-- The types of the requests, and of the replies to them.
abbrev pub request_type : ℕ → ℕ
request_type k = cond (eqb k 0) 0 (cond (eqb k 1) 2 6)

abbrev pub reply_type : ℕ → ℕ
reply_type k = request_type k + 1

-- By the place.
pub three : (G : ℕ → Type 0) → G 0 → G 1 → G 2 → (k : ℕ) → k < 3 → G k
three G a b c k l =
    on (eqb k 0) (λ e. rw (eqb-true k 0 e) a)
    (λ e. on (eqb k 1) (λ f. rw (eqb-true k 1 f) b) (λ f. let z = eqb-false k 0 e in let o = eqb-false k 1 f in rw (two z o) c))
  where
    two : (k ≡ 0 → ⊥) → (k ≡ 1 → ⊥) → k ≡ 2
    two z o = omega arith

-- Numbers that are tested to differ.
unequal : {A : Type 0} (t a b : ℕ) → eqb a b ≡ false → t ≡ a → t ≡ b → A
unequal t a b n e f = absurd (eqb-false a b n (sym e ∙ f))

-- What a request's payload says.
pub record Asked (s : Sides) (type : ℕ) (p : List ℕ) : Type 0 where
  pub is : connect_type p ≡ type
  pub request : type ≡ 0 → read_request p ≡ s.exchange
  pub shown : type ≡ 2 → certificate p ≡ s.certificate

pub asks : (s : Sides) (type : ℕ) (p : List ℕ) → Asks s type p → Asked s type p
asks s type p (connection-request e mode w) =
    let f = fields_back.connection-request mode s.exchange p w in
    record { is = f.2 ∙ sym e; request = λ z. f.3; shown = unequal type 0 2 refl e }
asks s type p (device-request e mode thumbprint w) =
    let f = fields_back.device-authentication 2 mode s.certificate thumbprint p w in
    record { is = f.2 ∙ sym e; request = unequal type 2 0 refl e; shown = λ z. f.3 }
asks s type p (done-request e mode w) =
    let f = fields_back.done-request mode p w in
    record { is = f.2 ∙ sym e; request = unequal type 6 0 refl e; shown = unequal type 6 2 refl e }

-- What a reply's payload says.
pub record Replied (type : ℕ) (p : List ℕ) : Type 0 where
  pub is : connect_type p ≡ type
  pub pending : type ≡ 1 → code_of p ≡ 1
  pub success : type ≡ 7 → code_of p ≡ 0

pub replies : (type : ℕ) (p : List ℕ) → Replies type p → Replied type p
replies type p (connection-response e mode own w) =
    let f = fields_back.connection-response mode 1 own p w in
    record { is = f.2 ∙ sym e; pending = λ z. f.3; success = unequal type 1 7 refl e }
replies type p (device-response e mode certificate thumbprint w) =
    let f = fields_back.device-authentication 3 mode certificate thumbprint p w in
    record { is = f.2 ∙ sym e; pending = unequal type 3 1 refl e; success = unequal type 3 7 refl e }
replies type p (done-response e mode w) =
    let f = fields_back.done-response mode 0 p w in
    record { is = f.2 ∙ sym e; pending = unequal type 7 1 refl e; success = λ z. f.3 }

-- A state that has gone past place k: on by one if it stood there, else where it was.
pub record Past (k before after : ℕ) : Type 0 where
  pub past : k < after
  pub up : before ≤ after
  pub bound : (n : ℕ) → before ≤ n → k < n → after ≤ n

pub onward : (k before after : ℕ) → before ≡ k → after ≡ k + 1 → Past k before after
onward k before after e f = record { past = omega arith; up = omega arith; bound = λ n l m. omega arith }

pub stood : (k before after : ℕ) → k < before → after ≡ before → Past k before after
stood k before after l e = record { past = omega arith; up = omega arith; bound = λ n h m. omega arith }

-- The letter of a call is read, by the keys if it is sealed.
pub letter-read : (s : Sides) (l : Letter s) (x : Call) → Given s l x → ReadAs l.header l.payload x.message x.keys x.working
letter-read s l x g =
    rw g.message
    (on (is_sealed l.header.flags)
    (λ e. rw (g.keys e) (reads-back l.header l.chain l.payload s.keys l.message l.written x.working g.room))
    (λ e. reads_plain l.header l.chain l.payload s.keys l.message l.written x.keys x.working e))

abbrev pub content : (s : Sides) (l : Letter s) (x : Call) → Given s l x → Content x
content s l x g = record { header = l.header; payload = l.payload; reads = letter-read s l x g }
