-- SPDX-License-Identifier: MPL-2.0
-- The payload writers in words: what is known of words and buffers that are right.
use Rattle.laws.proofs.Kit.{ℕ, ◌≤◌, ◌≡◌, refl, sym, ◌∙◌, Bool, true, false, eqb, eqb-true, ltb, ltb-false, not, not-false, ◌||◌}
use Rattle.laws.proofs.Bools.{or-false}
use Rattle.payloads.specs.declared.reading.Request.{Request}
use Rattle.writer.specs.Payload.{response_values}
use Rattle.hub_c.specs.Payload.{nonce_size, coordinate_size, wrong_words, wrong_exchange, wrong_presence}

-- Words that have room in their fields, and a buffer for the length.
pub words_right : (size mode code : ℕ) → wrong_words size mode code ≡ false → (size ≡ 1) × (mode ≤ 65535) × (code ≤ 255)
unfolding wrong_words
words_right size mode code e =
    let all = or-false (not (eqb size 1) || ltb 65535 mode) (ltb 255 code) e in
    let two = or-false (not (eqb size 1)) (ltb 65535 mode) all.0 in
    (eqb-true size 1 (not-false _ two.0), ltb-false _ _ two.1, ltb-false _ _ all.1)

-- Nonce, X and Y of their sizes.
pub exchange-right : (nonce x y : ℕ) → wrong_exchange nonce x y ≡ false → (nonce ≡ nonce_size) × (x ≡ coordinate_size) × (y ≡ coordinate_size)
unfolding wrong_exchange
exchange-right nonce x y e =
    let all = or-false (not (eqb nonce 8) || not (eqb x 32)) (not (eqb y 32)) e in
    let two = or-false (not (eqb nonce 8)) (not (eqb x 32)) all.0 in
    (eqb-true nonce 8 (not-false _ two.0), eqb-true x 32 (not-false _ two.1), eqb-true y 32 (not-false _ all.1))

-- The same, past a test that begins with it.
pub words-tested : (a t : Bool) (size mode code : ℕ) → a ≡ wrong_words size mode code → (a || t) ≡ false → (size ≡ 1) × (mode ≤ 65535) × (code ≤ 255)
words-tested a t size mode code e h = words_right size mode code (sym e ∙ (or-false a t h).0)

-- Past a test that ends with it.
pub exchange-tested : (a b : Bool) (nonce x y : ℕ) → b ≡ wrong_exchange nonce x y → (a || b) ≡ false
    → (nonce ≡ nonce_size) × (x ≡ coordinate_size) × (y ≡ coordinate_size)
exchange-tested a b nonce x y e h = exchange-right nonce x y (sym e ∙ (or-false a b h).1)

-- Only a response that is Pending looks at nonce, X and Y.
pub response-values : (pending : Bool) (mode result : ℕ) (r s : Request) → (pending ≡ true → r ≡ s)
    → response_values pending mode result r ≡ response_values pending mode result s
response-values true mode result r s e = rw (e refl)
response-values false mode result r s e = refl

-- A device type that has room in its field, past a test that ends with it.
pub presence-tested : (a b : Bool) (device salt hash : ℕ) → b ≡ wrong_presence device salt hash → (a || b) ≡ false → device ≤ 65535
unfolding wrong_presence
presence-tested a b device salt hash e h =
    let all = or-false (ltb 65535 device || not (eqb salt 4)) (not (eqb hash 4)) (sym e ∙ (or-false a b h).1) in
    ltb-false _ _ (or-false (ltb 65535 device) (not (eqb salt 4)) all.0).0
