-- SPDX-License-Identifier: MPL-2.0
-- Stores step over the fields of a format, one field at a time, by a law for each kind of field: each puts a field where the one before it ends.
use Rattle.laws.proofs.Kit.{ℕ, ◌+◌, ◌≡◌, refl, Bool, List, [], ◌∷◌, ◌++◌, length, sets}
use mathlib.Core.List.{flat_map}
use Rattle.laws.specs.Bytes.{bytes16, bytes32}
use Rattle.laws.proofs.Stores.{stored-twice}
use Rattle.payloads.specs.Format.{Width, one, ◌then◌, width_of, number_bytes, Format, Values, ◌and◌, write}
use Rattle.payloads.specs.Format.{end, fixed, free, array, sized, counted}
use Rattle.payloads.specs.Shapes.{of_type, exchange, device_authentication, presence_response}
use Rattle.payloads.specs.declared.reading.Request.{Request}
use Rattle.writer.specs.Payload.{exchange_values}
use Rattle.payloads.proofs.Widths.{length-number_bytes}

pub put-end : (at : ℕ) (l : List ℕ) → l ≡ sets l at (write end tt)
unfolding write
put-end at l = refl

module _ (at : ℕ) (l : List ℕ) (f : Format) (v : Values f) {m r : List ℕ} where
  pub put-fixed : (w : Width) (n : ℕ) → m ≡ sets l at (number_bytes w n) → r ≡ sets m (at + width_of w) (write f v)
      → r ≡ sets l at (write (fixed w n f) v)
  unfolding write
  put-fixed w n p q = stored-twice (number_bytes w n) (write f v) l at (at + width_of w) p q (rw (length-number_bytes w n))

  pub put-free : (w : Width) (allowed : ℕ → Bool) (x : ℕ) → m ≡ sets l at (number_bytes w x) → r ≡ sets m (at + width_of w) (write f v)
      → r ≡ sets l at (write (free w allowed f) (x and v))
  unfolding write
  put-free w allowed x p q = stored-twice (number_bytes w x) (write f v) l at (at + width_of w) p q (rw (length-number_bytes w x))

  pub put-array : (size : ℕ) (b : List ℕ) → (m ≡ sets l at b) × (length b ≡ size) → r ≡ sets m (at + size) (write f v)
      → r ≡ sets l at (write (array size f) (b and v))
  unfolding write
  put-array size b p q = stored-twice b (write f v) l at (at + size) p.0 q (rw p.1)

  -- A number before bytes: that of the bytes themselves, or of the entries that they are.
  put-after-number : (w : Width) (n : ℕ) (b : List ℕ) {k : List ℕ} → k ≡ sets l at (number_bytes w n) → m ≡ sets k (at + width_of w) b
      → r ≡ sets m (at + width_of w + length b) (write f v) → r ≡ sets l at (number_bytes w n ++ (b ++ write f v))
  put-after-number w n b {k} o p q =
      let next = at + width_of w in
      stored-twice (number_bytes w n) _ l at next o (stored-twice b (write f v) k next _ p q refl) (rw (length-number_bytes w n))

  pub put-sized : (w : Width) (least most : ℕ) (b : List ℕ) {k : List ℕ} → k ≡ sets l at (number_bytes w (length b)) → m ≡ sets k (at + width_of w) b
      → r ≡ sets m (at + width_of w + length b) (write f v) → r ≡ sets l at (write (sized w least most f) (b and v))
  unfolding write
  put-sized w least most b o p q = put-after-number w (length b) b o p q

  pub put-counted : (w : Width) (most : ℕ) (entry : Format) (vs : List (Values entry)) {k : List ℕ} → let b = flat_map (write entry) vs in
      k ≡ sets l at (number_bytes w (length vs)) → m ≡ sets k (at + width_of w) b → r ≡ sets m (at + width_of w + length b) (write f v)
      → r ≡ sets l at (write (counted w most entry f) (vs and v))
  unfolding write
  put-counted w most entry vs o p q = put-after-number w (length vs) (flat_map (write entry) vs) o p q

-- Mode, type and the byte after it.
put-code : (l : List ℕ) (f : Format) (v : Values f) {m r : List ℕ} (mode connect code : ℕ) → m ≡ sets l 0 (bytes16 mode ++ (connect ∷ code ∷ []))
    → r ≡ sets m 4 (write f v) → r ≡ sets l 0 (write (of_type connect (fixed one code then f)) (mode and v))
unfolding write
put-code l f v mode connect code p q = stored-twice (bytes16 mode ++ (connect ∷ code ∷ [])) (write f v) l 0 4 p q refl

-- The stores of a payload that carries nonce, X and Y.
pub stored_exchange : (mode connect code : ℕ) (r : Request) (l : List ℕ) → length r.nonce ≡ 8 → length r.x ≡ 32 → length r.y ≡ 32
    → let start = sets l 0 (bytes16 mode ++ (connect ∷ code ∷ [])) in
    let nonce = sets (sets start 4 (bytes16 32)) 6 r.nonce in
    let x = sets (sets (sets nonce 14 (bytes32 16384)) 18 (bytes16 32)) 20 r.x in
    sets (sets x 52 (bytes16 32)) 54 r.y ≡ sets l 0 (write (of_type connect (fixed one code then exchange)) (exchange_values mode r))
stored_exchange mode connect code r l n x y =
    put-code _ _ _ _ _ _ refl (put-fixed _ _ _ _ _ _ refl (put-array _ _ _ _ _ _ (refl, n)
    (put-fixed _ _ _ _ _ _ refl (put-fixed _ _ _ _ _ _ refl (put-array _ _ _ _ _ _ (refl, x)
    (put-fixed _ _ _ _ _ _ refl (put-array _ _ _ _ _ _ (refl, y) (put-end _ _))))))))

-- The stores of a Device Authentication payload.
pub stored_device : (mode connect : ℕ) (c t l : List ℕ)
    → let start = sets (sets l 0 (bytes16 mode)) 2 (connect ∷ []) in
    let certificate = sets (sets start 3 (bytes16 (length c))) 5 c in
    sets (sets certificate (5 + length c) (bytes16 (length t))) (5 + length c + 2) t
    ≡ sets l 0 (write device_authentication (mode and connect and c and t and tt))
stored_device mode connect c t l =
    put-free _ _ _ _ _ _ _ refl (put-free _ _ _ _ _ _ _ refl
    (put-sized _ _ _ _ _ _ _ _ refl refl (put-sized _ _ _ _ _ _ _ _ refl refl (put-end _ _))))

-- The stores of a Presence Response.
pub stored_presence : (mode device : ℕ) (name salt hash l : List ℕ) → length salt ≡ 4 → length hash ≡ 4
    → let start = sets (sets (sets l 0 (1 ∷ [])) 1 (bytes16 mode)) 3 (bytes16 device) in
    let named = sets (sets start 5 (bytes16 (length name))) 7 name in
    sets (sets named (7 + length name) salt) (7 + length name + 4) hash
    ≡ sets l 0 (write presence_response (mode and device and name and salt and hash and tt))
stored_presence mode device name salt hash l s h =
    put-fixed _ _ _ _ _ _ refl (put-free _ _ _ _ _ _ _ refl (put-free _ _ _ _ _ _ _ refl
    (put-sized _ _ _ _ _ _ _ _ refl refl (put-array _ _ _ _ _ _ (refl, s) (put-array _ _ _ _ _ _ (refl, h) (put-end _ _))))))
