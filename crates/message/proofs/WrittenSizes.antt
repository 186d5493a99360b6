-- SPDX-License-Identifier: MPL-2.0
-- A chain that the writer accepts has at most 8 × 257 + 2 bytes, and a payload at most 16,384.
use Rattle.laws.proofs.Kit.{ℕ, zero, suc, ◌+◌, ◌*◌, ◌≤◌, ◌≡◌, Bool, true, false, true≢false, not, ◌&&◌, ◌||◌, cond, List, length, drop}
use Rattle.laws.proofs.Kit.{length-drop, eqb, ltb, eqb-true, ltb-false, not-false, arith}
use Rattle.laws.specs.Bytes.{AreBytes, be8}
use Rattle.laws.proofs.Bools.{or-false, and-false-right}
use Rattle.laws.proofs.Cases.{on}
use Rattle.wire.specs.Fields.{bad_type}
use Rattle.wire.specs.Chain.{entry_of, follow, chain, read_chain, most_entries, leaves, is_broken, bad_chain}
use Rattle.payloads.specs.Shapes.{bad_payload}
use Rattle.payloads.proofs.Shaped.{shaped-short}
use Rattle.std.specs.Prelude.{Option, None}
use Rattle.wire.specs.declared.chain.FoundChain.{FoundChain}
use Rattle.wire.specs.declared.chain.Entry.{Entry}
use Rattle.wire.specs.declared.chain.Entry.TheVariants.{End, Spans, Wrong}
use Rattle.laws.proofs.ByteLists.{drop-bytes}

-- An entry that spans bytes of a chain spans at most 257.
abbrev spans_few : Entry → Type 0
spans_few End = Unit
spans_few (Spans n) = n ≤ 257
spans_few Wrong = Unit

either : (t : Bool) (x y : Entry) → spans_few x → spans_few y → spans_few (cond t x y)
either true x y p q = p
either false x y p q = q

entry-few : (m : List ℕ) → AreBytes m → spans_few (entry_of m)
unfolding entry_of
entry-few m w =
    either (ltb (length m) 2) _ _ tt
    (either (eqb (be8 m 0) 0) _ _ (either (eqb (be8 m 1) 0) _ _ tt tt)
    (either (ltb 3 (be8 m 0)) _ _ tt (either (ltb (length m) (2 + be8 m 1)) _ _ tt (omega (arith, w.at 1)))))

followed : (k : ℕ) (m : List ℕ) (e : Entry) (next : List ℕ → Option FoundChain) → 2 ≤ k → spans_few e
    → ((n : ℕ) → n ≤ 257 → is_broken (next (drop n m)) ≡ false → length m ≤ leaves (next (drop n m)) + k)
    → is_broken (follow e m next) ≡ false → length m ≤ leaves (follow e m next) + k
followed k m Wrong next two s h b = absurd (true≢false b)
followed k m End next two s h b = omega arith
followed k m (Spans n) next two s h b = h n s b

chain-few : (left : ℕ) (m : List ℕ) → AreBytes m → is_broken (chain left m) ≡ false → length m ≤ leaves (chain left m) + (257 * left + 2)
unfolding chain
chain-few zero m w b = followed 2 m (entry_of m) (λ rest. None) (omega arith) (entry-few m w) (λ n s p. absurd (true≢false p)) b
chain-few (suc left) m w b =
    followed (257 * suc left + 2) m (entry_of m) (chain left) (omega arith) (entry-few m w)
    (λ n s p. omega (arith, chain-few left (drop n m) (drop-bytes n m w) p, length-drop n m)) b

pub chain-short : (given : List ℕ) → AreBytes given → bad_chain given ≡ false → length given ≤ 2058
unfolding bad_chain read_chain most_entries
chain-short given w b =
    let t = or-false (is_broken (read_chain given)) (not (eqb (leaves (read_chain given)) 0)) b in
    let z : leaves (read_chain given) ≡ 0 = eqb-true _ 0 (not-false _ t.1) in
    omega (arith, chain-few 8 given w t.0)

module _ (p : List ℕ) where
  pub payload-short : (kind : ℕ) (sealed : Bool) → bad_type kind ≡ false → bad_payload kind sealed p ≡ false
      → (eqb kind 4 && ltb 16384 (length p)) ≡ false → length p ≤ 16384
  unfolding bad_type bad_payload
  payload-short kind sealed k b e =
      on (eqb kind 1 || eqb kind 2)
      (λ t. omega (arith, shaped-short p kind sealed (not-false _ (rw t at b))))
      (λ t.
      let other = or-false (eqb kind 1) _ t in
      ltb-false 16384 (length p) (and-false-right (eqb kind 4) _ e (not-false _ (rw (other.0, other.1) at k))))
