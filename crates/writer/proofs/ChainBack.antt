-- SPDX-License-Identifier: MPL-2.0
-- A chain is the same whatever stands after it, so one that the writer accepts is read back.
use Rattle.laws.proofs.Kit.{ℕ, zero, suc, ◌+◌, ◌≡◌, refl, ap, false, true≢false, not, List, [], ◌∷◌, ◌++◌, length, drop, length-append, eqb, ltb}
use Rattle.laws.proofs.Kit.{eqb-true, le-ltb, ltb-false, not-false, zero-add, arith}
use lib.Seq.{drop-append-le}
use Rattle.laws.proofs.Bools.{or-false}
use Rattle.laws.proofs.Cases.{on}
use Rattle.wire.specs.Chain.{entry_of, follow, chain, read_chain, most_entries, leaves, is_broken, bad_chain}
use Rattle.std.specs.Prelude.{Option, Some, None}
use Rattle.wire.specs.declared.chain.FoundChain.{FoundChain}
use Rattle.wire.specs.declared.chain.Entry.{Entry}
use Rattle.wire.specs.declared.chain.Entry.TheVariants.{End, Spans, Wrong}
use Rattle.wire.proofs.Chains.{spans-within, end-within}

-- A chain that leaves n bytes after it.
abbrev pub leaving : ℕ → Option FoundChain
leaving n = Some (record { leaves = n })

module _ (rest : List ℕ) where
  -- An entry that breaks no chain.
  entry-append : (m : List ℕ) (next : List ℕ → Option FoundChain) → is_broken (follow (entry_of m) m next) ≡ false → entry_of (m ++ rest) ≡ entry_of m
  unfolding entry_of
  entry-append [] next b = absurd (true≢false b)
  entry-append (x ∷ []) next b = absurd (true≢false b)
  entry-append (x ∷ y ∷ m) next b =
      let n = length (x ∷ y ∷ m) in
      let k = length (x ∷ y ∷ (m ++ rest)) in
      let all : k ≡ 2 + length m + length rest = rw length-append (omega arith) in
      let p = le-ltb n 2 (omega arith) in
      rw (p, le-ltb k 2 (omega arith)) (on (eqb x 0) (λ z. rw z) λ z. on (ltb 3 x) (λ f. rw (z, f)) λ f. on (ltb n (2 + y))
      (λ l. absurd (true≢false (rw (p, z, f, l) at b)))
      λ l. rw (z, f, l, le-ltb k (2 + y) (omega (arith, ltb-false n (2 + y) l))))

  follow-append : (m : List ℕ) (e : Entry) (next : List ℕ → Option FoundChain) → entry_of m ≡ e
      → ((r : List ℕ) → is_broken (next r) ≡ false → next (r ++ rest) ≡ leaving (leaves (next r) + length rest))
      → is_broken (follow e m next) ≡ false → follow e (m ++ rest) next ≡ leaving (leaves (follow e m next) + length rest)
  follow-append m Wrong next p ih b = absurd (true≢false b)
  follow-append m End next p ih b = let long = end-within m p in ap leaving (rw length-append (omega arith))
  follow-append m (Spans n) next p ih b = rw (drop-append-le n m rest (spans-within m p).1) (ih (drop n m) b)

  chain-append : (left : ℕ) (m : List ℕ) → is_broken (chain left m) ≡ false → chain left (m ++ rest) ≡ leaving (leaves (chain left m) + length rest)
  unfolding chain
  chain-append zero m b = rw (entry-append m (λ r. None) b) (follow-append m (entry_of m) (λ r. None) refl (λ r p. absurd (true≢false p)) b)
  chain-append (suc left) m b = rw (entry-append m (chain left) b) (follow-append m (entry_of m) (chain left) refl (chain-append left) b)

  -- A chain that the writer accepts is read back, and leaves what stands after it.
  pub chain_back : (given : List ℕ) → bad_chain given ≡ false → read_chain (given ++ rest) ≡ leaving (length rest)
  unfolding bad_chain read_chain
  chain_back given b =
      let t = or-false (is_broken (read_chain given)) (not (eqb (leaves (read_chain given)) 0)) b in
      rw (chain-append most_entries given t.0, eqb-true (leaves (read_chain given)) 0 (not-false _ t.1), zero-add)
