-- SPDX-License-Identifier: MPL-2.0
-- Laws of `chain`: by the entry at its start, and how long it is.
use Rattle.laws.proofs.Kit.{ℕ, zero, suc, ◌+◌, ◌-◌, ◌≤◌, ◌<◌, ◌≡◌, refl, sym, ◌∙◌, false, true≢false, not, List, length, take, drop, length-take}
use Rattle.laws.proofs.Kit.{length-drop, eqb, ltb, ltb-false, arith}
use Rattle.laws.specs.Bytes.{be8}
use Rattle.laws.proofs.Lists.{part-from}
use Rattle.laws.proofs.Cases.{on}
use Rattle.laws.proofs.Bools.{or-false}
use native.Mathlib.Numerals.{sub-one}
use Rattle.wire.specs.Chain.{entry_of, follow, chain, read_chain, most_entries, leaves, is_broken, bad_chain}
use Rattle.wire.specs.Reader.{room_of}
use Rattle.std.specs.Prelude.{Option, Some, None}
use Rattle.wire.specs.declared.chain.FoundChain.{FoundChain}
use Rattle.wire.specs.declared.chain.Entry.{Entry}
use Rattle.wire.specs.declared.chain.Entry.TheVariants.{End, Spans, Wrong}

-- What follows an entry: a chain with one entry less before its end, or none where that is no more.
abbrev after : ℕ → List ℕ → Option FoundChain
after zero m = None
after (suc left) m = chain left m

chain-at : (left : ℕ) (m : List ℕ) {e : Entry} → entry_of m ≡ e → chain left m ≡ follow e m (after left)
unfolding chain
chain-at zero m p = rw p
chain-at (suc left) m p = rw p

after_less : (left : ℕ) (m : List ℕ) → (left ≡ 0 → ⊥) → after left m ≡ chain (left - 1) m
after_less zero m z = absurd (z refl)
after_less (suc left) m z = rw sub-one

-- An entry lies within k bytes.
abbrev entry_within : Entry → ℕ → Type 0
entry_within End k = 2 ≤ k
entry_within (Spans n) k = (2 ≤ n) × (n ≤ k)
entry_within Wrong k = Unit

-- What `entry_of` finds lies within the bytes.
within : (m : List ℕ) → entry_within (entry_of m) (length m)
unfolding entry_of
within m =
    on (ltb (length m) 2) (λ p. rw p tt)
    (λ p. on (eqb (be8 m 0) 0) (λ q. on (eqb (be8 m 1) 0) (λ r. rw (p, q, r) (ltb-false (length m) 2 p)) (λ r. rw (p, q, r) tt))
    (λ q. on (ltb 3 (be8 m 0)) (λ r. rw (p, q, r) tt)
    (λ r. on (ltb (length m) (2 + be8 m 1)) (λ s. rw (p, q, r, s) tt)
    (λ s. rw (p, q, r, s) (omega arith, ltb-false (length m) (2 + be8 m 1) s)))))

pub spans-within : (m : List ℕ) {n : ℕ} → entry_of m ≡ Spans n → (2 ≤ n) × (n ≤ length m)
spans-within m p = rw p at (within m)

pub end-within : (m : List ℕ) → entry_of m ≡ End → 2 ≤ length m
end-within m p = rw p at (within m)

-- The walk at m, by the entry e that was read there: where it stops, what it answers; where it goes on, what is left falls.
module _ (left : ℕ) (m : List ℕ) (e : Entry) (read : e ≡ entry_of m) where
  pub walk-wrong : e ≡ Wrong → None ≡ chain left m
  walk-wrong p = rw (chain-at left m (sym read ∙ p))

  pub walk_end : e ≡ End → Some (record { leaves = length m - 2 }) ≡ chain left m
  walk_end p = rw (chain-at left m (sym read ∙ p))

  pub walk-full : (n : ℕ) → e ≡ Spans n → left ≡ 0 → None ≡ chain left m
  walk-full n p z = rw (chain-at left m (sym read ∙ p), z)

  pub walk-on : (n : ℕ) (r : Option FoundChain) → e ≡ Spans n → (left ≡ 0 → ⊥) → r ≡ chain (left - 1) (take (length m - n) (drop n m)) → r ≡ chain left m
  walk-on n r p z q = rw (chain-at left m (sym read ∙ p), after_less left (drop n m) z, ← part-from m n) q

module _ (m : List ℕ) (e : Entry) (read : e ≡ entry_of m) where
  pub end_fits : e ≡ End → 2 ≤ length m
  end_fits p = end-within m (sym read ∙ p)

  pub span_fits : (n : ℕ) → e ≡ Spans n → n ≤ length m
  span_fits n p = (spans-within m (sym read ∙ p)).1

-- Where the tag reaches into the fixed header there is no room, and so no chain.
pub no_room : (m : List ℕ) (tag : ℕ) → length m < 40 + tag → read_chain (room_of tag m) ≡ None
unfolding read_chain most_entries chain entry_of room_of
no_room m tag h = let z : length m - tag - 40 ≡ 0 = omega arith in rw z

-- A chain is two bytes at least: its end.
followed : (m : List ℕ) (e : Entry) (next : List ℕ → Option FoundChain) → entry_of m ≡ e
    → ((rest : List ℕ) → is_broken (next rest) ≡ false → leaves (next rest) + 2 ≤ length rest)
    → is_broken (follow e m next) ≡ false → leaves (follow e m next) + 2 ≤ length m
followed m Wrong next p h b = absurd (true≢false b)
followed m End next p h b = omega (arith, end-within m p)
followed m (Spans n) next p h b = omega (arith, h (drop n m) b, length-drop n m)

leaves-less : (left : ℕ) (m : List ℕ) → is_broken (chain left m) ≡ false → leaves (chain left m) + 2 ≤ length m
unfolding chain
leaves-less zero m b = followed m (entry_of m) (after zero) refl (λ rest p. absurd (true≢false p)) b
leaves-less (suc left) m b = followed m (entry_of m) (chain left) refl (leaves-less left) b

-- Fixed header, chain, what it leaves, tag: all lies within the message.
pub room-left : (tag : ℕ) (m : List ℕ) → is_broken (read_chain (room_of tag m)) ≡ false → leaves (read_chain (room_of tag m)) + 42 + tag ≤ length m
unfolding room_of read_chain
room-left tag m b =
    omega (arith, leaves-less most_entries (room_of tag m) b, length-take (length m - tag - 40) (drop 40 m))

-- A chain that the writer accepts has its end at least.
pub chain-long : (given : List ℕ) → bad_chain given ≡ false → 2 ≤ length given
unfolding bad_chain read_chain
chain-long given b =
    omega (arith, leaves-less most_entries given (or-false (is_broken (read_chain given)) (not (eqb (leaves (read_chain given)) 0)) b).0)
