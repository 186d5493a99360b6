-- SPDX-License-Identifier: MPL-2.0
-- The words of the kit that most proofs use: numbers, equality, truth values, lists and their laws, tests, arithmetic.
pub use Prim.Native.Nat.{ℕ, zero, suc, ◌+◌, ◌-◌, ◌*◌, ◌/◌, ◌%◌, ◌^◌, min, ◌≤◌, ◌<◌}
pub use mathlib.Core.Path.{◌≡◌, refl, sym, ◌∙◌, ap, ap₂, subst}
pub use mathlib.Core.Bool.{Bool, true, false, true≢false, not, ◌&&◌, ◌||◌, cond, and-false}
pub use mathlib.Core.List.{List, [], ◌∷◌, ◌++◌, append-nil, append_assoc}
pub use lib.ListN.{length, take, drop, get_or, set, replicate, length-append, length-take, length-drop, length-set, length-replicate}
pub use lib.ListN.{get_or-eq_default as List·getD-eq-default, drop_of_length-le}
pub use lib.Seq.{sets, take_all, take_at, take-length, take-suc, length-take-le, drop_at, drop-length, drop-drop, get_or-take, get_or-set_same}
pub use lib.Seq.{get_or-set_other, take-append_seam}
pub use lib.Dec.{eqb, ltb, leb, lit<}
pub use borrow.Author.Tests.{eq-eqb, ne_eqb, eqb-true, eqb-false, lt-ltb, le-ltb, ltb-true, ltb-false, le-leb, lt-leb, leb-true, leb-false, not-false}
pub use native.Mathlib.Nat.{add-sub_cancel_left, add-zero, div-add-mod', le_of_suc-le-suc, mod-lt, not-suc-le-zero, zero-add}
pub use native.Mathlib.Numerals.{add-one}
pub use mathlib.Core.Logic.{inl, inr, ⊎_elim}
pub use lib.Bits.{bit_xor, xor_shr}
pub use native.Mathlib.Omega.{arith}
pub use borrow.Author.Rules.{rules}
