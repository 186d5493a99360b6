-- SPDX-License-Identifier: MPL-2.0
-- What the rules of cutting come to: places and lengths of the pieces, over any number of them.
use Rattle.laws.proofs.Kit.{ℕ, zero, suc, ◌+◌, ◌-◌, ◌*◌, ◌/◌, min, ◌≤◌, ◌<◌, ◌≡◌, refl, ap, false, List, ◌++◌, length, length-take, length-drop, eqb}
use Rattle.laws.proofs.Kit.{ltb, leb, eqb-false, ltb-false, leb-false, arith}
use native.Mathlib.Nat.{div-lt_iff_lt-mul, le-div_iff_mul-le, mul-le-mul, le_of_lt}
use lib.Dec.{eqb-suc-zero}
use Rattle.laws.specs.Parts.{part}
use Rattle.laws.proofs.Bools.{or-false}
use Rattle.std.specs.Prelude.{Ok}
use Rattle.laws.proofs.Firsts.{row-false}
use Rattle.laws.proofs.Refusals.{passed}
use Rattle.wire.specs.Fields.{most_pieces}
use Rattle.wire.specs.Refusals.{wrong_fragment_size, wrong_piece}
use Rattle.joining.specs.Heard.{most}
use Rattle.joining.specs.Cut.{bad_size, piece_count, size_rows, piece_rows, cut_refusal, cutting}

-- L bytes cut into n pieces of F, n at most N: there is a piece, a byte follows each but the last, and the last is not over F.
pub record Cut (F N n L : ℕ) : Type 0 where
  pub pos : 0 < F
  pub some : 0 < n
  pub most : n ≤ N
  pub full : (i : ℕ) → i + 1 < n → F * i + F < L
  pub enough : L ≤ F * n

pub cuts : (F N L : ℕ) → 0 < F → 0 < N → L ≤ F * N → Cut F N (piece_count F L) L
cuts F N zero p s m = record { pos = p; some = omega arith; most = omega arith; full = λ i l. absurd (omega arith); enough = omega arith }
cuts F N (suc L) p s m =
    let d : ℕ = L / F in
    let e : piece_count F (suc L) ≡ d + 1 = rw (eqb-suc-zero L) (ap (λ (k : ℕ). k / F + 1) (omega arith)) in
    rw e
    (record {
      pos = p;
      some = omega arith;
      most = omega (arith, (div-lt_iff_lt-mul {k = F} {x = L} {y = N} p).1 (omega arith));
      full = λ i l. omega (arith, (le-div_iff_mul-le {k = F} {x = i + 1} {y = L} p).0 (omega arith));
      enough = omega (arith, (div-lt_iff_lt-mul {k = F} {x = L} {y = d + 1} p).0 (omega arith));
    })

-- F × i stays small: the bound is linear in N, so omega can use it.
pub place-bound : (F i N : ℕ) → F ≤ 16384 → i < N → F * i ≤ 16384 * N
place-bound F i N h l = mul-le-mul h (le_of_lt l)

pub good-size : (F : ℕ) → bad_size F ≡ false → (0 < F) × (F ≤ 16384)
good-size F e =
    let n = or-false (eqb F 0) (ltb 16384 F) e in
    (omega (arith, eqb-false F 0 n.0), ltb-false 16384 F n.1)

-- What the cutter does not refuse: neither row applies.
pub uncut : (F L i : ℕ) → cut_refusal F L i ≡ 0 → (bad_size F ≡ false) × (ltb (F * most) L ≡ false) × (leb (piece_count F L) i ≡ false)
unfolding cut_refusal
uncut F L i e =
    let rows = size_rows F ++ piece_rows F L i in
    let n = or-false (ltb (F * most) L) (leb (piece_count F L) i) (row-false wrong_piece rows refl e) in
    (row-false wrong_fragment_size rows refl e, n.0, n.1)

-- It is cut by the rules, and the piece asked for is one of them.
pub record Cuttable (F L i : ℕ) : Type 0 where
  pub cut : Cut F most (piece_count F L) L
  pub small : F ≤ 16384
  pub within : F * i ≤ L

-- A piece begins within the report.
pub begins : {F N n L : ℕ} → Cut F N n L → (i : ℕ) → i < n → F * i ≤ L
begins c zero l = omega arith
begins c (suc i) l = omega (arith, c.full i (omega arith))

pub cuttable : (F L i : ℕ) → cut_refusal F L i ≡ 0 → Cuttable F L i
unfolding most_pieces
cuttable F L i e =
    let q = uncut F L i e in
    let f = good-size F q.0 in
    let c = cuts F most L f.0 (omega arith) (ltb-false (F * most) L q.1) in
    record { cut = c; small = f.1; within = begins c i (leb-false (piece_count F L) i q.2) }

-- So what is cut begins within the report.
pub within : (F L i : ℕ) {n : ℕ} → Ok n ≡ cutting F L i → F * i ≤ L
within F L i e = (cuttable F L i (passed (cut_refusal F L i) (piece_count F L) e)).within

module _ {F N n : ℕ} (R : List ℕ) (c : Cut F N n (length R)) (i : ℕ) (l : i < n) where
  pub part_length : length (part R (F * i) F) ≡ min F (length R - F * i)
  part_length = simp (length-take, length-drop)

  pub not-over : length (part R (F * i) F) ≤ F
  not-over = omega (arith, part_length)

  pub filled : i + 1 < n → length (part R (F * i) F) ≡ F
  filled m = omega (arith, part_length, c.full i m)

  pub remainder : i + 1 ≡ n → length (part R (F * i) F) ≡ length R - F * i
  remainder m = omega (arith, part_length, c.enough, ap (λ (k : ℕ). F * k) m)

  -- The last of several is not empty.
  pub not-empty : i + 1 ≡ n → 1 < n → 0 < length (part R (F * i) F)
  not-empty m k =
      let e : i ≡ i - 1 + 1 = omega arith in
      omega (arith, remainder m, c.full (i - 1) (omega arith), ap (λ (k : ℕ). F * k) e)
