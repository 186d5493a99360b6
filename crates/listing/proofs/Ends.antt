-- SPDX-License-Identifier: MPL-2.0
-- A run ends: while the input goes on each read brings a byte, and once it has ended each turn takes one. So reads that fill the buffer, one after
-- the other, come to an end.
use Rattle.laws.proofs.Kit.{ℕ, zero, suc, ◌+◌, ◌-◌, ◌*◌, ◌≤◌, ◌<◌, ◌≡◌, refl, sym, ◌∙◌, ap, Bool, true, false, not, ◌||◌, List, [], ◌∷◌}
use Rattle.laws.proofs.Kit.{◌++◌, length, take, drop, length-append, length-drop, length-take, drop_of_length-le, eqb, eqb-true, eqb-false, eq-eqb}
use Rattle.laws.proofs.Kit.{inl, inr, ⊎_elim, arith}
use Rattle.std.proofs.Common.{is_ok}
use lib.ListN.{take-append-drop}
use mathlib.Core.Logic.{◌⊎◌}
use Rattle.laws.proofs.Cases.{on}
use Rattle.laws.proofs.Bools.{or-none}
use Rattle.laws.proofs.ByteLists.{nil-bytes}
use Rattle.laws.specs.Chunks.{Stand}
use Rattle.lines.specs.Listing.{line_room, list}
use Rattle.lines.specs.Inputs.{NoState}
use Rattle.lines.proofs.Inputs.{turn-takes}
use Rattle.listing.specs.Turns.{is_over, turn_on, RunTo, RunEnds, ReadOf, RunStops, RunExists, RanLists}
use Rattle.listing.proofs.Runs.{AllCame, reads-next, run-lists}

module _ (test : Stand NoState → Bool) (room : ℕ) (roomy : line_room ≤ room) where
  -- Once the input has ended.
  ended-stops : (reads : List (List ℕ)) (bytes : List ℕ) (ended : Bool) → ended ≡ true → RunTo test room bytes ended reads → AllCame reads []
      → length reads ≤ length bytes
  unfolding RunTo
  ended-stops [] bytes ended e r d = omega arith
  ended-stops (got ∷ reads) bytes ended e r d =
      let q = turn_on bytes ended room in
      let short : length got ≡ 0 = omega (arith, ap length d.is, length-append got d.rest) in
      let n = ended-stops reads (q.left ++ got) (eqb (length got) 0) (eq-eqb (length got) 0 short) r.1 (rw (d.ends short) at d.after) in
      let takes : length q.left < length bytes = rw e (turn-takes bytes room roomy (rw e at r.0)) in
      omega (arith, length-append q.left got)

  -- A read that brings nothing is the last.
  no_more : (reads : List (List ℕ)) (left got rest : List ℕ) → eqb (length got) 0 ≡ true → rest ≡ []
      → RunTo test room (left ++ got) (eqb (length got) 0) reads → AllCame reads rest → length reads ≤ length left
  no_more reads left got rest z e r d =
      omega (arith, eqb-true (length got) 0 z, ended-stops reads (left ++ got) (eqb (length got) 0) z r (rw e at d), length-append left got)

  -- From the bytes held on, while the input goes on.
  stops : (reads : List (List ℕ)) (bytes input : List ℕ) → RunTo test room bytes false reads → AllCame reads input
      → length reads ≤ 2 * length input + length bytes + 1
  unfolding RunTo
  stops [] bytes input r d = omega arith
  stops (got ∷ reads) bytes input r d =
      let k = (list bytes false room).read in
      let left = (turn_on bytes false room).left in
      let whole : length got + length d.rest ≡ length input = sym (length-append got d.rest) ∙ ap length d.is in
      let left_le = length-drop k bytes in
      let held = length-append left got in
      on (eqb (length got) 0)
      (λ z. omega (arith, no_more reads left got d.rest z (d.ends (eqb-true (length got) 0 z)) r.1 d.after))
      λ z. omega (arith, eqb-false (length got) 0 z, stops reads (left ++ got) d.rest (rw z at r.1) d.after)

pub run-stops : RunStops
run-stops test buffer room input reads bytes long roomy d r =
    omega (arith, stops test room roomy reads [] input r (reads-next buffer room long roomy reads [] input false nil-bytes (omega arith) bytes d))

-- Reads end a run, or there are n of them and it goes on.
abbrev EndOrMore : ℕ → ℕ → List ℕ → Bool → List (List ℕ) → Type 0
EndOrMore room n bytes ended reads = RunEnds room bytes ended reads ⊎ (RunTo (λ q. true) room bytes ended reads × (length reads ≡ n))

end-or-more : (room n : ℕ) (bytes got : List ℕ) (ended : Bool) (reads : List (List ℕ)) → let q = turn_on bytes ended room in
    q.over ≡ false → EndOrMore room n (q.left ++ got) (eqb (length got) 0) reads → EndOrMore room (suc n) bytes ended (got ∷ reads)
unfolding RunTo
end-or-more room n bytes got ended reads o (inl e) = inl (o, e)
end-or-more room n bytes got ended reads o (inr e) = inr ((o, e.0), ap suc e.1)

module _ (buffer room : ℕ) where
  record Filling (n : ℕ) (bytes : List ℕ) (ended : Bool) (input : List ℕ) : Type 0 where
    pub reads : List (List ℕ)
    pub brings : ReadOf buffer room bytes ended reads input
    pub to : EndOrMore room n bytes ended reads

  -- Each read fills the buffer, or brings all that there is.
  filling : (n : ℕ) (bytes : List ℕ) (ended : Bool) (input : List ℕ) → length bytes ≤ buffer → Filling n bytes ended input
  unfolding RunTo ReadOf
  filling zero bytes ended input h = record { reads = []; brings = tt; to = inr (refl, refl) }
  filling (suc n) bytes ended input h =
      on (turn_on bytes ended room).over (λ o. record { reads = []; brings = tt; to = inl o }) λ o.
      let left = (turn_on bytes ended room).left in
      let k = buffer - length left in
      let got = take k input in
      let short : length left ≤ buffer = omega (arith, length-drop (list bytes ended room).read bytes) in
      let fits : length (left ++ got) ≤ buffer = omega (arith, length-append left got, length-take k input) in
      let f = filling n (left ++ got) (eqb (length got) 0) (drop k input) fits in
      record {
        reads = got ∷ f.reads;
        brings = record {
          rest = drop k input;
          is = take-append-drop k input;
          fits = fits;
          ends = λ some none. let past : length input ≤ k = omega (arith, length-take k input) in drop_of_length-le input past;
          after = f.brings;
        };
        to = end-or-more room n bytes got ended f.reads o f.to;
      }

-- More reads than a run can have are not made.
pub run-exists : RunExists
run-exists buffer room input bytes long roomy =
    let f = filling buffer room (2 * length input + 2) [] false input (omega arith) in
    record {
      reads = f.reads;
      brings = f.brings;
      ends = ⊎_elim (λ e. e)
          (λ e. absurd (omega (arith, e.1, run-stops (λ q. true) buffer room input f.reads bytes long roomy f.brings e.0))) f.to;
    }

-- A run to one test is a run to another that its last turn then passes.
to-other : (test other : Stand NoState → Bool) → ((q : Stand NoState) → test q ≡ true → other q ≡ true)
    → (room : ℕ) (reads : List (List ℕ)) (bytes : List ℕ) (ended : Bool) → RunTo test room bytes ended reads → RunTo other room bytes ended reads
unfolding RunTo
to-other test other f room [] bytes ended r = f (turn_on bytes ended room) r
to-other test other f room (got ∷ reads) bytes ended r = (r.0, to-other test other f room reads _ _ r.1)

-- The counter did not come to its end, so the run is over; its last turn was written, so the listing is.
pub ran-lists : RanLists
ran-lists buffer room input r ran bytes few long roomy d w =
    on (is_over r.last) (λ o.
    let other = to-other (λ q. q.over || not (is_ok r.last)) (λ q. q.over) (λ q e. rw (w, or-none) at e) in
    let ends = other room ran.reads [] false (ran.over o).0 in
    (o, run-lists buffer room input ran.reads bytes long roomy d ends))
    λ o.
    let c = ran.counted o in
    absurd (omega (arith, c.1, run-stops (λ q. true) buffer room input ran.reads bytes long roomy d c.0))
