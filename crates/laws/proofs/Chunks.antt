-- SPDX-License-Identifier: MPL-2.0
-- Why the parts of an input add up to the whole: what a run has written, and what it would write over the bytes at hand with those to come
-- after them, are together the same after each step and after each part that comes.
use Rattle.laws.proofs.Kit.{ℕ, zero, suc, ◌+◌, ◌≤◌, ◌<◌, ◌≡◌, refl, sym, ◌∙◌, Bool, true, false, true≢false, List, [], ◌∷◌, ◌++◌}
use Rattle.laws.proofs.Kit.{append-nil, append_assoc, length, drop, length-drop, length-append, ⊎_elim, zero-add, arith}
use lib.Seq.{drop-append-le}
use Rattle.laws.proofs.Cases.{on}
use Rattle.laws.specs.Chunks.{Step, waits, ends, goes, Stand, standing, stepped, given, outcome, steps, whole, turns}
use Rattle.laws.specs.Chunks.{Steady, brought_by, AddsUp}

module _ {S : Type 0} (step : S → List ℕ → Bool → Step S) where
  -- A run that is over stays as it is.
  pub steps-over : (ended : Bool) (n : ℕ) (r : Stand S) → r.over ≡ true → steps step ended n r ≡ r
  unfolding steps
  steps-over ended zero r o = refl
  steps-over ended (suc n) r o = rw o

  -- A run that is not over makes its step.
  pub steps-suc : (ended : Bool) (n : ℕ) (r : Stand S) (x : Step S) → r.over ≡ false → step r.state r.left ended ≡ x
      → steps step ended (suc n) r ≡ steps step ended n (stepped r x)
  unfolding steps
  steps-suc ended n r x o e = rw (o, e)

  -- Steps and then more steps.
  pub steps-add : (ended : Bool) (n k : ℕ) (r : Stand S) → steps step ended k (steps step ended n r) ≡ steps step ended (n + k) r
  steps-add ended zero k r = unfold steps in rw (zero-add k)
  steps-add ended (suc n) k r =
      let x = step r.state r.left ended in
      let e : suc n + k ≡ suc (n + k) = omega arith in
      on r.over (λ o. rw (steps-over ended (suc n) r o, steps-over ended k r o, steps-over ended (suc n + k) r o)) λ o.
      rw (e, steps-suc ended n r x o refl, steps-suc ended (n + k) r x o refl) (steps-add ended n k (stepped r x))

  -- No step leaves more bytes than there were.
  left-stepped : (r : Stand S) (x : Step S) → length (stepped r x).left ≤ length r.left
  left-stepped r waits = omega arith
  left-stepped r (ends n t s) = omega (arith, length-drop n r.left)
  left-stepped r (goes n t s) = omega (arith, length-drop n r.left)

  left-steps : (ended : Bool) (n : ℕ) (r : Stand S) → length (steps step ended n r).left ≤ length r.left
  left-steps ended zero r = unfold steps in omega arith
  left-steps ended (suc n) r =
      let x = step r.state r.left ended in
      on r.over (λ o. rw (steps-over ended (suc n) r o) (omega arith)) λ o.
      rw (steps-suc ended n r x o refl) (omega (arith, left-steps ended n (stepped r x), left-stepped r x))

  left-turns : (ts : List (List ℕ × ℕ)) (r : Stand S) → length (turns step r ts).left ≤ length r.left + length (brought_by ts)
  unfolding turns
  left-turns [] r = omega arith
  left-turns (t ∷ ts) r =
      let q = steps step false t.1 (given r t.0) in
      omega (arith, left-turns ts q, left-steps false t.1 (given r t.0), length-append r.left t.0, length-append t.0 (brought_by ts))

  module _ (steady : Steady step) where
    -- Once the input has ended, steps enough end the run.
    enough-by : (n : ℕ) (r : Stand S) → length r.left < suc n
        → ((q : Stand S) → length q.left < n → (steps step true n q).over ≡ true)
        → (x : Step S) → step r.state r.left true ≡ x → (steps step true n (stepped r x)).over ≡ true
    enough-by n r h ih waits e = absurd (true≢false (rw e at (steady.decides r.state r.left)))
    enough-by n r h ih (ends k t s) e = rw (steps-over true n (stepped r (ends k t s)) refl)
    enough-by n r h ih (goes k t s) e =
        let b = rw e at (steady.moves r.state r.left true) in
        ih (stepped r (goes k t s)) (omega (arith, b.0, b.1, length-drop k r.left))

    pub steps-enough : (n : ℕ) (r : Stand S) → length r.left < n → (steps step true n r).over ≡ true
    steps-enough zero r h = absurd (omega arith)
    steps-enough (suc n) r h =
        on r.over (λ o. rw (steps-over true (suc n) r o) o) λ o.
        let x = step r.state r.left true in
        rw (steps-suc true n r x o refl) (enough-by n r h (steps-enough n) x refl)

    -- And until they do, they take bytes.
    taken-by : (n : ℕ) (r : Stand S) (x : Step S) → step r.state r.left true ≡ x → (steps step true n (stepped r x)).over ≡ false
        → length (steps step true n (stepped r x)).left < length r.left
    taken-by n r waits e o = absurd (true≢false (rw e at (steady.decides r.state r.left)))
    taken-by n r (ends k t s) e o = absurd (true≢false (rw (steps-over true n (stepped r (ends k t s)) refl) at o))
    taken-by n r (goes k t s) e o =
        let b = rw e at (steady.moves r.state r.left true) in
        omega (arith, b.0, b.1, length-drop k r.left, left-steps true n (stepped r (goes k t s)))

    pub steps-take : (n : ℕ) (r : Stand S) → 0 < n → (steps step true n r).over ≡ false → length (steps step true n r).left < length r.left
    steps-take zero r h o = absurd (omega arith)
    steps-take (suc n) r h o =
        on r.over (λ v. absurd (true≢false (sym v ∙ rw (steps-over true (suc n) r v) at o))) λ v.
        let x = step r.state r.left true in
        let e = steps-suc true n r x v refl in
        rw e (taken-by n r x refl (rw e at o))

    -- How many steps there are does not matter, where they end the run.
    settled-by : (n k : ℕ) (r : Stand S) → length r.left < suc k
        → ((q : Stand S) → (steps step true n q).over ≡ true → length q.left < k → steps step true n q ≡ steps step true k q)
        → (x : Step S) → step r.state r.left true ≡ x → (steps step true n (stepped r x)).over ≡ true
        → steps step true n (stepped r x) ≡ steps step true k (stepped r x)
    settled-by n k r h ih waits e o = absurd (true≢false (rw e at (steady.decides r.state r.left)))
    settled-by n k r h ih (ends j t s) e o = rw (steps-over true n (stepped r (ends j t s)) refl, steps-over true k (stepped r (ends j t s)) refl)
    settled-by n k r h ih (goes j t s) e o =
        let b = rw e at (steady.moves r.state r.left true) in
        ih (stepped r (goes j t s)) o (omega (arith, b.0, b.1, length-drop j r.left))

    pub settled : (n k : ℕ) (r : Stand S) → (steps step true n r).over ≡ true → length r.left < k → steps step true n r ≡ steps step true k r
    unfolding steps
    settled zero k r o h = sym (steps-over true k r o)
    settled (suc n) zero r o h = absurd (omega arith)
    settled (suc n) (suc k) r o h =
        on r.over (λ v. rw (steps-over true (suc n) r v, steps-over true (suc k) r v)) λ v.
        let next = step r.state r.left true in
        rw (steps-suc true n r next v refl, steps-suc true k r next v refl)
        (settled-by n k r h (settled n k) next refl (rw (steps-suc true n r next v refl) at o))

    -- A run that comes to w, once the bytes to come are at hand and the input has ended.
    pub record Leads (rest : List ℕ) (w : S × (List ℕ × Bool)) (r : Stand S) : Type 0 where
      pub to : (n : ℕ) → length (r.left ++ rest) < n → outcome (steps step true n (given r rest)) ≡ w

    module _ (rest : List ℕ) (w : S × (List ℕ × Bool)) where
      leads-by : (r : Stand S) → r.over ≡ false → Leads rest w r → (x : Step S) → step r.state r.left false ≡ x
          → step r.state (r.left ++ rest) true ≡ x → Leads rest w (stepped r x)
      leads-by r v l waits e f = l
      leads-by r v l (ends k t s) e f =
          let m = length (r.left ++ rest) in
          let x = ends k t s in
          let p = rw (steps-suc true m (given r rest) x v f, steps-over true m (stepped (given r rest) x) refl) at (l.to (suc m) (omega arith)) in
          record { to = λ n h. rw (steps-over true n (given (stepped r x) rest) refl) p }
      leads-by r v l (goes k t s) e f =
          let b = rw e at (steady.moves r.state r.left false) in
          let m = length (r.left ++ rest) in
          let q = given (stepped r (goes k t s)) rest in
          let d : drop k (r.left ++ rest) ≡ q.left = drop-append-le k r.left rest b.1 in
          let short : length q.left < m = rw (← d, length-drop, length-append) (omega (arith, b.0, b.1)) in
          let p = rw (steps-suc true m (given r rest) (goes k t s) v f, d) at (l.to (suc m) (omega arith)) in
          record { to = λ n h. rw (← settled m n q (steps-enough m q short) h) p }

      -- A step, made before the rest has come.
      pub leads-step : (r : Stand S) → r.over ≡ false → Leads rest w r → Leads rest w (stepped r (step r.state r.left false))
      leads-step r v l =
          ⊎_elim (λ e. rw e l) (λ e. leads-by r v l (step r.state r.left false) refl e)
          (steady.same r.state r.left rest true)

      pub leads-steps : (n : ℕ) (r : Stand S) → Leads rest w r → Leads rest w (steps step false n r)
      leads-steps zero r l = unfold steps in l
      leads-steps (suc n) r l =
          on r.over (λ o. rw (steps-over false (suc n) r o) l) λ o.
          rw (steps-suc false n r (step r.state r.left false) o refl) (leads-steps n _ (leads-step r o l))

    -- Bytes that come.
    pub leads-given : (bytes rest : List ℕ) (w : S × (List ℕ × Bool)) (r : Stand S) → Leads (bytes ++ rest) w r → Leads rest w (given r bytes)
    leads-given bytes rest w r l = record {
      to = λ n h. rw (append_assoc r.left bytes rest) (l.to n (rw (append_assoc r.left bytes rest) at h));
    }

    pub leads-turns : (ts : List (List ℕ × ℕ)) (w : S × (List ℕ × Bool)) (r : Stand S) → Leads (brought_by ts) w r → Leads [] w (turns step r ts)
    unfolding turns
    leads-turns [] w r l = l
    leads-turns (t ∷ ts) w r l =
        leads-turns ts w _ (leads-steps (brought_by ts) w t.1 (given r t.0) (leads-given t.0 (brought_by ts) w r l))

    -- Any cutting adds up to the whole.
    pub adds-up : (s : S) → AddsUp step s
    unfolding whole
    adds-up s ts last =
        let bytes = brought_by ts in
        let q = turns step (standing s []) ts in
        let w = outcome (whole step s bytes) in
        let start : Leads bytes w (standing s []) =
        record { to = λ n h. rw (settled n (length bytes + 1) (standing s bytes) (steps-enough n (standing s bytes) h) (omega arith)) } in
        let all : outcome (steps step true (length q.left + 1) (given q [])) ≡ w =
        (leads-turns ts w (standing s []) start).to (length q.left + 1) (rw append-nil (omega arith)) in
        let short : length q.left ≤ length bytes = omega (arith, left-turns ts (standing s [])) in (
          λ o. rw (settled last (length q.left + 1) q o (omega arith)) (rw append-nil at all),
          λ h. steps-enough last q (omega arith),
        )
