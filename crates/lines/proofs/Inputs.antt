-- SPDX-License-Identifier: MPL-2.0
-- The listing in turns: the listing of what is held makes as many steps as there is room for lines, and steps add up.
use Rattle.laws.proofs.Kit.{ℕ, zero, suc, ◌+◌, ◌/◌, ◌≤◌, ◌<◌, ◌≡◌, refl, sym, ◌∙◌, ap, Bool, true, false, true≢false, List, [], ◌∷◌, append-nil}
use Rattle.laws.proofs.Kit.{append_assoc, length, take, drop, drop-drop, ltb, lt-ltb, le-ltb, ltb-true, ltb-false, add-zero, arith}
use Rattle.laws.proofs.Cases.{on}
use Rattle.laws.proofs.Tests.{cond-false}
use Rattle.wire.specs.Reader.{read_header}
use Rattle.lines.specs.declared.stream.Next.{Next}
use Rattle.lines.specs.declared.stream.Next.TheVariants.{Message, More, End}
use Rattle.lines.specs.Stream.{ahead}
use Rattle.lines.specs.declared.listing.Stage.{Stage}
use Rattle.lines.specs.declared.listing.Stage.TheVariants.{Going, Waiting, Over}
use Rattle.lines.specs.Listing.{is_refused, is_going, is_over, stops, begun, after_turn, turn_by, turn_at, Run, turn, many_turns, list}
use Rattle.laws.specs.Chunks.{Stand, stepped, given, standing, steps, turns, brought_by}
use Rattle.lines.specs.Inputs.{NoState, step_of, line_step, listing, listed_of, listed_in, reading, ending, Roomy, ListedInTurns, TurnTakes}
use Rattle.laws.proofs.Chunks.{steps-over, steps-suc, steps-add, steps-take, adds-up}
use Rattle.lines.proofs.Steps.{line-steady}

-- A run that goes on is not over.
going-on : (stage : Stage) → is_going stage ≡ true → is_over stage ≡ false
going-on Going g = refl
going-on Waiting g = refl
going-on Over g = absurd (true≢false (sym g))

-- A turn is a step, where the run goes on.
module _ (r : Stand NoState) (ended : Bool) (room : ℕ) where
  step_by : (b : Run) (rest : List ℕ) (next : Next) → rest ≡ drop b.read r.left → is_over b.stage ≡ false
      → listed_of r (after_turn b (turn_by rest next)) ≡ stepped (listed_of r b) (step_of (turn_by rest next))
  step_by b rest (Message size) e o =
      on (is_refused (read_header (take size rest)))
      (λ f. rw (f, drop-drop, append_assoc)) (λ f. rw (f, drop-drop, append_assoc))
  step_by b rest More e o = rw (o, add-zero, append-nil)
  step_by b rest End e o = rw (drop-drop, append_assoc)

  -- Turn after turn is step after step, one at least where there is room.
  record Many (n : ℕ) (b : Run) : Type 0 where
    pub count : ℕ
    pub is : listed_of r (many_turns n r.left ended room b) ≡ steps line_step ended count (listed_of r b)
    pub some : 0 < n → is_going b.stage ≡ true → length b.text + 64 ≤ room → 0 < count

  -- A run that makes no turn.
  none : (n : ℕ) (b : Run) → (0 < n → is_going b.stage ≡ true → ⊥) → Many n b
  unfolding many_turns steps
  none zero b h = record { count = 0; is = refl; some = λ p g. absurd (omega arith) }
  none (suc n) b h =
      on (is_going b.stage) (λ g. absurd (h (omega arith) g)) λ g.
      record { count = 0; is = rw g; some = λ p q. absurd (h p q) }

  module _ (n : ℕ) (b : Run) (o : is_over b.stage ≡ false) (g : is_going b.stage ≡ true) where
    abbrev rest : List ℕ
    rest = drop b.read r.left

    many-suc : {q : Run} → turn r.left ended room b ≡ q → many_turns (suc n) r.left ended room b ≡ many_turns n r.left ended room q
    unfolding many_turns turn
    many-suc e = rw (g, e)

    turn-full : room < length b.text + 64 → turn r.left ended room b ≡ after_turn b (stops Waiting)
    unfolding turn turn_at
    turn-full h = rw (lt-ltb room (length b.text + 64) h)

    turn-roomy : length b.text + 64 ≤ room → turn r.left ended room b ≡ after_turn b (turn_by rest (ahead rest ended))
    unfolding turn turn_at
    turn-roomy h = rw (le-ltb room (length b.text + 64) h)

    stays : listed_of r (after_turn b (stops Waiting)) ≡ listed_of r b
    stays = rw (o, add-zero, append-nil)

    -- A turn without room, then the others.
    full : room < length b.text + 64 → Many n (after_turn b (stops Waiting)) → Many (suc n) b
    full h m =
        record { count = m.count; is = rw (many-suc (turn-full h), ← stays) m.is; some = λ p q k. absurd (omega arith) }

    -- A turn with room, then the others.
    more : length b.text + 64 ≤ room → Many n (after_turn b (turn_by rest (ahead rest ended))) → Many (suc n) b
    unfolding line_step
    more h m =
        record {
          count = suc m.count;
          is = rw (many-suc (turn-roomy h), steps-suc line_step ended m.count (listed_of r b) (line_step tt rest ended) o refl)
              (rw (step_by b rest (ahead rest ended) refl o) at m.is);
          some = λ p q k. omega arith;
        }

  many : (n : ℕ) (b : Run) → (is_going b.stage ≡ true → is_over b.stage ≡ false) → Many n b
  many zero b f = none zero b (λ p g. omega arith)
  many (suc n) b f =
      on (is_going b.stage) (λ g.
      on (ltb room (length b.text + 64))
      (λ l. full n b (f g) g (ltb-true room (length b.text + 64) l) (many n (after_turn b (stops Waiting)) (λ h. refl)))
      (λ l. more n b (f g) g (ltb-false room (length b.text + 64) l) (many n _ (going-on _))))
      λ g. none (suc n) b (λ p h. true≢false (sym h ∙ g))

  -- What the listing of a chunk does, in steps.
  record Made (q : Stand NoState) : Type 0 where
    pub count : ℕ
    pub is : q ≡ steps line_step ended count r
    pub some : 64 ≤ room → 0 < count

  listed-many : (m : Many (length r.left / 42 + 2) begun) → r.over ≡ false
      → listed_of r (list r.left ended room) ≡ steps line_step ended m.count r
  unfolding list
  listed-many m o = m.is ∙ ap (steps line_step ended m.count) (rw (append-nil, o))

  made : Made (listed_in ended r room)
  made =
      on r.over (λ o. record { count = 1; is = rw (steps-over line_step ended 1 r o, o); some = λ h. omega arith }) λ o.
      let m = many (length r.left / 42 + 2) begun (λ g. refl) in
      record { count = m.count; is = cond-false r.over _ _ o ∙ listed-many m o; some = λ h. m.some (omega arith) refl (omega arith) }

-- A turn once the input has ended.
takes-by : (q r : Stand NoState) (n : ℕ) → q ≡ steps line_step true n r → 0 < n → q.over ≡ false → length q.left < length r.left
takes-by q r n e h o = rw e (steps-take line_step line-steady n r h (rw e at o))

pub turn-takes : TurnTakes
turn-takes bytes room h o =
    let m = made (standing tt bytes) true room in
    takes-by (listed_in true (standing tt bytes) room) (standing tt bytes) m.count m.is (m.some h) o

-- The turns of the program, in steps: the same bytes come, and each turn makes a number of steps.
record Reads (r : Stand NoState) (parts : List (List ℕ × ℕ)) : Type 0 where
  pub counts : List (List ℕ × ℕ)
  pub bytes : brought_by counts ≡ brought_by parts
  pub is : reading r parts ≡ turns line_step r counts

reads : (parts : List (List ℕ × ℕ)) (r : Stand NoState) → Reads r parts
unfolding reading turns
reads [] r = record { counts = []; bytes = refl; is = refl }
reads (t ∷ parts) r =
    let m = made (given r t.0) false t.1 in
    let n = reads parts (listed_in false (given r t.0) t.1) in
    record { counts = (t.0, m.count) ∷ n.counts; bytes = rw n.bytes; is = rw (← m.is) n.is }

record Ends (r : Stand NoState) (rooms : List ℕ) : Type 0 where
  pub count : ℕ
  pub is : ending r rooms ≡ steps line_step true count r
  pub many : Roomy rooms → length rooms ≤ count

finishes : (rooms : List ℕ) (r : Stand NoState) → Ends r rooms
unfolding ending steps
finishes [] r = record { count = 0; is = refl; many = λ h. omega arith }
finishes (room ∷ rooms) r =
    let m = made r true room in
    let n = finishes rooms (listed_in true r room) in
    record {
      count = m.count + n.count;
      is = rw (← steps-add line_step true m.count n.count r, ← m.is) n.is;
      many = λ h. let p = m.some h.0 in let q = n.many h.1 in omega arith;
    }

-- The turns add up to the listing of the whole.
pub listed-in-turns : ListedInTurns
unfolding listing
listed-in-turns input parts rooms e =
    let p = reads parts (standing tt []) in
    let q = finishes rooms (reading (standing tt []) parts) in
    let a = rw (← p.is) at (adds-up line_step line-steady tt p.counts q.count) in
    let all : brought_by p.counts ≡ input = p.bytes ∙ e in
    rw q.is (
      λ o. ap (λ (c : NoState × (List ℕ × Bool)). c.1.0) (rw all at (a.0 o)),
      λ roomy h. a.1 (omega (arith, ap length all, q.many roomy)),
    )
