-- SPDX-License-Identifier: MPL-2.0
-- A run of the program is one of those that `listed-in-turns` is about: a turn for each part that is read, then turns that bring nothing.
use Rattle.laws.proofs.Kit.{ℕ, ◌+◌, ◌-◌, ◌≤◌, ◌≡◌, refl, sym, ◌∙◌, ap, Bool, true, false, not, List, [], ◌∷◌, ◌++◌, append-nil, append_assoc}
use Rattle.laws.proofs.Kit.{length, take, drop, length-append, length-drop, length-take-le, drop_at, take-append_seam, eqb, eqb-true, eqb-false}
use Rattle.laws.proofs.Kit.{eq-eqb, ne_eqb, arith}
use Rattle.std.proofs.Common.{is_ok}
use lib.Seq.{take-add}
use Rattle.laws.proofs.Cases.{on}
use Rattle.laws.proofs.Bools.{or-false}
use Rattle.laws.specs.Bytes.{AreBytes}
use Rattle.laws.specs.Chunks.{Stand, brought_by}
use Rattle.laws.proofs.ByteLists.{nil-bytes, append-bytes, take-bytes, drop-bytes}
use Rattle.lines.specs.Listing.{line_room, list}
use Rattle.lines.specs.Inputs.{NoState, longest_message, listing, listed_in, reading, ending}
use Rattle.lines.proofs.Inputs.{listed-in-turns}
use Rattle.lines.proofs.ReadingOn.{room-to-read}
use Rattle.listing.specs.Turns.{is_over, turn_on, run_text, RunTo, RunEnds, ReadOf, RunLists, TurnLeads}

-- What a run needs of its reads: each brings the next bytes of the input, and after one that brings none there are none.
pub record Came (got input : List ℕ) (Later : List ℕ → Type 0) : Type 0 where
  pub rest : List ℕ
  pub is : got ++ rest ≡ input
  pub ends : length got ≡ 0 → rest ≡ []
  pub after : Later rest

abbrev pub AllCame : List (List ℕ) → List ℕ → Type 0
AllCame [] input = Unit
AllCame (got ∷ reads) input = Came got input (AllCame reads)

-- They do so, since there is room to read on after each turn.
pub reads-next : (buffer room : ℕ) → longest_message ≤ buffer → line_room ≤ room → (reads : List (List ℕ)) (bytes input : List ℕ) (ended : Bool)
    → AreBytes bytes → length bytes ≤ buffer → AreBytes input → ReadOf buffer room bytes ended reads input → AllCame reads input
unfolding ReadOf
reads-next buffer room long roomy [] bytes input ended b h i d = tt
reads-next buffer room long roomy (got ∷ reads) bytes input ended b h i d =
    let k = (list bytes ended room).read in
    let all = rw (← d.is) at i in
    let got-bytes = rw take-append_seam at (take-bytes (length got) (got ++ d.rest) all) in
    let rest-bytes = rw (drop_at got d.rest (length got) refl) at (drop-bytes (length got) (got ++ d.rest) all) in
    record {
      rest = d.rest;
      is = d.is;
      ends = d.ends (room-to-read bytes ended room buffer b roomy long h);
      after = reads-next buffer room long roomy reads (drop k bytes ++ got) d.rest (eqb (length got) 0)
          (append-bytes (drop-bytes k bytes b) got-bytes) d.fits rest-bytes d.after;
    }

-- A list of length 0.
none : (l : List ℕ) → length l ≡ 0 → l ≡ []
none [] e = refl
none (x ∷ l) e = absurd (omega (arith, e))

-- A run that is not over, with these bytes at hand after it has written this text.
abbrev at : List ℕ → List ℕ → Stand NoState
at text bytes = record { state = tt; left = bytes; text = text; over = false }

module _ (room : ℕ) where
  -- Turns after the end of the input.
  record Last (p : Stand NoState) (all : List ℕ) : Type 0 where
    pub rooms : List ℕ
    pub over : (ending p rooms).over ≡ true
    pub says : (ending p rooms).text ≡ all

  -- A turn that goes on.
  went : (ended : Bool) (text bytes : List ℕ) → (turn_on bytes ended room).over ≡ false
      → listed_in ended (at text bytes) room ≡ at (text ++ (turn_on bytes ended room).text) (turn_on bytes ended room).left
  went ended text bytes o = rw o

  -- A turn, and then those of a run that goes on.
  later : (t bytes all : List ℕ) → (turn_on bytes true room).over ≡ false
      → Last (at (t ++ (turn_on bytes true room).text) (turn_on bytes true room).left) all → Last (at t bytes) all
  unfolding ending
  later t bytes all o n =
      let w = ap (λ (p : Stand NoState). ending p n.rooms) (went true t bytes o) in
      record { rooms = room ∷ n.rooms; over = ap (λ p. p.over) w ∙ n.over; says = ap (λ p. p.text) w ∙ n.says }

  -- A read that brought nothing.
  emptied : (t bytes got all : List ℕ) → length got ≡ 0 → Last (at t (bytes ++ got)) all → Last (at t bytes) all
  emptied t bytes got all short n = rw (none got short, append-nil) at n

  last-next : (t bytes got text : List ℕ) (ended : Bool) → ended ≡ true → length got ≡ 0 → (turn_on bytes ended room).over ≡ false
      → Last (at (t ++ (turn_on bytes ended room).text) ((turn_on bytes ended room).left ++ got)) ((t ++ (turn_on bytes ended room).text) ++ text)
      → Last (at t bytes) (t ++ ((turn_on bytes ended room).text ++ text))
  last-next t bytes got text ended e short o n =
      let q = turn_on bytes ended room in
      rw e (later t bytes _ (rw e at o) (rw (e, append_assoc) at (emptied (t ++ q.text) q.left got ((t ++ q.text) ++ text) short n)))

  last_turn : (t bytes : List ℕ) → (turn_on bytes true room).over ≡ true → Last (at t bytes) (t ++ (turn_on bytes true room).text)
  unfolding ending
  last_turn t bytes o = record { rooms = room ∷ []; over = o; says = refl }

  last-turns : (reads : List (List ℕ)) (bytes : List ℕ) (ended : Bool) → ended ≡ true → RunEnds room bytes ended reads → AllCame reads []
      → (t : List ℕ) → Last (at t bytes) (t ++ run_text room bytes ended reads)
  unfolding run_text RunTo
  last-turns [] bytes ended e r d t = rw e (last_turn t bytes (rw e at r))
  last-turns (got ∷ reads) bytes ended e r d t =
      let q = turn_on bytes ended room in
      let u = t ++ q.text in
      let short : length got ≡ 0 = omega (arith, ap length d.is, length-append got d.rest) in
      let n = last-turns reads (q.left ++ got) (eqb (length got) 0) (eq-eqb (length got) 0 short) r.1 (rw (d.ends short) at d.after) u in
      last-next t bytes got _ ended e short r.0 n

  -- Turns while the input goes on, and those after its end.
  record Done (p : Stand NoState) (bytes all : List ℕ) : Type 0 where
    pub parts : List (List ℕ × ℕ)
    pub brought : brought_by parts ≡ bytes
    pub finish : Last (reading p parts) all

  -- The last turn: what is still to come does not matter.
  quits : (t left got rest : List ℕ) → (turn_on (left ++ got) false room).over ≡ true
      → Done (at t left) (got ++ rest) (t ++ (turn_on (left ++ got) false room).text)
  unfolding reading ending
  quits t left got rest o = record {
    parts = (got, room) ∷ (rest, 0) ∷ [];
    brought = rw append-nil;
    finish = record { rooms = []; over = rw o; says = rw o };
  }

  -- A turn, and then those of a run that goes on.
  goes : (t left got rest all : List ℕ) → (turn_on (left ++ got) false room).over ≡ false
      → Done (at (t ++ (turn_on (left ++ got) false room).text) (turn_on (left ++ got) false room).left) rest all → Done (at t left) (got ++ rest) all
  unfolding reading
  goes t left got rest all o n = record {
    parts = (got, room) ∷ n.parts;
    brought = rw n.brought;
    finish = rw (went false t (left ++ got) o) n.finish;
  }

  -- The turns after the end of the input, where it has ended.
  finishes : (p : Stand NoState) (rest all : List ℕ) → rest ≡ [] → Last p all → Done p rest all
  unfolding reading
  finishes p rest all e n = record { parts = []; brought = sym e; finish = n }

  -- What the turns come to, by what each read brings.
  abbrev Reached : List (List ℕ) → Type 0
  Reached reads = (t left got rest : List ℕ) → RunEnds room (left ++ got) false reads → AllCame reads rest
      → Done (at t left) (got ++ rest) (t ++ run_text room (left ++ got) false reads)

  -- A read, and the turns after it: those after the end of the input, or others.
  read_more : (more : List ℕ) (reads : List (List ℕ)) → Reached reads → (u left rest : List ℕ)
      → RunEnds room (left ++ more) (eqb (length more) 0) reads → AllCame (more ∷ reads) rest
      → Done (at u left) rest (u ++ run_text room (left ++ more) (eqb (length more) 0) reads)
  read_more more reads reach u left rest r d =
      on (eqb (length more) 0) (λ z.
      let short = eqb-true (length more) 0 z in
      let m = last-turns reads (left ++ more) (eqb (length more) 0) z r (rw (d.ends short) at d.after) u in
      finishes (at u left) rest _ (rw (none more short, d.ends short) at (sym d.is)) (emptied u left more _ short m))
      λ z. rw (← d.is, z) (reach u left more d.rest (rw z at r) d.after)

  reach-next : (more : List ℕ) (reads : List (List ℕ)) → Reached reads → Reached (more ∷ reads)
  unfolding run_text RunTo
  reach-next more reads reach t left got rest r d =
      let q = turn_on (left ++ got) false room in
      let n = read_more more reads reach (t ++ q.text) q.left rest r.1 d in
      goes t left got rest _ r.0 (rw append_assoc at n)

  reach-last : Reached []
  unfolding run_text RunTo
  reach-last t left got rest r d = quits t left got rest r

  reach : (reads : List (List ℕ)) → Reached reads
  reach [] = reach-last
  reach (more ∷ reads) = reach-next more reads (reach reads)

-- The whole run, from a program that holds nothing.
pub run-lists : RunLists
run-lists buffer room input reads bytes long roomy d r =
    let n = reach room reads [] [] [] input r (reads-next buffer room long roomy reads [] input false nil-bytes (omega arith) bytes d) in
    let all = (listed-in-turns (brought_by n.parts) n.parts n.finish.rooms refl).0 n.finish.over in
    sym n.finish.says ∙ all ∙ ap listing n.brought

-- Nothing was read where as much is held as was left.
same_none : (held left got : ℕ) → left ≤ held → got ≡ held - left → eqb held left ≡ eqb got 0
same_none held left got h e =
    on (eqb held left) (λ z. rw (z, eq-eqb got 0 (omega (arith, eqb-true held left z)))) λ z.
    rw (z, ne_eqb got 0 (λ y. eqb-false held left z (omega arith)))

-- A read leaves what was left, and after it what was read.
pub turn-leads : TurnLeads
turn-leads q after w r t e =
    let f = t.goes r e in
    let k = length q.left in
    let d : k + (r.held - k) ≡ r.held = omega (arith, f.more) in
    let got = take (r.held - k) (drop k after) in
    let n : length got ≡ r.held - k = length-take-le (r.held - k) (drop k after) (rw length-drop (omega (arith, f.more, f.fits))) in
    record {
      going = (or-false q.over (not (is_ok w)) (sym t.over ∙ ap is_over e)).0;
      got = got;
      holds = rw f.first at (rw d at (take-add k (r.held - k) after));
      ended = f.ends ∙ same_none r.held k (length got) f.more n;
      fits = rw (length-append, n) (omega (arith, f.more, f.fits));
    }
