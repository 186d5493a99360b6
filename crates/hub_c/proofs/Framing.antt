-- SPDX-License-Identifier: MPL-2.0
-- Where the next message of a stream ends: MessageLength of a message that is not refused is its length, and it stands in the first four bytes.
use Rattle.laws.proofs.Kit.{ℕ, ◌≤◌, ◌≡◌, refl, sym, ◌∙◌, ap, List, ◌++◌, length, take, drop, length-append, length-take, eqb, eqb-true, eqb-false}
use Rattle.laws.proofs.Kit.{◌<◌, ltb, lt-ltb, le-ltb, ltb-true, ltb-false, arith}
use lib.ListN.{take-append-drop}
use Rattle.laws.proofs.Cases.{on}
use Rattle.wire.specs.Answers.{found_header}
use Rattle.wire.specs.Reader.{refusal_of, read_header, wanted}
use Rattle.wire.proofs.Reading.{read-refused}
use Rattle.wire.proofs.Sound.{good}
use Rattle.lines.proofs.Streams.{wanted-append}
use Rattle.hub_c.specs.Stream.{wanted_by, NextMessage}

-- A message that is not refused has at least 42 bytes, and MessageLength says how many.
framed : (m : List ℕ) → (found_header (read_header m)).refusal ≡ 0 → (42 ≤ length m) × (wanted m ≡ length m)
unfolding wanted
framed m z =
    on (eqb (refusal_of m) 0)
    (λ e.
    let g = good m (eqb-true (refusal_of m) 0 e) in
    (g.long, rw (g.size, le-ltb (length m) 42 g.long)))
    (λ e. let n = eqb-false (refusal_of m) 0 e in absurd (n (rw (read-refused m (refusal_of m) refl n) at z)))

unknown : (bytes : List ℕ) → length bytes < 4 → wanted_by bytes ≡ 42
unfolding wanted_by
unknown bytes h = rw (lt-ltb (length bytes) 4 h)

known : (m more : List ℕ) (n : ℕ) → (found_header (read_header m)).refusal ≡ 0 → 4 ≤ n → wanted_by (take n (m ++ more)) ≡ length m
unfolding wanted_by
known m more n z h =
    let f = framed m z in
    let all = m ++ more in
    let long : 4 ≤ length (take n all) = omega (arith, length-take n all, length-append m more, f.0) in
    let first = wanted-append (take n all) (drop n all) long in
    let whole = ap wanted (take-append-drop n all) in
    rw (le-ltb (length (take n all)) 4 long) (sym first ∙ whole ∙ wanted-append m more (omega (arith, f.0)) ∙ f.1)

never-past : (m more : List ℕ) (n : ℕ) → (found_header (read_header m)).refusal ≡ 0 → wanted_by (take n (m ++ more)) ≤ length m
never-past m more n z =
    on (ltb n 4)
    (λ e.
    let few = ltb-true n 4 e in
    rw (unknown (take n (m ++ more)) (omega (arith, length-take n (m ++ more)))) (framed m z).0)
    (λ e. omega (arith, known m more n z (ltb-false n 4 e)))

steady : (bytes more : List ℕ) → 4 ≤ length bytes → wanted_by (bytes ++ more) ≡ wanted_by bytes
unfolding wanted_by
steady bytes more h =
    let long : 4 ≤ length (bytes ++ more) = omega (arith, length-append bytes more) in
    rw (le-ltb (length (bytes ++ more)) 4 long, le-ltb (length bytes) 4 h) (wanted-append bytes more h)

pub next-message : NextMessage
next-message = record { unknown = unknown; known = known; never-past = never-past; steady = steady }
