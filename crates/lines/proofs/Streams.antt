-- SPDX-License-Identifier: MPL-2.0
-- The first message of a stream: its bounds, and that it is the same whatever follows it.
use Rattle.laws.proofs.Kit.{ℕ, ◌≤◌, ◌<◌, ◌≡◌, sym, Bool, false, List, ◌++◌, length, take, length-append, length-take, eqb, ltb, leb, le-leb, lt-leb}
use Rattle.laws.proofs.Kit.{leb-true, ltb-false, eqb-false, arith}
use lib.ListN.{get_or-append}
use Rattle.laws.specs.Bytes.{AreBytes, be16}
use Rattle.laws.proofs.Cases.{on}
use Rattle.laws.proofs.Numbers.{be16-below}
use Rattle.wire.specs.Reader.{wanted}
use Rattle.lines.specs.declared.stream.Next.TheVariants.{Message, More}
use Rattle.lines.specs.declared.listing.Stage.TheVariants.{Going}
use Rattle.lines.specs.Stream.{ahead}
use Rattle.lines.specs.Listing.{turn_by}

pub wanted-below : (s : List ℕ) → AreBytes s → wanted s < 65536
unfolding wanted
wanted-below s bytes = on (ltb (be16 s 2) 42) (λ e. rw e (omega arith)) (λ e. rw e (be16-below s bytes 2))

-- A turn on what is ahead takes no more bytes than there are.
pub ahead-fits : (s : List ℕ) (ended : Bool) → (turn_by s (ahead s ended)).size ≤ length s
unfolding ahead
ahead-fits s ended =
    on (leb (wanted s) (length s)) (λ p. rw p (leb-true (wanted s) (length s) p)) λ p.
    on ended (λ q. on (eqb (length s) 0) (λ r. rw (p, q, r) (omega arith)) (λ r. rw (p, q, r) (omega arith))) λ q. rw (p, q) (omega arith)

-- A message that is found lies in the stream.
pub message-fits : (s : List ℕ) (ended : Bool) (size : ℕ) → Message size ≡ ahead s ended → size ≤ length s
message-fits s ended size e = rw (sym e) at (ahead-fits s ended)

pub message-taken : (s : List ℕ) (ended : Bool) (size : ℕ) → Message size ≡ ahead s ended → size ≡ length (take size s)
message-taken s ended size e = rw length-take (omega (arith, message-fits s ended size e))

-- A message takes 42 bytes at least.
pub wanted-least : (s : List ℕ) → 42 ≤ wanted s
unfolding wanted
wanted-least s = on (ltb (be16 s 2) 42) (λ e. rw e (omega arith)) (λ e. rw e (omega (arith, ltb-false (be16 s 2) 42 e)))

-- How many it takes is said in its first four bytes.
pub wanted-append : (s more : List ℕ) → 4 ≤ length s → wanted (s ++ more) ≡ wanted s
unfolding wanted
wanted-append s more h =
    let p : 2 < length s = omega arith in
    let q : 3 < length s = omega arith in
    rw (get_or-append s more 0 2 p, get_or-append s more 0 3 q)

-- A message that is whole is found, whatever follows it.
pub ahead-whole : (s more : List ℕ) (ended : Bool) → wanted s ≤ length s → ahead (s ++ more) ended ≡ Message (wanted s)
unfolding ahead
ahead-whole s more ended h =
    let k = wanted-least s in
    let fits : wanted s ≤ length (s ++ more) = omega (arith, length-append s more) in
    rw (wanted-append s more (omega arith), le-leb (wanted s) (length (s ++ more)) fits)

-- A message that is not whole is waited for.
pub ahead-part : (s : List ℕ) → length s < wanted s → ahead s false ≡ More
unfolding ahead
ahead-part s h = rw (lt-leb (wanted s) (length s) h)

-- A turn on what is ahead that goes on takes a byte.
pub ahead-moves : (s : List ℕ) (ended : Bool) → (turn_by s (ahead s ended)).stage ≡ Going → 0 < (turn_by s (ahead s ended)).size
unfolding ahead
ahead-moves s ended =
    on (leb (wanted s) (length s)) (λ p. rw p (λ g. omega (arith, wanted-least s))) λ p.
    on ended (λ q. on (eqb (length s) 0) (λ r. rw (p, q, r) (λ g. cc))
    (λ r. rw (p, q, r) (λ g. omega (arith, eqb-false (length s) 0 r))))
    λ q. rw (p, q) (λ g. cc)
