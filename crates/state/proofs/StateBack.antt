-- SPDX-License-Identifier: MPL-2.0
-- The connection that a state was made of is read back from it: the parts stand one after the other, each at its place.
use Rattle.laws.proofs.Kit.{ℕ, ◌+◌, ◌*◌, ◌/◌, ◌%◌, ◌<◌, ◌≡◌, refl, sym, ◌∙◌, ap, Bool, false, List, [], ◌∷◌, append-nil, length, get_or, length-append}
use Rattle.laws.proofs.Kit.{div-add-mod', arith}
use lib.Seq.{ext_get_or}
use Rattle.laws.specs.Bytes.{be8, be16, be32, be64, bytes_at, bytes16, bytes32, bytes64}
use Rattle.wire.specs.Fields.{most_pieces}
use Rattle.joining.specs.Heard.{has, most}
use Rattle.hub.specs.declared.Connection.{Connection}
use Rattle.state.specs.Layout.{heard_place, heard_size, state_size}
use Rattle.state.specs.State.{joined, bit_at, heard_at, heard_byte, heard_bytes, progress_at, connection_at, Fits, ReadBack}
use Rattle.state.specs.State.{progress_parts, progress_bytes, state_bytes}
use Rattle.laws.proofs.Runs.{length-gathered}
use Rattle.state.proofs.Gathered.{gathered-at, bytes_at-gathered}
use Rattle.state.proofs.Parted.{Stand, joined-stand}
use Rattle.state.proofs.Sames.{same-progress, same-connection}
use Rattle.state.proofs.Bits.{eight-bit}

-- Each byte of the heard set has eight indexes.
pub eights : 8 * heard_size ≡ most
unfolding most_pieces
eights = refl

-- The parts of a connection, those of its progress among them.
abbrev pub all_parts : Connection → List (List ℕ)
all_parts c =
    bytes64 c.size ∷ (c.state ∷ []) ∷ bytes64 c.session ∷ c.nonce ∷ c.x ∷ c.y ∷ c.digest ∷ progress_parts c.progress

pub all-parts : (c : Connection) → state_bytes c ≡ joined (all_parts c)
unfolding state_bytes progress_bytes
all-parts c = rw (append-nil (joined (progress_parts c.progress)))

-- A number is read from its bytes.
read16 : {l : List ℕ} (n : ℕ) → l ≡ bytes16 n → be16 l 0 ≡ n
read16 n e = rw e (simp div-add-mod')

read32 : {l : List ℕ} (n : ℕ) → l ≡ bytes32 n → be32 l 0 ≡ n
read32 n e = rw e (simp div-add-mod')

pub read64 : {l : List ℕ} (n : ℕ) → l ≡ bytes64 n → be64 l 0 ≡ n
read64 n e = rw e (simp div-add-mod')

-- The heard set, where its bytes stand at their place.
module _ (s : List ℕ) (h : List Bool) (e : bytes_at s heard_place heard_size ≡ heard_bytes h heard_size) where
  byte-back : (i : ℕ) → i < heard_size → be8 s (heard_place + i) ≡ heard_byte h i
  byte-back i l =
      sym (gathered-at (λ (k : ℕ). be8 s (heard_place + k)) 0 heard_size i l)
      ∙ ap (λ (l : List ℕ). get_or l i 0) (sym (bytes_at-gathered s heard_place heard_size) ∙ e)
      ∙ gathered-at (heard_byte h) 0 heard_size i l

  bit-back : (i : ℕ) → i < most → bit_at s i ≡ has h i
  bit-back i l =
      let j : i / 8 < heard_size = omega (arith, eights) in
      let k : i % 8 < 8 = omega arith in
      let e : 8 * (i / 8) + i % 8 ≡ i = omega arith in
      rw (byte-back (i / 8) j) (eight-bit h (8 * (i / 8)) (i % 8) k ∙ ap (has h) e)

  heard-back : length h ≡ most → heard_at s most ≡ h
  heard-back f =
      let n = length-gathered (bit_at s) most in
      ext_get_or false (heard_at s most) h (n ∙ sym f) (λ i l. gathered-at (bit_at s) false most i (rw n at l) ∙ bit-back i (rw n at l))

state-back : (s : List ℕ) (c : Connection) → Fits c → Stand s 0 (all_parts c) → connection_at s ≡ c
unfolding connection_at most_pieces bytes_at
state-back s c f w =
    let (size, (state, (session, (nonce, (x, (y, (digest, (expected, (heard, (count, (channel, (last, end)))))))))))) =
    rw (f.nonce, f.x, f.y, f.digest, length-gathered (heard_byte c.progress.heard) heard_size) at w in
    let progress = same-progress (progress_at s) c.progress (read32 _ expected) (heard-back s c.progress.heard heard f.heard)
    (read64 _ count) (read64 _ channel) (read16 _ last) in
    same-connection _ c (read64 _ size) (ap (λ (l : List ℕ). be8 l 0) state) (read64 _ session) nonce x y digest progress

-- The bytes of a connection are as many as a state has.
pub state-length : (c : Connection) → length c.nonce ≡ 8 → length c.x ≡ 32 → length c.y ≡ 32 → length c.digest ≡ 32 → length (state_bytes c) ≡ state_size
unfolding most_pieces
state-length c nonce x y digest =
    rw (all-parts c) (simp (length-append, nonce, x, y, digest, length-gathered (heard_byte c.progress.heard) heard_size))

pub read_back : ReadBack
read_back c f = (
  state-length c f.nonce f.x f.y f.digest,
  rw (all-parts c) (state-back (joined (all_parts c)) c f (joined-stand [] (all_parts c))),
)
