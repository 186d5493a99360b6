-- SPDX-License-Identifier: MPL-2.0
-- Opening what was sealed gives it back: the tag is over the same bytes, the vector of the same header, and decryption undoes encryption.
use Rattle.laws.proofs.Kit.{ℕ, ◌+◌, ◌-◌, ◌/◌, ◌%◌, ◌≤◌, ◌<◌, ◌≡◌, ◌∙◌, List, ◌++◌, append_assoc, length, take, drop, length-append, length-drop}
use Rattle.laws.proofs.Kit.{take_at, length-take-le, drop_at, take-append_seam, le-ltb, lt-leb, arith}
use lib.Seq.{drop-append_seam}
use Rattle.laws.specs.Bytes.{AreBytes}
use Rattle.laws.proofs.Parts.{length-bytes_at}
use Rattle.laws.proofs.Sames.{same_refl}
use Rattle.aes.specs.State.{Block}
use Rattle.aes.specs.Key.{expand_key}
use Rattle.aes.specs.Cbc.{cbc_encrypt}
use Rattle.aes.proofs.Schedule.{expand_key-keys}
use Rattle.aes.proofs.Undo.{cipher-block}
use Rattle.aes.proofs.Chain.{Blocks, cbc_decrypt-cbc_encrypt}
use Rattle.seal.specs.Keys.{encryption_key, vector_key, vector_block, vector, tag_of}
use Rattle.seal.specs.Padding.{padding, sealed_size, padding_bytes, plain_text}
use Rattle.seal.specs.Opening.{body_of, tag_in, sealed_part, plain_of, no_part, part_refusal, open_refusal}
use Rattle.seal.specs.Sealed.{sealed_body, sealed_message}
use Rattle.laws.proofs.ByteLists.{append-bytes, take-bytes, drop-bytes, replicate-bytes, bytes_at-bytes, bytes32-bytes}
use Rattle.seal.proofs.Padded.{sizes, length-plain_text, plain_text-accepted}
use Rattle.seal.proofs.Seals.{vector-front, length-sealed, length-body, length-tag}

-- The parts of a sealed message, each found again where it was put.
module _ (keys before payload : List ℕ) where
  abbrev sealed : List ℕ
  sealed = cbc_encrypt (expand_key (encryption_key keys)) (vector keys before) (plain_text payload)

  abbrev body : List ℕ
  body = sealed_body keys before payload

  abbrev message : List ℕ
  message = sealed_message keys before payload

  pub length-sealed_message : length (sealed_message keys before payload) ≡ length before + sealed_size (length payload) + 32
  unfolding sealed_message
  length-sealed_message = rw (length-append, length-body, length-tag)

  to-tag : length body ≡ length message - 32
  to-tag = omega (arith, length-body keys before payload, length-sealed_message)

  ends-back : (body_of message ≡ body) × (tag_in message ≡ tag_of keys body)
  unfolding sealed_message
  ends-back = (take_at body (tag_of keys body) (length message - 32) to-tag, drop_at body (tag_of keys body) (length message - 32) to-tag)

  pub in_parts : sealed_message keys before payload ≡ before ++ (sealed ++ tag_of keys body)
  unfolding sealed_message sealed_body
  in_parts = append_assoc before sealed (tag_of keys body)

  pub length_part : length (cbc_encrypt (expand_key (encryption_key keys)) (vector keys before) (plain_text payload)) ≡ sealed_size (length payload)
  length_part = length-sealed (expand_key (encryption_key keys)) (vector keys before) payload

  part-back : sealed_part (sealed_message keys before payload) (length before) ≡ sealed
  unfolding sealed_part
  part-back =
      let n : length message - 32 - length before ≡ length sealed = omega (arith, length_part, length-sealed_message) in
      rw (n, in_parts, drop-append_seam, take-append_seam)

  vector-back : 40 ≤ length before → vector keys message ≡ vector keys before
  vector-back long = rw (← vector-front keys message (length before) long, in_parts, take-append_seam)

-- Keys, vector and plain text are blocks of bytes.
block : (b : List ℕ) → length b ≡ 16 → AreBytes b → Block b
block b l w = record { len = l; bytes = λ i k. w.at i }

key-block : (n : ℕ) (keys : List ℕ) → n + 16 ≤ length keys → AreBytes keys → Block (take 16 (drop n keys))
key-block n keys h w =
    block (take 16 (drop n keys)) (length-take-le 16 (drop n keys) (simp length-drop (omega arith)))
    (take-bytes 16 (drop n keys) (drop-bytes n keys w))

vector-block : (keys m : List ℕ) → 32 ≤ length keys → AreBytes keys → AreBytes m → Block (vector keys m)
unfolding vector vector_block
vector-block keys m h v w =
    cipher-block (expand_key (vector_key keys)) (expand_key-keys (vector_key keys) (key-block 16 keys h v)) (vector_block m)
    (block (vector_block m) (simp (length-append, length-bytes_at))
    (append-bytes (bytes_at-bytes m 24 8 w) (append-bytes (bytes_at-bytes m 8 4 w) (append-bytes (bytes_at-bytes m 20 2 w) (bytes_at-bytes m 22 2 w)))))

plain-blocks : (payload : List ℕ) → length payload < 4294967296 → AreBytes payload → Blocks (sealed_size (length payload) / 16) (plain_text payload)
unfolding plain_text padding_bytes
plain-blocks payload small w =
    let s = sizes (length payload) in
    let pads : padding (length payload) < 256 = omega arith in
    let all : AreBytes (plain_text payload) =
    append-bytes (bytes32-bytes (length payload) small) (append-bytes w (replicate-bytes (padding (length payload)) _ pads)) in
    record { len = length-plain_text payload ∙ omega arith; bytes = λ i k. all.at i }

module _ (keys before payload : List ℕ) (whole : length keys ≡ 64) (long : 42 ≤ length before)
    (short : length before + sealed_size (length payload) ≤ 65503) (of-keys : AreBytes keys) (of-before : AreBytes before)
    (of-payload : AreBytes payload) where
  small : length payload < 4294967296
  small = let s = sizes (length payload) in omega arith

  -- What was sealed is opened,
  pub opened-back : plain_of keys (sealed_message keys before payload) (sealed_part (sealed_message keys before payload) (length before))
      ≡ plain_text payload
  unfolding plain_of
  opened-back =
      rw (part-back keys before payload, vector-back keys before payload (omega arith))
      (cbc_decrypt-cbc_encrypt (expand_key (encryption_key keys)) (expand_key-keys (encryption_key keys) (key-block 0 keys (omega arith) of-keys))
      (sealed_size (length payload) / 16) (vector keys before) (plain_text payload) (vector-block keys before (omega arith) of-keys of-before)
      (plain-blocks payload small of-payload))

  -- and none of the refusals applies.
  pub opens_back : (room : ℕ) → sealed_size (length payload) ≤ room → open_refusal keys (sealed_message keys before payload) (length before) room ≡ 0
  unfolding open_refusal part_refusal no_part
  opens_back room fits =
      let m = sealed_message keys before payload in
      let n = length-sealed_message keys before payload in
      let b = sizes (length payload) in
      let s : length (sealed_part m (length before)) ≡ sealed_size (length payload) = rw part-back (length_part keys before payload) in
      let blocks : (length m - 32 - length before) % 16 ≡ 0 = omega arith in
      rw (
        le-ltb (length m) 42 (omega arith),
        le-ltb 65535 (length m) (omega arith),
        lt-leb (length m - 32) (length before) (omega arith),
        blocks,
        whole,
        (ends-back keys before payload).0,
        (ends-back keys before payload).1,
        same_refl (tag_of keys (sealed_body keys before payload)),
        le-ltb room (length (sealed_part m (length before))) (omega arith),
        opened-back,
        plain_text-accepted payload small,
      )
