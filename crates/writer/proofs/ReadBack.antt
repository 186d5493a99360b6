-- SPDX-License-Identifier: MPL-2.0
-- What is written reads back: `read_header` gives back every header that the writer accepts, with the place and the length of what stands
-- between its chain and its tag.
use Rattle.laws.proofs.Kit.{ℕ, ◌+◌, ◌-◌, ◌%◌, ◌≤◌, ◌≡◌, refl, sym, ◌∙◌, ap, true, false, not, ◌&&◌, ◌||◌, List, ◌++◌, append_assoc, length}
use Rattle.laws.proofs.Kit.{length-append, take-append_seam, eqb, eq-eqb, ne_eqb, le-ltb, div-add-mod', arith}
use Rattle.laws.specs.Bytes.{be16}
use Rattle.laws.specs.Rows.{first}
use Rattle.laws.proofs.Cases.{on}
use Rattle.wire.specs.Fields.{bad_type, bad_flags, bad_piece, is_sealed, tag_size}
use Rattle.wire.specs.Chain.{bad_chain}
use Rattle.wire.specs.Reader.{header_of, room_of, chain_of, header_rows, rows_of, refusal_with, refusal_of, read_header}
use Rattle.writer.specs.Header.{header_bytes}
use Rattle.wire.specs.declared.header.Header.{Header}
use Rattle.std.specs.Prelude.{Ok}
use Rattle.wire.proofs.Chains.{chain-long}
use Rattle.wire.proofs.Reading.{read-good}
use Rattle.writer.proofs.ChainBack.{leaving, chain_back}

pub header-back : (h : Header) (size : ℕ) (rest : List ℕ) → header_of (header_bytes h size ++ rest) ≡ h
unfolding header_bytes
header-back h size rest = simp div-add-mod'

-- What the writer's tests make sure of, where `body` is the payload or the sealed part.
pub record Accepted (h : Header) (chain body tag : List ℕ) : Type 0 where
  pub kind : bad_type h.kind ≡ false
  pub flags : bad_flags h.kind h.flags ≡ false
  pub piece : bad_piece h.kind h.index h.count ≡ false
  pub chained : bad_chain chain ≡ false
  pub tagged : length tag ≡ tag_size h.flags
  pub blocks : is_sealed h.flags ≡ true → (length body % 16 ≡ 0) × (1 ≤ length body)

module _ (h : Header) (chain body tag : List ℕ) where
  abbrev pub size : ℕ
  size = 40 + length chain + length body + length tag

  -- The message: header, chain, body, tag.
  abbrev pub message : List ℕ
  message = header_bytes h size ++ (chain ++ (body ++ tag))

  length-message : length message ≡ size
  unfolding header_bytes
  length-message = simp length-append (omega arith)

  fields : header_of message ≡ h
  fields = header-back h size (chain ++ (body ++ tag))

  module _ (a : Accepted h chain body tag) where
    tags : tag_size (be16 message 6) ≡ length tag
    tags = ap (λ (g : Header). tag_size g.flags) fields ∙ sym a.tagged

    chained : chain_of message ≡ leaving (length body)
    unfolding chain_of room_of header_bytes
    chained =
        let n : length message - length tag - 40 ≡ length (chain ++ body) = omega (arith, length-message, length-append chain body) in
        rw (tags, n, ← append_assoc chain body tag, take-append_seam (chain ++ body) tag) (chain_back body chain a.chained)

    even-blocks : (is_sealed h.flags && (eqb (length body) 0 || not (eqb (length body % 16) 0))) ≡ false
    even-blocks =
        on (is_sealed h.flags)
        (λ s. let q = a.blocks s in rw (s, ne_eqb (length body) 0 (λ z. omega arith), eq-eqb (length body % 16) 0 q.0))
        (λ s. rw s)

    -- None of the rows applies.
    none : (n : ℕ) → 42 ≤ n → first (header_rows n 0x3030 n 3 h false (length body)) ≡ 0
    unfolding header_rows
    none n long = rw (le-ltb n 42 long, eq-eqb n n refl, a.kind, a.flags, a.piece, even-blocks)

    accepted : refusal_of message ≡ 0
    unfolding refusal_of refusal_with rows_of header_bytes
    accepted =
        let said : be16 message 2 ≡ length message = div-add-mod' size 256 ∙ sym length-message in
        rw (said, chained, fields) (none (length message) (omega (arith, length-message, chain-long chain a.chained)))

    -- What is written reads back.
    pub read_back : read_header message ≡ Ok (record { header = h; start = 40 + length chain; size = length body })
    read_back =
        let start : length message - length tag - length body ≡ 40 + length chain = omega (arith, length-message) in
        rw (read-good message accepted, chained, tags, start, fields)
