-- SPDX-License-Identifier: MPL-2.0
-- Laws of `read_header`, by the number of the first refusal, and of headers.
use Rattle.laws.proofs.Kit.{ℕ, ◌≡◌, List, eq-eqb, ne_eqb}
use Rattle.wire.specs.Reader.{header_found, refusal_of, read_header}
use Rattle.wire.specs.declared.header.Header.{Header}
use Rattle.std.specs.Prelude.{Ok, Err}

pub read-refused : (m : List ℕ) (n : ℕ) → n ≡ refusal_of m → (n ≡ 0 → ⊥) → read_header m ≡ Err n
unfolding read_header
read-refused m n e h = rw (← e, ne_eqb n 0 h)

pub read-good : (m : List ℕ) → refusal_of m ≡ 0 → read_header m ≡ Ok (header_found m)
unfolding read_header
read-good m h = rw (eq-eqb (refusal_of m) 0 h)

-- Two headers are the same whose fields are.
pub same-header : (g h : Header) → g.kind ≡ h.kind → g.flags ≡ h.flags → g.sequence ≡ h.sequence → g.request ≡ h.request
    → g.index ≡ h.index → g.count ≡ h.count → g.session ≡ h.session → g.channel ≡ h.channel → g ≡ h
same-header g h k f s r n c x y =
    λ i. record { kind = k i; flags = f i; sequence = s i; request = r i; index = n i; count = c i; session = x i; channel = y i }
