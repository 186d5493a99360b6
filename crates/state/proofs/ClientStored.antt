-- SPDX-License-Identifier: MPL-2.0
-- A gateway's connection and its bytes, both ways.
use Rattle.laws.proofs.Kit.{ℕ, ◌+◌, ◌≤◌, ◌≡◌, refl, sym, ◌∙◌, ap, List, [], length, take-length, arith}
use Rattle.laws.specs.Bytes.{AreBytes, be8, bytes_at}
use Rattle.laws.proofs.Parts.{bytes_at-part}
use Rattle.laws.proofs.NumberBytes.{bytes-be64}
use Rattle.gateway.specs.declared.Gateway.{Gateway}
use Rattle.state.specs.Layout.{size_place, session_place}
use Rattle.state.specs.Client.{gateway_at, gateway_parts, gateway_bytes, GatewayStored}
use Rattle.state.proofs.Parted.{Stand, joined-stand, stand-joined}
use Rattle.state.proofs.StateBack.{read64}

pub same-gateway : (g h : Gateway) → g.size ≡ h.size → g.state ≡ h.state → g.session ≡ h.session → g ≡ h
same-gateway g h f s t = λ i. record { size = f i; state = s i; session = t i }

stand-back : (s : List ℕ) (g : Gateway) → Stand s 0 (gateway_parts g) → gateway_at s ≡ g
unfolding gateway_at bytes_at
stand-back s g (size, (state, (session, end))) =
    same-gateway _ g (read64 _ size) (ap (λ (l : List ℕ). be8 l 0) state) (read64 _ session)

parts-stand : (s : List ℕ) → AreBytes s → Stand s 0 (gateway_parts (gateway_at s))
unfolding gateway_at bytes_at
parts-stand s bytes = (bytes-be64 s bytes size_place, (refl, (bytes-be64 s bytes session_place, tt)))

pub gateway-stored : GatewayStored
unfolding gateway_bytes
gateway-stored =
    record {
      back = λ g. (refl, stand-back (gateway_bytes g) g (joined-stand [] (gateway_parts g)));
      whole = λ s e bytes.
          let k : 0 + length s ≤ length s = omega arith in
          stand-joined s 0 (gateway_parts (gateway_at s)) (parts-stand s bytes)
          ∙ ap (bytes_at s 0) (sym e)
          ∙ bytes_at-part s 0 (length s) k
          ∙ take-length s;
    }
