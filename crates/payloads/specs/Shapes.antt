-- SPDX-License-Identifier: MPL-2.0
-- The payloads of Discovery and Connect, each as a format, one line a field; the shapes, which are one list of them.
use Rattle.std.specs.Prelude.{ℕ, List, [], ◌∷◌, Bool, true, false, not, ◌&&◌, ◌||◌, leb, eqb}
use Rattle.payloads.specs.Format.{one, two, four, end, fixed, free, array, sized, Format, ◌then◌, accepts}

-- Numbers from 0 to n.
abbrev pub at_most : ℕ → ℕ → Bool
at_most n x = leb x n

-- Every number.
abbrev pub any_number : ℕ → Bool
any_number x = true

-- One of two numbers.
abbrev pub either : ℕ → ℕ → ℕ → Bool
either a b x = eqb x a || eqb x b

-- "A Presence Request's payload is the single byte 0."
abbrev pub presence_request : Format
presence_request = fixed one 0 then end

-- "A Presence Response's payload is DiscoveryType 1 (1), ConnectionMode 0 to 2 (2), DeviceType (2), name length 0 to 64 (2), name, salt (4), hash
-- (4), nothing after it"
abbrev pub presence_response : Format
presence_response =
    fixed one 1
    then free two (at_most 2)
    then free two any_number
    then sized two 0 64
    then array 4
    then array 4
    then end

-- "Each starts with ConnectionMode (2 bytes, 0 to 2) and a type byte."
abbrev pub of_type : ℕ → Format → Format
of_type type rest =
    free two (at_most 2)
    then fixed one type
    then rest

-- "HMACSize 32 (2), Nonce (8), fragment size 16,384 (4), X length 32 (2), X, Y length 32 (2), Y. 86 bytes in all."
abbrev pub exchange : Format
exchange =
    fixed two 32
    then array 8
    then fixed four 16384
    then fixed two 32
    then array 32
    then fixed two 32
    then array 32
    then end

-- "0 Connection Request: curve 0 (1)", and the fields above.
abbrev pub connection_request : Format
connection_request = of_type 0 (fixed one 0 then exchange)

-- "1 Connection Response: Result 0 to 3 (1); if Result is 1 (Pending) the fields from HMACSize on follow, 86 bytes in all"
abbrev pub pending_response : Format
pending_response = of_type 1 (fixed one 1 then exchange)

-- "else nothing, 4 bytes"
abbrev pub other_response : Format
other_response = of_type 1 (free one (λ result. at_most 3 result && not (eqb result 1)) then end)

-- "2 and 3 Device Authentication Request and Response: certificate length 1 to 2,048 (2), certificate, thumbprint length 0 to 512 (2),
-- thumbprint, nothing after it."
abbrev pub device_authentication : Format
device_authentication =
    free two (at_most 2)
    then free one (either 2 3)
    then sized two 1 2048
    then sized two 0 512
    then end

-- "6 Authentication Done Request: nothing more, 3 bytes."
abbrev pub done_request : Format
done_request = of_type 6 end

-- "7 Authentication Done Response: Status 0 to 4 (1), 4 bytes."
abbrev pub done_response : Format
done_response = of_type 7 (free one (at_most 4) then end)

-- A shape: message type, whether it is sealed, and the format.
abbrev pub Shape : Type 0
Shape = ℕ × Bool × Format

-- The shapes. "Types 0 and 1 are plain, the others sealed; the other way is 14."
abbrev pub shapes : List Shape
shapes =
    (1, false, presence_request)
    ∷ (2, false, connection_request)
    ∷ (2, false, pending_response)
    ∷ (2, false, other_response)
    ∷ (2, true, device_authentication)
    ∷ (2, true, done_request)
    ∷ (2, true, done_response)
    ∷ (1, false, presence_response)
    ∷ []

-- Sealed as the shape asks.
abbrev pub sealed_as : Bool → Bool → Bool
sealed_as sealed true = sealed
sealed_as sealed false = not sealed

-- A payload has one of the shapes of a list.
abbrev pub has_shape : ℕ → Bool → List ℕ → List Shape → Bool
has_shape kind sealed p [] = false
has_shape kind sealed p (row ∷ rows) = (eqb kind row.0 && sealed_as sealed row.1 && accepts row.2 p) || has_shape kind sealed p rows

-- A payload has one of the shapes.
unfoldable pub is_shaped : ℕ → Bool → List ℕ → Bool
is_shaped kind sealed p = has_shape kind sealed p shapes

-- Refusal 14: "Discovery or Connect payload not as above".
unfoldable pub bad_payload : ℕ → Bool → List ℕ → Bool
bad_payload kind sealed p = (eqb kind 1 || eqb kind 2) && not (is_shaped kind sealed p)
