-- SPDX-License-Identifier: MPL-2.0
-- The numbers of document 01's table "Refusal numbers", each named by the fault; and the refusals that have them.
use Rattle.std.specs.Prelude.{ℕ, ◌-◌, ◌≡◌, refl, List, [], ◌∷◌, get_or}
use Rattle.wire.specs.declared.refusals.Refusal.{Refusal}
use Rattle.wire.specs.declared.refusals.Refusal.TheVariants as fault

-- tests/refusals/write: definitions
-- fewer than 42 bytes
abbrev pub too_short : ℕ
too_short = 1

-- wrong signature
abbrev pub wrong_signature : ℕ
wrong_signature = 2

-- MessageLength under 42 or not the bytes given
abbrev pub wrong_length : ℕ
wrong_length = 3

-- version not 3
abbrev pub wrong_version : ℕ
wrong_version = 4

-- type not 1, 2, 4
abbrev pub wrong_type : ℕ
wrong_type = 5

-- a flag above 8; flags 2 and 4 not alike; sealed Discovery; plain Session
abbrev pub wrong_flags : ℕ
wrong_flags = 6

-- count 0 or over 64; index not under count; count not 1 outside Session
abbrev pub wrong_piece : ℕ
wrong_piece = 7

-- chain leaves its room (message less tag), unknown type, type 0 with a size, over 8 entries
abbrev pub wrong_chain : ℕ
wrong_chain = 8

-- sealed part empty or no multiple of 16
abbrev pub wrong_sealed_size : ℕ
wrong_sealed_size = 9

-- keys not 64 bytes
abbrev pub wrong_keys : ℕ
wrong_keys = 10

-- tag differs
abbrev pub wrong_tag : ℕ
wrong_tag = 11

-- working buffer shorter than the sealed part
abbrev pub short_working : ℕ
short_working = 12

-- size or padding not as the rule gives
abbrev pub wrong_padding : ℕ
wrong_padding = 13

-- Discovery or Connect payload not as above
abbrev pub wrong_payload : ℕ
wrong_payload = 14

-- message not allowed in this state, by role
abbrev pub not_allowed : ℕ
not_allowed = 15

-- state not 0 and another SessionID; on the gateway's side another SessionID in every state
abbrev pub other_session : ℕ
other_session = 16

-- SequenceNumber below the expected one
abbrev pub past_sequence : ℕ
past_sequence = 17

-- SequenceNumber above the expected one
abbrev pub future_sequence : ℕ
future_sequence = 18

-- SequenceNumber is 2^32 − 1
abbrev pub last_sequence : ℕ
last_sequence = 19

-- piece not F bytes and not last; last over F; last empty with count over 1; in the writer: Session payload over 16,384
abbrev pub wrong_piece_size : ℕ
wrong_piece_size = 20

-- count or channel unlike the first piece taken of this message
abbrev pub unlike_first_piece : ℕ
unlike_first_piece = 21

-- F × index + piece length exceeds the report buffer; or writer's output too small
abbrev pub no_room : ℕ
no_room = 22

-- index already heard, and the bytes differ from the report buffer's there, or the length from the one taken
abbrev pub unlike_repeat : ℕ
unlike_repeat = 23

-- F outside 1 to 16,384
abbrev pub wrong_fragment_size : ℕ
wrong_fragment_size = 24

-- verdict not 0 or 1
abbrev pub wrong_verdict : ℕ
wrong_verdict = 25

-- tests/refusals/write: end

-- The number of each.
abbrev pub number : Refusal → ℕ
-- tests/refusals/write: numbers
number fault.TooShort = too_short
number fault.WrongSignature = wrong_signature
number fault.WrongLength = wrong_length
number fault.WrongVersion = wrong_version
number fault.WrongType = wrong_type
number fault.WrongFlags = wrong_flags
number fault.WrongPiece = wrong_piece
number fault.WrongChain = wrong_chain
number fault.WrongSealedSize = wrong_sealed_size
number fault.WrongKeys = wrong_keys
number fault.WrongTag = wrong_tag
number fault.ShortWorking = short_working
number fault.WrongPadding = wrong_padding
number fault.WrongPayload = wrong_payload
number fault.NotAllowed = not_allowed
number fault.OtherSession = other_session
number fault.PastSequence = past_sequence
number fault.FutureSequence = future_sequence
number fault.LastSequence = last_sequence
number fault.WrongPieceSize = wrong_piece_size
number fault.UnlikeFirstPiece = unlike_first_piece
number fault.NoRoom = no_room
number fault.UnlikeRepeat = unlike_repeat
number fault.WrongFragmentSize = wrong_fragment_size
number fault.WrongVerdict = wrong_verdict

-- tests/refusals/write: end

-- All of them, in the order of their numbers.
abbrev pub refusals : List Refusal
refusals =
    -- tests/refusals/write: refusals
    fault.TooShort
    ∷ fault.WrongSignature
    ∷ fault.WrongLength
    ∷ fault.WrongVersion
    ∷ fault.WrongType
    ∷ fault.WrongFlags
    ∷ fault.WrongPiece
    ∷ fault.WrongChain
    ∷ fault.WrongSealedSize
    ∷ fault.WrongKeys
    ∷ fault.WrongTag
    ∷ fault.ShortWorking
    ∷ fault.WrongPadding
    ∷ fault.WrongPayload
    ∷ fault.NotAllowed
    ∷ fault.OtherSession
    ∷ fault.PastSequence
    ∷ fault.FutureSequence
    ∷ fault.LastSequence
    ∷ fault.WrongPieceSize
    ∷ fault.UnlikeFirstPiece
    ∷ fault.NoRoom
    ∷ fault.UnlikeRepeat
    ∷ fault.WrongFragmentSize
    ∷ fault.WrongVerdict
    ∷ []
    -- tests/refusals/write: end

-- The refusal of a number.
abbrev pub refusal_of : ℕ → Refusal
refusal_of n = get_or refusals (n - 1) fault.TooShort

-- Its number says which refusal it is.
pub refusal_of-number : (r : Refusal) → refusal_of (number r) ≡ r
-- tests/refusals/write: inverses
refusal_of-number fault.TooShort = refl
refusal_of-number fault.WrongSignature = refl
refusal_of-number fault.WrongLength = refl
refusal_of-number fault.WrongVersion = refl
refusal_of-number fault.WrongType = refl
refusal_of-number fault.WrongFlags = refl
refusal_of-number fault.WrongPiece = refl
refusal_of-number fault.WrongChain = refl
refusal_of-number fault.WrongSealedSize = refl
refusal_of-number fault.WrongKeys = refl
refusal_of-number fault.WrongTag = refl
refusal_of-number fault.ShortWorking = refl
refusal_of-number fault.WrongPadding = refl
refusal_of-number fault.WrongPayload = refl
refusal_of-number fault.NotAllowed = refl
refusal_of-number fault.OtherSession = refl
refusal_of-number fault.PastSequence = refl
refusal_of-number fault.FutureSequence = refl
refusal_of-number fault.LastSequence = refl
refusal_of-number fault.WrongPieceSize = refl
refusal_of-number fault.UnlikeFirstPiece = refl
refusal_of-number fault.NoRoom = refl
refusal_of-number fault.UnlikeRepeat = refl
refusal_of-number fault.WrongFragmentSize = refl
refusal_of-number fault.WrongVerdict = refl

-- tests/refusals/write: end

-- The number of a row: the refusal that is made of n has the number n.
abbrev pub IsRow : ℕ → Type 0
IsRow n = number (refusal_of n) ≡ n
