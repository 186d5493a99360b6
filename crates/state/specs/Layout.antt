-- SPDX-License-Identifier: MPL-2.0
-- Where in the bytes of a connection each part stands: each place is the one before plus the size of what stands there. The heard set has a bit
-- for each piece that a report may have, and all that stands after it moves with their number.
use Rattle.std.specs.Prelude.{ℕ, ◌+◌, ◌/◌}
use Rattle.joining.specs.Heard.{most}

-- The fragment size, eight bytes.
abbrev pub size_place : ℕ
size_place = 0

-- The state, one byte.
abbrev pub state_place : ℕ
state_place = size_place + 8

-- The SessionID, eight bytes.
abbrev pub session_place : ℕ
session_place = state_place + 1

-- The nonce, eight bytes.
abbrev pub nonce_place : ℕ
nonce_place = session_place + 8

-- X, Y and the digest of the certificate, thirty-two bytes each.
abbrev pub x_place : ℕ
x_place = nonce_place + 8

abbrev pub y_place : ℕ
y_place = x_place + 32

abbrev pub digest_place : ℕ
digest_place = y_place + 32

-- The progress begins with the expected number, four bytes.
abbrev pub expected_place : ℕ
expected_place = digest_place + 32

-- The heard set, a bit for each piece.
abbrev pub heard_place : ℕ
heard_place = expected_place + 4

abbrev pub heard_size : ℕ
heard_size = most / 8

-- The remembered count and the channel, eight bytes each.
abbrev pub count_place : ℕ
count_place = heard_place + heard_size

abbrev pub channel_place : ℕ
channel_place = count_place + 8

-- The last length, two bytes.
abbrev pub last_place : ℕ
last_place = channel_place + 8

-- The bytes of a connection: 151 where a report has at most 64 pieces.
abbrev pub state_size : ℕ
state_size = last_place + 2
