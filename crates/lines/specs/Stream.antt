-- SPDX-License-Identifier: MPL-2.0
-- A stream of messages back to back: what it begins with. The stream is what has been read and not yet taken; `ended` says that nothing
-- will follow it.
use Rattle.std.specs.Prelude.{ℕ, List, Bool, not, cond, length, leb, eqb}
use Rattle.wire.specs.Reader.{wanted}
use Rattle.lines.specs.declared.stream.Next.{Next}
use Rattle.lines.specs.declared.stream.Next.TheVariants.{Message, More, End}

-- "MessageLength bytes at a time, at least 42, or what is left."
unfoldable pub ahead : List ℕ → Bool → Next
ahead stream ended =
    cond (leb (wanted stream) (length stream)) (Message (wanted stream))
    (cond (not ended) More (cond (eqb (length stream) 0) End (Message (length stream))))
