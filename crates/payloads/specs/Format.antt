-- SPDX-License-Identifier: MPL-2.0
-- A payload's format is its fields, in the order in which they stand. Every format has one writer, `write`, and one reader, `accepts` with
-- `read`; that each undoes the other is proved once, over all formats (proofs/Formats).
use Rattle.std.specs.Prelude.{ℕ, ◌+◌, ◌*◌, Bool, true, ◌&&◌, length, leb, eqb}
use mathlib.Core.List.{List, [], ◌∷◌, ◌++◌, flat_map}
use Rattle.laws.specs.Bytes.{be8, be16, be32, be64, bytes16, bytes32, bytes64, bytes_at}
use Rattle.laws.specs.Runs.{gathered}
use Rattle.payloads.specs.Entries.{entry_at, each, all}

-- "All numbers are big-endian." A number stands in one, two, four or eight bytes.
pub data Width : Type 0 where
  one two four eight : Width

-- The bytes of a width.
abbrev pub width_of : Width → ℕ
width_of one = 1
width_of two = 2
width_of four = 4
width_of eight = 8

-- The number of this width at a place of a list.
abbrev pub number_at : Width → List ℕ → ℕ → ℕ
number_at one p at = be8 p at
number_at two p at = be16 p at
number_at four p at = be32 p at
number_at eight p at = be64 p at

-- A number in the bytes of a width.
abbrev pub number_bytes : Width → ℕ → List ℕ
number_bytes one x = x ∷ []
number_bytes two x = bytes16 x
number_bytes four x = bytes32 x
number_bytes eight x = bytes64 x

-- A format: it is at its end, or it begins with a field, and after the field comes the rest of it.
pub data Format : Type 0 where
  end : Format
  -- Always this number.
  fixed : (w : Width) (n : ℕ) → Format → Format
  -- A number that passes a test.
  free : (w : Width) (allowed : ℕ → Bool) → Format → Format
  -- So many bytes.
  array : (size : ℕ) → Format → Format
  -- Bytes with their number before them, which has a least and a most.
  sized : (w : Width) (least most : ℕ) → Format → Format
  -- Entries, all of one format, with their number before them, which has a most.
  counted : (w : Width) (most : ℕ) (entry : Format) → Format → Format

-- A field, and then the fields after it: `fixed one 0 then array 8 then end`.
infixr 5 ◌then◌
abbrev pub ◌then◌ : (Format → Format) → Format → Format
field then f = field f

-- What a payload of a format says: a number for each free number, a list for each run of bytes, a list of what each entry says for counted
-- entries; a fixed number says nothing.
abbrev pub Values : Format → Type 0
Values end = Unit
Values (fixed w n f) = Values f
Values (free w allowed f) = ℕ × Values f
Values (array size f) = List ℕ × Values f
Values (sized w least most f) = List ℕ × Values f
Values (counted w most entry f) = List (Values entry) × Values f

-- Values one after the other, `x and y and tt`: the last is that nothing more is said.
infixr 5 ◌and◌
abbrev pub ◌and◌ : {A B : Type 0} → A → B → A × B
x and y = (x, y)

-- The values that a format has a payload for. (That a number has its width and a list is of bytes is what the types of a call say: `Typed`.)
unfoldable pub fits : (f : Format) → Values f → Bool
fits end v = true
fits (fixed w n f) v = fits f v
fits (free w allowed f) (x, v) = allowed x && fits f v
fits (array size f) (b, v) = eqb (length b) size && fits f v
fits (sized w least most f) (b, v) = leb least (length b) && leb (length b) most && fits f v
fits (counted w most entry f) (vs, v) = leb (length vs) most && all (fits entry) vs && fits f v

-- The bytes of a payload, field by field.
unfoldable pub write : (f : Format) → Values f → List ℕ
write end v = []
write (fixed w n f) v = number_bytes w n ++ write f v
write (free w allowed f) (x, v) = number_bytes w x ++ write f v
write (array size f) (b, v) = b ++ write f v
write (sized w least most f) (b, v) = number_bytes w (length b) ++ (b ++ write f v)
write (counted w most entry f) (vs, v) = number_bytes w (length vs) ++ (flat_map (write entry) vs ++ write f v)

-- The place after the fields that begin at a place. Here and below a byte past the end of the payload counts as 0.
unfoldable pub ends_from : Format → List ℕ → ℕ → ℕ
ends_from end p at = at
ends_from (fixed w n f) p at = ends_from f p (at + width_of w)
ends_from (free w allowed f) p at = ends_from f p (at + width_of w)
ends_from (array size f) p at = ends_from f p (at + size)
ends_from (sized w least most f) p at = ends_from f p (at + width_of w + number_at w p at)
ends_from (counted w most entry f) p at = ends_from f p (entry_at (ends_from entry p) (at + width_of w) (number_at w p at))

-- The fields that begin at a place are as the format says.
unfoldable pub holds_from : Format → List ℕ → ℕ → Bool
holds_from end p at = true
holds_from (fixed w n f) p at = eqb (number_at w p at) n && holds_from f p (at + width_of w)
holds_from (free w allowed f) p at = allowed (number_at w p at) && holds_from f p (at + width_of w)
holds_from (array size f) p at = holds_from f p (at + size)
holds_from (sized w least most f) p at =
    leb least (number_at w p at) && leb (number_at w p at) most && holds_from f p (at + width_of w + number_at w p at)
holds_from (counted w most entry f) p at =
    let place = entry_at (ends_from entry p) (at + width_of w) in
    leb (number_at w p at) most && each (λ i. holds_from entry p (place i)) (number_at w p at) && holds_from f p (place (number_at w p at))

-- What the fields that begin at a place say.
unfoldable pub read_from : (f : Format) → List ℕ → ℕ → Values f
read_from end p at = tt
read_from (fixed w n f) p at = read_from f p (at + width_of w)
read_from (free w allowed f) p at = (number_at w p at, read_from f p (at + width_of w))
read_from (array size f) p at = (bytes_at p at size, read_from f p (at + size))
read_from (sized w least most f) p at =
    (bytes_at p (at + width_of w) (number_at w p at), read_from f p (at + width_of w + number_at w p at))
read_from (counted w most entry f) p at =
    let place = entry_at (ends_from entry p) (at + width_of w) in
    (gathered (λ i. read_from entry p (place i)) (number_at w p at), read_from f p (place (number_at w p at)))

-- The fields that begin at a place are as the format says, and the payload ends with them.
unfoldable pub accepts_from : Format → List ℕ → ℕ → Bool
accepts_from f p at = holds_from f p at && eqb (length p) (ends_from f p at)

-- A payload has a format.
abbrev pub accepts : Format → List ℕ → Bool
accepts f p = accepts_from f p 0

-- What a payload of a format says.
abbrev pub read : (f : Format) → List ℕ → Values f
read f p = read_from f p 0

-- The most bytes of a payload of a format.
unfoldable pub longest : Format → ℕ
longest end = 0
longest (fixed w n f) = width_of w + longest f
longest (free w allowed f) = width_of w + longest f
longest (array size f) = size + longest f
longest (sized w least most f) = width_of w + most + longest f
longest (counted w most entry f) = width_of w + most * longest entry + longest f
