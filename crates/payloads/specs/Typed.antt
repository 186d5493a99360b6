-- SPDX-License-Identifier: MPL-2.0
-- When a format's writer writes bytes: the numbers of the format have room in their widths, and the values are as the types of a call have them.
use Rattle.std.specs.Prelude.{ℕ, ◌<◌, List, [], ◌∷◌, Bool, true, ◌&&◌, ltb}
use Rattle.laws.specs.Bytes.{AreBytes}
use Rattle.payloads.specs.Format.{Width, one, two, four, eight, end, fixed, free, array, sized, counted, Format, Values}

-- The numbers of a width are those below this.
abbrev pub limit_of : Width → ℕ
limit_of one = 256
limit_of two = 65536
limit_of four = 4294967296
limit_of eight = 18446744073709551616

-- Each number that the format fixes, and the most bytes or entries that it allows, has room in its width.
unfoldable pub has_widths : Format → Bool
has_widths end = true
has_widths (fixed w n f) = ltb n (limit_of w) && has_widths f
has_widths (free w allowed f) = has_widths f
has_widths (array size f) = has_widths f
has_widths (sized w least most f) = ltb most (limit_of w) && has_widths f
has_widths (counted w most entry f) = ltb most (limit_of w) && has_widths entry && has_widths f

-- Each value of a list has a property.
unfoldable pub Every : {A : Type 0} (P : A → Type 0) → List A → Type 0
Every P [] = Unit
Every P (v ∷ vs) = P v × Every P vs

-- Values as the types of a call have them: numbers of their width, lists of bytes.
unfoldable pub Typed : (f : Format) → Values f → Type 0
Typed end v = Unit
Typed (fixed w n f) v = Typed f v
Typed (free w allowed f) (x, v) = (x < limit_of w) × Typed f v
Typed (array size f) (b, v) = AreBytes b × Typed f v
Typed (sized w least most f) (b, v) = AreBytes b × Typed f v
Typed (counted w most entry f) (vs, v) = Every (Typed entry) vs × Typed f v
