-- Fields that stand one after the other in a string of bytes.
use Rattle.std.specs.Prelude.{ℕ, ◌+◌, ◌≡◌, ◌<◌, List, [], ◌∷◌, slice_index}
use Rattle.cine_nums.specs.Bytes.{word_at, long_at}
use Rattle.cinema_markers.specs.declared.fields.Field.{Field}
use Rattle.cinema_markers.specs.declared.fields.Field.TheVariants.{Byte, Short, Long}

-- the bytes of a field
abbrev pub width : Field → ℕ
width (Byte n) = 1
width (Short n) = 2
width (Long n) = 4

abbrev pub widths : List Field → ℕ
widths [] = 0
widths (field ∷ fields) = width field + widths fields

-- the number has room in its field
abbrev pub IsFit : Field → Type 0
IsFit (Byte n) = n < 256
IsFit (Short n) = n < 65536
IsFit (Long n) = n < 4294967296

abbrev pub AreFit : List Field → Type 0
AreFit [] = Unit {0}
AreFit (field ∷ fields) = IsFit field × AreFit fields

-- the field is read at a place
abbrev pub IsAt : List ℕ → ℕ → Field → Type 0
IsAt bytes at (Byte n) = slice_index bytes at ≡ n
IsAt bytes at (Short n) = word_at bytes at ≡ n
IsAt bytes at (Long n) = long_at bytes at ≡ n

-- the fields are read, one after the other, from so many bytes after a place on
abbrev pub AreAt : List ℕ → ℕ → ℕ → List Field → Type 0
AreAt bytes at off [] = Unit {0}
AreAt bytes at off (field ∷ fields) =
    IsAt bytes (at + off) field × AreAt bytes at (off + width field) fields
