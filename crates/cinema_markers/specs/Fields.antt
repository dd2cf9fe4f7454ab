-- A marker segment as a list of its fields (ISO/IEC 15444-1, A.1.3: each is big-endian).
use Rattle.std.specs.Prelude.{ℕ, List, [], ◌∷◌}
use Rattle.std.specs.List.{flat_map}
use Rattle.std.specs.Int.{to_be_bytes, w16, w32}
use Rattle.cinema_markers.specs.declared.fields.Field.{Field}
use Rattle.cinema_markers.specs.declared.fields.Field.TheVariants.{Byte, Short, Long}

-- the bytes of one field
abbrev pub field_bytes : Field → List ℕ
field_bytes (Byte n) = n ∷ []
field_bytes (Short n) = to_be_bytes w16 n
field_bytes (Long n) = to_be_bytes w32 n

-- the bytes of fields in order
abbrev pub segment : List Field → List ℕ
segment fields = flat_map field_bytes fields
