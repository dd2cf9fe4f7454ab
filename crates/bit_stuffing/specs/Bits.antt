-- Bits of numbers, and the bits that a packet header's bytes hold (ISO/IEC 15444-1, B.10.1). A bit
-- is a Bool; the high bit comes first.
use Rattle.std.specs.Prelude.{ℕ, suc, zero, ◌+◌, ◌*◌, ◌/◌, ◌%◌, ◌^◌, ◌<◌, ◌==◌, Bool, true, false}
use Rattle.std.specs.Prelude.{if◌then◌else◌, List, [], ◌∷◌, ◌++◌}

-- the number that a bit stands for
abbrev pub bit_value : Bool → ℕ
bit_value true = 1
bit_value false = 0

-- the low `width` bits of n
unfoldable pub number : ℕ → ℕ → List Bool
number zero n = []
number (suc width) n = number width (n / 2) ++ (n % 2 == 1) ∷ []

-- the number that has these bits after those of `high`
unfoldable pub value_from : ℕ → List Bool → ℕ
value_from high [] = high
value_from high (bit ∷ bits) = value_from (2 * high + bit_value bit) bits

-- the number that has these bits
abbrev pub value : List Bool → ℕ
value bits = value_from 0 bits

-- how many bits of a header a byte holds: the high bit of a byte after FF is stuffed
abbrev pub byte_width : Bool → ℕ
byte_width after_ff = if after_ff then 7 else 8

-- the bits of a header that the bytes hold, without the high bit of each byte after FF;
-- `after_ff` says whether the first of them stands after FF
unfoldable pub useful : Bool → List ℕ → List Bool
useful after_ff [] = []
useful after_ff (byte ∷ bytes) = number (byte_width after_ff) byte ++ useful (byte == 255) bytes

-- each byte fits its bits: the high bit of each byte after FF is 0
unfoldable pub IsStuffed : Bool → List ℕ → Type 0
IsStuffed after_ff [] = Unit {0}
IsStuffed after_ff (byte ∷ bytes) = (byte < 2 ^ byte_width after_ff) × IsStuffed (byte == 255) bytes

-- whether what follows these bytes stands after FF
unfoldable pub ends_in_ff : Bool → List ℕ → Bool
ends_in_ff after_ff [] = after_ff
ends_in_ff after_ff (byte ∷ bytes) = ends_in_ff (byte == 255) bytes
