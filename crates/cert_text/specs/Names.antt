-- Names of frames as lines print them.
use Rattle.std.specs.Prelude.{ℕ, ◌+◌, ◌/◌, ◌%◌, ◌||◌, ◌&&◌, ◌==◌, nat_le, nat_lt, List, [], ◌∷◌}
use Rattle.std.specs.Prelude.{if◌then◌else◌, Bool}
use Rattle.std.specs.List.{flat_map}

-- whether a byte of a name is printed as it is: ASCII letters, digits, '.', '_' and '-'
abbrev pub is_plain : ℕ → Bool
is_plain b =
    (nat_le 97 b && nat_le b 122) || (nat_le 65 b && nat_le b 90) || (nat_le 48 b && nat_le b 57)
    || b == 46 || b == 95 || b == 45

-- a hexadecimal digit, in upper case
abbrev pub hex_digit : ℕ → ℕ
hex_digit n = if nat_lt n 10 then 48 + n else 55 + n

-- a byte of a name as it is printed: '%' and two digits for one that isn't plain
abbrev pub escaped_byte : ℕ → List ℕ
escaped_byte b = if is_plain b then b ∷ [] else 37 ∷ hex_digit (b / 16) ∷ hex_digit (b % 16) ∷ []

-- a name as it is printed
abbrev pub escaped : List ℕ → List ℕ
escaped name = flat_map escaped_byte name
