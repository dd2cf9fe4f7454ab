-- The words of a block of which nothing is known, and those of the next plane.
use Rattle.std.specs.Prelude.{ℕ, ◌+◌, ◌*◌, ◌/◌, ◌%◌, ◌^◌, ◌==◌, Bool, ◌||◌, nat_lt, nat_le, bit_and}
use Rattle.std.specs.Int.RustNames.{bit_or}
use Rattle.ebcot_contexts.specs.Cells.{number}

-- a column of a stripe is left or right of a block, or above it
abbrev pub is_beside : ℕ → ℕ → ℕ → Bool
is_beside w column stripe = column == 0 || nat_lt w column || stripe == 0

-- a row of a stripe is below a block
abbrev pub is_below : ℕ → ℕ → ℕ → Bool
is_below h stripe row = nat_le (h + 4) (4 * stripe + row)

-- a row of a column of a stripe is outside a block
abbrev pub is_outside : ℕ → ℕ → ℕ → ℕ → ℕ → Bool
is_outside w h column stripe row = is_beside w column stripe || is_below h stripe row

-- the word of a column, of a block of which nothing is known: what is outside is touched
abbrev pub blank_word : Bool → Bool → Bool → Bool → ℕ
blank_word a b c d = number a * 2 ^ 21 + number b * 2 ^ 24 + number c * 2 ^ 27 + number d * 2 ^ 30

abbrev pub blank_of : ℕ → ℕ → ℕ → ℕ
blank_of w h n =
    blank_word (is_outside w h (n % 34) (n / 34) 0) (is_outside w h (n % 34) (n / 34) 1)
    (is_outside w h (n % 34) (n / 34) 2) (is_outside w h (n % 34) (n / 34) 3)

-- the word of the next plane: touched is what is outside
abbrev pub next_of : ℕ → ℕ → ℕ
next_of word blank = bit_or (bit_and word 0xB6DFFFFF) blank
