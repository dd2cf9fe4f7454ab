-- What is known of the coefficients of a code-block while its bit-planes are coded: ISO/IEC
-- 15444-1, Annex D.2. A place is its number in raster order, counted from 0, a bit-plane its number
-- from the least significant one, counted from 0.
use Rattle.std.specs.Prelude.{ℕ, ◌+◌, ◌*◌, ◌/◌, ◌%◌, ◌^◌, ◌≡◌, Bool, true, false, ◌&&◌, ◌==◌}
use Rattle.std.specs.Prelude.{nat_lt, List, [], ◌∷◌, get_or}

-- A cell is what is known of one coefficient: the bits of its magnitude in the planes that are
-- known, as a number; whether its sign is known to be negative; and how many planes, the lowest
-- ones, are still unknown.
pub record Cell : Type 0 where
  pub magnitude : ℕ
  pub negative : Bool
  pub unknown : ℕ

-- nothing is known, of p bit-planes
abbrev pub fresh : ℕ → Cell
fresh p = record { magnitude = 0; negative = false; unknown = p }

-- a coefficient is significant from its first bit of 1 on
abbrev pub is_significant : Cell → Bool
is_significant c = nat_lt 0 c.magnitude

-- the cell of a place; outside the block no place is significant (Annex D.3)
abbrev pub cell_at : List Cell → ℕ → Cell
cell_at cells i = get_or cells i (fresh 0)

-- A coefficient: the magnitude of its index, and whether it is negative.
abbrev pub coef_at : List (ℕ × Bool) → ℕ → ℕ × Bool
coef_at coefs i = get_or coefs i (0, false)

-- bit p of a number
abbrev pub bit_of : ℕ → ℕ → Bool
bit_of m p = (m / 2 ^ p) % 2 == 1

abbrev pub number : Bool → ℕ
number true = 1
number false = 0

-- A cell learns its bit of plane p.
abbrev pub learn : ℕ → Bool → Cell → Cell
learn p bit c =
    record { magnitude = 2 * c.magnitude + number bit; negative = c.negative; unknown = p }

-- A cell becomes significant in plane p: it learns a bit of 1, and its sign.
abbrev pub become_significant : ℕ → Bool → Cell → Cell
become_significant p negative c =
    record { magnitude = 2 * c.magnitude + 1; negative = negative; unknown = p }

-- A cell shows a coefficient: its magnitude without the unknown planes, and its sign where that
-- magnitude isn't 0.
pub record Shows (c : Cell) (m : ℕ × Bool) : Type 0 where
  pub magnitude : c.magnitude ≡ m.0 / 2 ^ c.unknown
  pub sign : c.negative ≡ (is_significant c && m.1)

-- every cell shows its coefficient
abbrev pub AllShow : List Cell → List (ℕ × Bool) → Type 0
AllShow cells coefs = (i : ℕ) → Shows (cell_at cells i) (coef_at coefs i)

-- a sign is known of a significant place only
abbrev pub IsPlain : Cell → Type 0
IsPlain c = is_significant c ≡ false → c.negative ≡ false

-- the cell of a coefficient of which u bit-planes are unknown, and those of a list
abbrev pub cell_of : ℕ × Bool → ℕ → Cell
cell_of m u =
    record { magnitude = m.0 / 2 ^ u; negative = nat_lt 0 (m.0 / 2 ^ u) && m.1; unknown = u }

abbrev pub view : List (ℕ × Bool) → List ℕ → List Cell
view [] us = []
view (m ∷ ms) [] = []
view (m ∷ ms) (u ∷ us) = cell_of m u ∷ view ms us

-- the coefficient of a cell, with 0 for each unknown bit
abbrev pub coef_of : Cell → ℕ × Bool
coef_of c = (c.magnitude * 2 ^ c.unknown, c.negative)
