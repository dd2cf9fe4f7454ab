-- The contexts of bit-plane coding: ISO/IEC 15444-1, Annex D.3, Tables D.1 to D.4.
use Rattle.std.specs.Prelude.{ℕ, zero, suc, ◌+◌, ◌*◌, ◌/◌, ◌%◌, Bool, true, false, not, ◌==◌}
use Rattle.std.specs.Prelude.{nat_lt, nat_le, List, if◌then◌else◌, ℤ, pos, negsuc}
use Rattle.cine_nums.specs.declared.orient.Orient.{Orient}
use Rattle.cine_nums.specs.declared.orient.Orient.TheVariants.{LL, HL, LH, HH}
use Rattle.ebcot_contexts.specs.Cells.{Cell, fresh, is_significant, cell_at, number}

-- Table D.1, by the numbers of significant neighbours: h beside the place, v above and below it, d
-- the diagonal ones. Its first three columns are for LL and LH.
unfoldable pub lh_context : ℕ → ℕ → ℕ → ℕ
lh_context h v d =
    if h == 2 then 8
    else if h == 1 then (if nat_le 1 v then 7 else if nat_le 1 d then 6 else 5)
    else if v == 2 then 4
    else if v == 1 then 3
    else if nat_le 2 d then 2
    else d

-- the last two columns, for HH
unfoldable pub hh_context : ℕ → ℕ → ℕ
hh_context hv d =
    if nat_le 3 d then 8
    else if d == 2 then (if nat_le 1 hv then 7 else 6)
    else if d == 1 then (if nat_le 2 hv then 5 else 3 + hv)
    else if nat_le 2 hv then 2
    else hv

-- in HL, h and v change places
abbrev pub significance_context : Orient → ℕ → ℕ → ℕ → ℕ
significance_context LL h v d = lh_context h v d
significance_context LH h v d = lh_context h v d
significance_context HL h v d = lh_context v h d
significance_context HH h v d = hh_context (h + v) d

-- What a place, or two opposite neighbours together, contribute to the context of a sign: plus for
-- +1, even for 0, minus for -1.
pub data Contribution : Type 0 where
  plus even minus : Contribution

abbrev pub contribution_of : Cell → Contribution
contribution_of c = if is_significant c then (if c.negative then minus else plus) else even

-- Table D.2: the sum of two contributions, limited to -1 .. 1
abbrev pub both : Contribution → Contribution → Contribution
both even b = b
both plus plus = plus
both plus even = plus
both plus minus = even
both minus plus = even
both minus even = minus
both minus minus = minus

-- a contribution as a number
abbrev pub contribution : ℤ → Contribution
contribution (pos zero) = even
contribution (pos (suc n)) = plus
contribution (negsuc n) = minus

-- Table D.3, by the contributions of the horizontal and of the vertical neighbours: the context of
-- a sign, and whether its bit is flipped (the XOR bit)
abbrev pub sign_context : Contribution → Contribution → ℕ × Bool
sign_context plus plus = (13, false)
sign_context plus even = (12, false)
sign_context plus minus = (11, false)
sign_context even plus = (10, false)
sign_context even even = (9, false)
sign_context even minus = (10, true)
sign_context minus plus = (11, true)
sign_context minus even = (12, true)
sign_context minus minus = (13, true)

-- Table D.4: the context of a refinement, by whether it is the place's first one, and whether a
-- neighbour is significant
abbrev pub refinement_context : Bool → Bool → ℕ
refinement_context first around = if first then (if around then 15 else 14) else 16

-- The shape of a code-block: the orientation of its band, its width and height in places, and the
-- number of its bit-planes.
pub record Shape : Type 0 where
  pub orient : Orient
  pub width : ℕ
  pub height : ℕ
  pub planes : ℕ

-- the cell of a block with a border of one place around it: place (x, y) is at (x + 1, y + 1)
abbrev pub bordered : ℕ → List Cell → ℕ → ℕ → Cell
bordered width cells zero y = fresh 0
bordered width cells (suc x) zero = fresh 0
bordered width cells (suc x) (suc y) =
    if nat_lt x width then cell_at cells (y * width + x) else fresh 0

-- the neighbour of place i in the column dx - 1 to its right and the row dy - 1 below it
abbrev pub neighbour : ℕ → List Cell → ℕ → ℕ → ℕ → Cell
neighbour width cells i dx dy = bordered width cells (i % width + dx) (i / width + dy)

-- how many of two cells are significant
abbrev pub count : Cell → Cell → ℕ
count a b = number (is_significant a) + number (is_significant b)

abbrev pub horizontal : ℕ → List Cell → ℕ → ℕ
horizontal w cells i = count (neighbour w cells i 0 1) (neighbour w cells i 2 1)

abbrev pub vertical : ℕ → List Cell → ℕ → ℕ
vertical w cells i = count (neighbour w cells i 1 0) (neighbour w cells i 1 2)

abbrev pub diagonal : ℕ → List Cell → ℕ → ℕ
diagonal w cells i =
    count (neighbour w cells i 0 0) (neighbour w cells i 2 0)
    + count (neighbour w cells i 0 2) (neighbour w cells i 2 2)

-- the context of a place's bit in the significance and in the cleanup pass
unfoldable pub context_at : Shape → List Cell → ℕ → ℕ
context_at s cells i =
    significance_context s.orient (horizontal s.width cells i) (vertical s.width cells i)
    (diagonal s.width cells i)

-- the context of a place's sign, and whether its bit is flipped
unfoldable pub sign_at : Shape → List Cell → ℕ → ℕ × Bool
sign_at s cells i =
    sign_context
    (both (contribution_of (neighbour s.width cells i 0 1))
    (contribution_of (neighbour s.width cells i 2 1)))
    (both (contribution_of (neighbour s.width cells i 1 0))
    (contribution_of (neighbour s.width cells i 1 2)))

-- no neighbour of a place is significant: exactly then its context is 0
unfoldable pub is_quiet : Shape → List Cell → ℕ → Bool
is_quiet s cells i =
    horizontal s.width cells i + vertical s.width cells i + diagonal s.width cells i == 0

-- the context of a place's refinement: it is the first one where the bit that made the place
-- significant is all that is known of its magnitude
unfoldable pub refinement_at : Shape → List Cell → ℕ → ℕ
refinement_at s cells i =
    refinement_context ((cell_at cells i).magnitude == 1) (not (is_quiet s cells i))
