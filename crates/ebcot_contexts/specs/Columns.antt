-- The flags of a column of a stripe as one word: bit r says that row r, 0 to 3, is significant, bit
-- 4 + r that it is negative. The bits from 8 on have no part in a context.
use Rattle.std.specs.Prelude.{ℕ, ◌+◌, ◌-◌, ◌==◌, Bool, if◌then◌else◌, ℤ, pos, negsuc}
use Rattle.ebcot_contexts.specs.Cells.{bit_of}
use Rattle.ebcot_contexts.specs.Contexts.{Contribution, plus, even, minus}

-- what row r of a word contributes to the context of a sign
abbrev pub row_contribution : ℕ → ℕ → Contribution
row_contribution word r = if bit_of word r then
    (if bit_of word (4 + r) then minus else plus) else even

-- The same of row y - 1 of a column, with the words of the columns above and below it: y is 0 for
-- the last row of the stripe above, and 5 for the first row of the stripe below.
abbrev pub contribution_in : ℕ → ℕ → ℕ → ℕ → Contribution
contribution_in above here below y =
    if y == 0 then row_contribution above 3
    else if y == 5 then row_contribution below 0
    else row_contribution here (y - 1)

-- whether a contribution is one of a significant place, as a number
abbrev pub one_of : Contribution → ℕ
one_of plus = 1
one_of even = 0
one_of minus = 1

-- a contribution as a number
abbrev pub signed : Contribution → ℤ
signed plus = pos 1
signed even = pos 0
signed minus = negsuc 0
