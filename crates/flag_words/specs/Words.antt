-- The flags of a code-block as words of 32 bits, one for each column of a stripe. A word has the
-- significance of all places in and around its column, so that one table look-up gives a context.
use Rattle.std.specs.Prelude.{ℕ, suc, ◌+◌, ◌-◌, ◌*◌, ◌/◌, ◌%◌, ◌^◌, ◌<◌, ◌≡◌, Bool, false}
use Rattle.std.specs.Prelude.{not, ◌||◌, ◌==◌, nat_lt, nat_le, List, length, get_or, set}
use Rattle.std.specs.Prelude.{if◌then◌else◌}
use Rattle.std.specs.Int.{bit_at}
use Rattle.std.specs.Int.RustNames.{bit_or}
use Rattle.ebcot_contexts.specs.Cells.{Cell, is_significant, number}
use Rattle.ebcot_contexts.specs.Contexts.{bordered}
use Rattle.ebcot_contexts.specs.Passes.{is_untouched}

-- Of which place bit k of a word is: the row, from 0 for the one above the stripe to 5 for the one
-- below it, and the column, from 0 for the one at the left to 2 for the one at the right. The bits
-- below 18 go through all 18 places, row by row; the others are of the word's own column.
abbrev pub row_of : ℕ → ℕ
row_of k = if nat_lt k 18 then k / 3 else (k - 16) / 3

abbrev pub column_of : ℕ → ℕ
column_of k = if nat_lt k 18 then k % 3 else 1

-- Which of four flags bit k is: significant below 18; from there on negative (of the row above, and
-- then of the rows 1 to 5), refined and touched (of the rows 1 to 4) in turn.
abbrev pub flag_at : ℕ → Bool → Bool → Bool → Bool → Bool
flag_at k significant negative refined touched =
    if nat_lt k 18 then significant
    else if k == 18 || k % 3 == 1 then negative
    else if k % 3 == 2 then refined
    else touched

-- The flags of a cell in plane p: it is refined where a bit is known beside the one that made it
-- significant, and touched where its bit of plane p is known. Outside the block no place is
-- significant, and each counts as touched, since its bits are never coded.
abbrev pub flag_of : ℕ → ℕ → Cell → Bool
flag_of p k c =
    flag_at k (is_significant c) c.negative (nat_le 2 c.magnitude) (not (is_untouched p c))

-- The cell of row r and column c around a column of a stripe. Columns count from 0 for the one at
-- the left of the block, stripes from 0 for the one above it.
abbrev pub around : ℕ → List Cell → ℕ → ℕ → ℕ → ℕ → Cell
around w cells column stripe r c = bordered w cells (column + c - 1) (4 * stripe + r - 4)

-- a word shows the flags around a column
abbrev pub IsFlagWord : ℕ → ℕ → List Cell → ℕ → ℕ → ℕ → Type 0
IsFlagWord w p cells column stripe word =
    (k : ℕ) → k < 32
    → bit_at word k ≡ number (flag_of p k (around w cells column stripe (row_of k) (column_of k)))

-- The flags of a block w places wide: 34 words a stripe, of which one stripe is above the block and
-- one column at its left.
pub record AreFlags (w p : ℕ) (cells : List Cell) (words : List ℕ) : Type 0 where
  pub long : length words ≡ 340
  pub each : (column stripe : ℕ) → column < 34 → stripe < 10
      → IsFlagWord w p cells column stripe (get_or words (34 * stripe + column) 0)

-- place i of a block is in row r, 0 to 3, of a column of a stripe
pub record IsIn (w i column stripe r : ℕ) : Type 0 where
  pub column_is : column ≡ suc (i % w)
  pub row_is : 4 * stripe + r ≡ i / w + 4

-- a word with the bits of a mask set
abbrev pub or_at : List ℕ → ℕ → ℕ → List ℕ
or_at words j mask = set words j (bit_or (get_or words j 0) mask)

abbrev pub three_at : List ℕ → ℕ → ℕ → ℕ → ℕ → List ℕ
three_at words j left middle right = or_at (or_at (or_at words (j - 1) left) j middle) (j + 1) right

-- Place i, in row r of a column, became significant: its bit in the words of the columns beside it,
-- and where it is in the first or last row of its stripe, in those of the next stripe.
abbrev pub spread : List ℕ → ℕ → ℕ → ℕ → List ℕ
spread words n r minus =
    let near = or_at (or_at words (n - 1) (0x20 * 2 ^ (3 * r))) (n + 1) (0x08 * 2 ^ (3 * r)) in
    if r == 0 then three_at near (n - 34) (2 ^ 17) (bit_or (minus * 2 ^ 31) (2 ^ 16)) (2 ^ 15)
    else if r == 3 then three_at near (n + 34) (2 ^ 2) (bit_or (minus * 2 ^ 18) 2) 1
    else near

-- Place i of a block is in row r of a column of a stripe, whose word has the index n.
pub record IsOpen (w i column stripe r n : ℕ) (cells : List Cell) : Type 0 where
  pub place : IsIn w i column stripe r
  pub index : n ≡ 34 * stripe + column
  pub some : 0 < w
  pub few : column < 33
  pub last : stripe < 9
  pub inside : i < length cells

-- nothing but zeros is known of a place
pub record IsNew (c : Cell) : Type 0 where
  pub insignificant : is_significant c ≡ false
  pub plain : c.negative ≡ false

-- the four places of a column, from the top
pub record IsColumn (w column stripe a b c d : ℕ) : Type 0 where
  pub first : IsIn w a column stripe 0
  pub second : IsIn w b column stripe 1
  pub third : IsIn w c column stripe 2
  pub fourth : IsIn w d column stripe 3
