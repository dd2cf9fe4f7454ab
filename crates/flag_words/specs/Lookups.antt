-- Contexts by the bits of words.
use Rattle.std.specs.Prelude.{ℕ, ◌+◌, ◌*◌, ◌/◌, ◌^◌, ◌==◌, Bool, if◌then◌else◌, bit_and}
use Rattle.std.specs.Int.{bit_at}
use Rattle.cine_nums.specs.declared.orient.Orient.{Orient}
use Rattle.ebcot_contexts.specs.Cells.{number}
use Rattle.ebcot_contexts.specs.Contexts.{Contribution, plus, even, minus, significance_context}

-- the significance of the eight neighbours of the place of row r, without that of the place
abbrev pub neighbours_of : ℕ → ℕ → ℕ
neighbours_of word r = bit_and (word / 2 ^ (3 * r)) 0x1EF

-- the context of a place by the significance of its eight neighbours
unfoldable pub neighbour_context : Orient → ℕ → ℕ
neighbour_context orient k =
    significance_context orient (bit_at k 3 + bit_at k 5) (bit_at k 1 + bit_at k 7)
    (bit_at k 0 + bit_at k 2 + (bit_at k 6 + bit_at k 8))

-- what a place contributes to the context of a sign, by its significance and its sign
abbrev pub contribution_by : Bool → Bool → Contribution
contribution_by significant negative =
    if significant then (if negative then minus else plus) else even

-- a context of a sign and its XOR bit as one number
abbrev pub packed : ℕ × Bool → ℕ
packed at = at.0 + 128 * number at.1

-- The index of a sign's context: its bits 1, 3, 5 and 7 are the significance of the neighbours
-- above, left, right and below, its bits 4, 0, 2 and 6 say which of them are negative.
abbrev pub index_of : ℕ → ℕ → ℕ → ℕ → ℕ
index_of left word right r =
    let above = if r == 0 then bit_at word 18 else bit_at word (3 * r + 16) in
    bit_at left (3 * r + 19) + 2 * bit_at word (3 * r + 1) + 4 * bit_at right (3 * r + 19)
    + 8 * bit_at word (3 * r + 3) + 16 * above + 32 * bit_at word (3 * r + 5)
    + 64 * bit_at word (3 * r + 22) + 128 * bit_at word (3 * r + 7)
