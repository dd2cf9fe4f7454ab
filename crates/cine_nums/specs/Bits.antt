-- How many binary digits a number has, as the magnitude bit planes of a code block are counted
-- (ISO/IEC 15444-1, Annex D).
use Rattle.std.specs.Prelude.{ℕ, zero, suc, ◌/◌}

-- the binary digits of m, from its lowest up to its highest 1, but no more than f of them
abbrev pub digits_within : ℕ → ℕ → ℕ
digits_within zero m = 0
digits_within (suc f) zero = 0
digits_within (suc f) (suc m) = suc (digits_within f (suc m / 2))

-- the bit length of m: 0 for 0, 1 for 1, 2 for 2 and 3, 3 for 4 to 7
abbrev pub bit_len : ℕ → ℕ
bit_len m = digits_within m m
