-- The squared error of an index whose lowest bit planes are unknown (ISO/IEC 15444-1, Annex E.1: a
-- decoder takes the middle of what the known planes leave, or 0 where they are all 0). The unit is
-- half of a step.
use Rattle.std.specs.Prelude.{ℕ, zero, suc, ◌+◌, ◌-◌, ◌*◌, ◌/◌, ◌^◌}

-- the middle of the sizes whose index has the bits n above its lowest u planes, and 0 where n is 0
abbrev pub middle : ℕ → ℕ → ℕ
middle zero u = 0
middle (suc n) u = (2 * suc n + 1) * 2 ^ u

-- how far two numbers are apart
abbrev pub distance : ℕ → ℕ → ℕ
distance a b = (a - b) + (b - a)

abbrev pub square : ℕ → ℕ
square n = n * n

-- between what the index m stands for and what is taken for it while its lowest u planes are
-- unknown
abbrev pub squared_error : ℕ → ℕ → ℕ
squared_error m u = square (distance (middle m 0) (middle (m / 2 ^ u) u))
