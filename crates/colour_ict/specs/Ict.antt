-- The irreversible component transform (ISO/IEC 15444-1, Annex G.3), in fixed point, of samples of
-- 12 bits.
use Rattle.std.specs.Prelude.{ℕ, ℤ, pos, neg_ℤ, ◌+ℤ◌, ◌-ℤ◌, ◌*ℤ◌}
use Rattle.std.specs.Int.{int_shr}

-- a sample less half of its range (Annex G.1), with 13 bits after the point
abbrev pub shifted : ℕ → ℤ
shifted x = (pos x -ℤ pos 2048) *ℤ pos 8192

-- the sum of a row p, q, s of the matrix, over 2^16, at the samples x, y, z of a pixel: rounded to
-- the nearest whole number, and upwards where two are as near
abbrev pub weighted : ℤ → ℤ → ℤ → ℕ → ℕ → ℕ → ℤ
weighted p q s x y z =
    int_shr ((((p *ℤ shifted x) +ℤ (q *ℤ shifted y)) +ℤ (s *ℤ shifted z)) +ℤ pos 32768) 16

-- the three components, by the rows 0.299, 0.587, 0.114; -0.16875, -0.33126, 0.5 and
-- 0.5, -0.41869, -0.08131, each coefficient being the nearest whole number over 2^16
unfoldable pub component0 : ℕ → ℕ → ℕ → ℤ
component0 x y z = weighted (pos 19595) (pos 38470) (pos 7471) x y z

unfoldable pub component1 : ℕ → ℕ → ℕ → ℤ
component1 x y z = weighted (neg_ℤ (pos 11059)) (neg_ℤ (pos 21709)) (pos 32768) x y z

unfoldable pub component2 : ℕ → ℕ → ℕ → ℤ
component2 x y z = weighted (pos 32768) (neg_ℤ (pos 27439)) (neg_ℤ (pos 5329)) x y z
