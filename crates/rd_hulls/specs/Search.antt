-- The best step from a corner, of those to the first n points.
use Rattle.std.specs.Prelude.{ℕ, ◌≡◌, ◌+◌, ◌*◌, ◌<◌, ◌≤◌, List}
use Rattle.rd_hulls.specs.declared.point.Point.{Point}
use Rattle.rd_hulls.specs.declared.step.Step.{Step}
use Rattle.rd_hulls.specs.Points.{point_at}
use Rattle.rd_hulls.specs.Steps.{IsStepTo}

-- How high a point lies over lines of a step's slope: its distortion by the step's bytes, and its
-- bytes by the step's gain. It is equal for the two points of the step.
abbrev pub height : Step → Point → ℕ
height s p = p.dist * s.len + s.gain * p.len

-- no point of more bytes has less distortion
abbrev pub HasNone : List Point → Point → ℕ → Type 0
HasNone points c n = (k : ℕ) → k < n → c.len < (point_at points k).len
    → c.dist ≤ (point_at points k).dist

-- A step from the corner c to the first of its equals, under whose line no point of more bytes than
-- c lies, and on whose line none lies beyond its end.
pub record IsBest (block : ℕ) (points : List Point) (c : Point) (n : ℕ) (s : Step) : Type 0 where
  pub step : IsStepTo block c (point_at points s.to) s
  pub within : s.to < n
  pub line : (k : ℕ) → k < n → c.len < (point_at points k).len
      → height s c ≤ height s (point_at points k)
  pub strict : (k : ℕ) → k < n → c.len + s.len < (point_at points k).len
      → height s c < height s (point_at points k)
  pub first : (k : ℕ) → k < n → (point_at points k).len ≡ c.len + s.len
      → (point_at points k).dist + s.gain ≡ c.dist → s.to ≤ k
