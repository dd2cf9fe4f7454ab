-- The lower hull of a code-block's points, as steps from corner to corner.
use Rattle.std.specs.Prelude.{ℕ, ◌≡◌, ◌<◌, ◌≤◌, List, [], ◌∷◌, length}
use Rattle.rd_hulls.specs.declared.point.Point.{Point}
use Rattle.rd_hulls.specs.declared.step.Step.{Step}
use Rattle.rd_hulls.specs.Points.{point_at}
use Rattle.rd_hulls.specs.Search.{height}
use Rattle.rd_hulls.specs.Steps.{IsStepTo, IsFalling}

-- of the points that equal that of c passes, this one has the fewest passes
abbrev pub IsFirst : List Point → ℕ → Type 0
IsFirst points c = (k : ℕ) → k < length points → (point_at points k).len ≡ (point_at points c).len
    → (point_at points k).dist ≡ (point_at points c).dist → c ≤ k

-- A step of the hull, from the point of c passes to the first of those that equal its end: no point
-- lies under its line.
pub record IsHullStep (block : ℕ) (points : List Point) (c : ℕ) (s : Step) : Type 0 where
  pub within : s.to < length points
  pub step : IsStepTo block (point_at points c) (point_at points s.to) s
  pub first : IsFirst points s.to
  pub line : (k : ℕ) → k < length points
      → height s (point_at points c) ≤ height s (point_at points k)

-- steps of the hull, each from the end of the one before it, the first from c passes
abbrev pub FollowFrom : ℕ → List Point → ℕ → List Step → Type 0
FollowFrom block points c [] = Unit {0}
FollowFrom block points c (s ∷ rest) =
    IsHullStep block points c s × FollowFrom block points s.to rest

-- the number of passes to which steps lead from c passes
abbrev pub end_of : ℕ → List Step → ℕ
end_of c [] = c
end_of c (s ∷ rest) = end_of s.to rest

-- the least distortion of all points, of those the fewest bytes, and of those the fewest passes
pub record IsLowest (points : List Point) (c : ℕ) : Type 0 where
  pub within : c < length points
  pub least : (k : ℕ) → k < length points → (point_at points c).dist ≤ (point_at points k).dist
  pub shortest : (k : ℕ) → k < length points → (point_at points k).dist ≡ (point_at points c).dist
      → (point_at points c).len ≤ (point_at points k).len
  pub first : IsFirst points c

-- The lower hull of a block's points.
pub record IsHull (block : ℕ) (points : List Point) (steps : List Step) : Type 0 where
  pub follow : FollowFrom block points 0 steps
  pub fall : IsFalling steps
  pub lowest : IsLowest points (end_of 0 steps)
