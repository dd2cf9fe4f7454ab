-- The points of all passes of a code-block, with a bound on later bytes for each count of coded
-- passes.
use Rattle.std.specs.Prelude.{ℕ, suc, ◌≡◌, ◌<◌, ◌≤◌, List, length, get_or}
use Rattle.rd_hulls.specs.declared.point.Point.{Point}
use Rattle.rd_hulls.specs.Points.{point_at, ArePoints}

-- the bound where so many passes are coded
abbrev pub bound_at : List ℕ → ℕ → ℕ
bound_at least k = get_or least k 0

-- a bound on the bytes of every point after that of k passes
pub record IsBound (points : List Point) (k least : ℕ) : Type 0 where
  pub some : 1 ≤ least
  pub short : least ≤ 131072
  pub below : (j : ℕ) → k < j → j < length points → least ≤ (point_at points j).len

-- Points of all passes, which leave no distortion, and as many bounds.
pub record IsListed (points : List Point) (least : List ℕ) : Type 0 where
  pub are : ArePoints points
  pub long : length least ≡ length points
  pub bounds : (k : ℕ) → k < length points → IsBound points k (bound_at least k)
  pub ends : (k : ℕ) → suc k ≡ length points → (point_at points k).dist ≡ 0
