-- The points of a code-block of which only the first ones are known, those of the passes coded so
-- far.
use Rattle.std.specs.Prelude.{ℕ, suc, ◌≡◌, ◌<◌, ◌≤◌, Bool, true, List, ◌++◌, length}
use Rattle.rd_hulls.specs.declared.point.Point.{Point}
use Rattle.rd_hulls.specs.declared.step.Step.{Step}
use Rattle.rd_hulls.specs.Points.{point_at, ArePoints}
use Rattle.rd_hulls.specs.Hull.{IsHull, end_of}

-- The points of all passes of a block, of which the first ones are known: no ended code of more
-- passes has fewer than `low` bytes, and all passes together leave no distortion. Where the known
-- points are the whole, there are no more.
pub record IsCompletion (known : List Point) (low : ℕ) (whole : Bool) (all : List Point)
    : Type 0 where
  pub are : ArePoints all
  pub within : length known ≤ length all
  pub first : (k : ℕ) → k < length known → point_at all k ≡ point_at known k
  pub longer : (k : ℕ) → length known ≤ k → k < length all → low ≤ (point_at all k).len
  pub none_more : whole ≡ true → length all ≡ length known
  pub ends : (k : ℕ) → suc k ≡ length all → (point_at all k).dist ≡ 0

-- c passes are a corner of the hull of a block's points: some of its steps lead to it, and the
-- others from it.
pub record IsBetween (block : ℕ) (all : List Point) (c : ℕ) (done left : List Step)
    : Type 0 where
  pub hull : IsHull block all (done ++ left)
  pub ended : end_of 0 done ≡ c
