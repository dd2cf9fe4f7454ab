-- The points of a code-block: bytes and distortion for each number of coding passes.
use Rattle.std.specs.Prelude.{ℕ, ◌≡◌, ◌<◌, ◌≤◌, ◌^◌, List, length, slice_index_or}
use Rattle.rd_hulls.specs.declared.point.Point.{Point}

-- nothing coded, and nothing to gain by coding
abbrev pub origin : Point
origin = record { len = 0; dist = 0; passes = 0 }

-- the point of a number of passes
abbrev pub point_at : List Point → ℕ → Point
point_at points k = slice_index_or points k origin

-- A point that may stand at the place of k passes: only no passes have no bytes, an ended code has
-- at most 131,072 bytes, and the distortion is below 2^64.
pub record IsPoint (k : ℕ) (p : Point) : Type 0 where
  pub passes : p.passes ≡ k
  pub none : k ≡ 0 → p.len ≡ 0
  pub some : 0 < k → 1 ≤ p.len
  pub short : p.len ≤ 131072
  pub wide : p.dist < 2 ^ 64

-- Points that a hull may be asked of: one at least, each at the place of its passes.
pub record ArePoints (points : List Point) : Type 0 where
  pub first : 0 < length points
  pub each : (k : ℕ) → k < length points → IsPoint k (point_at points k)

-- one of the points
abbrev pub IsPointOf : List Point → Point → Type 0
IsPointOf points p = p ≡ point_at points p.passes
