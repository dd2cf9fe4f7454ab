-- The bytes and the distortion of a code-block's first passes: ISO/IEC 15444-1, Annexes C and D,
-- and J.14.3, on rate control.
use Rattle.std.specs.Prelude.{ℕ, zero, suc, ◌+◌, Bool, List, [], length, map}
use Rattle.std.specs.List.{range_with_len}
use Rattle.mq_coder.specs.Code.{code, coded}
use Rattle.ebcot_contexts.specs.Contexts.{Shape}
use Rattle.ebcot_contexts.specs.Meaning.{symbols_of}
use Rattle.distortion_sums.specs.Distortion.{distortion}
use Rattle.ebcot_passes.specs.Code.{passes_of}
use Rattle.rd_hulls.specs.declared.point.Point.{Point}

-- the bytes of the first k passes: the ended code of their symbols; of no pass there are none
abbrev pub code_of : List (ℕ × Bool) → Shape → ℕ → List ℕ
code_of coefs s zero = []
code_of coefs s (suc k) = code (symbols_of coefs s (suc k))

-- the point of the first k passes
abbrev pub point_of : List (ℕ × Bool) → Shape → ℕ → Point
point_of coefs s k = record {
  len = length (code_of coefs s k);
  dist = distortion coefs s k;
  passes = k;
}

-- the points of no passes up to those of k
unfoldable pub points_upto : List (ℕ × Bool) → Shape → ℕ → List Point
points_upto coefs s k = map (point_of coefs s) (range_with_len 0 (k + 1))

-- the points of all passes
abbrev pub points_of : List (ℕ × Bool) → Shape → List Point
points_of coefs s = points_upto coefs s (passes_of s.planes)

-- one byte more than the first k passes put out before their ending
abbrev pub least_after : List (ℕ × Bool) → Shape → ℕ → ℕ
least_after coefs s k = length (coded (symbols_of coefs s k)).bytes + 1
