-- The laws of blocks whose points stand in memory.
use Rattle.std.proofs.Common.{ℕ, zero, suc, ◌≡◌, ◌+◌, ◌<◌, ◌≤◌, ◌==◌, true}
use Rattle.std.proofs.Common.{List, [], ◌∷◌, length, take, Option, Some, None, refl, sym, ◌∙◌}
use Rattle.std.proofs.Common.{arith}
use Rattle.std.proofs.lemmas.Bool.{eqb-true}
use Rattle.std.proofs.lemmas.List.{length-take-le, get_or-take}
use Rattle.rd_hulls.specs.declared.point.Point.{Point}
use Rattle.rd_hulls.specs.Points.{origin, point_at, IsPoint}
use Rattle.partial_hulls.specs.Known.{IsCompletion}
use Rattle.offers_on_demand.specs.Listed.{IsListed, bound_at}
use Rattle.offers_on_demand.specs.ListedBlocks.{all_in, known_in, least_in, whole_in}
use Rattle.offers_on_demand.specs.declared.listed.ListedPoints.{ListedPoints}

-- ---- no block

origin_at : (k : ℕ) → k < 1 → IsPoint k (point_at (origin ∷ []) k)
origin_at zero below = record {
  passes = refl;
  none = λ h. refl;
  some = λ h. absurd (omega arith);
  short = omega arith;
  wide = omega arith;
}
origin_at (suc k) below = absurd (omega arith)

origin_ends : (k : ℕ) → suc k ≡ 1 → (point_at (origin ∷ []) k).dist ≡ 0
origin_ends zero last = refl
origin_ends (suc k) last = absurd (omega arith)

of_none : IsCompletion (origin ∷ []) 1 true (origin ∷ [])
of_none = record {
  are = record { first = omega arith; each = origin_at };
  within = omega arith;
  first = λ k below. refl;
  longer = λ k past below. absurd (omega arith);
  none_more = λ w. refl;
  ends = origin_ends;
}

-- ---- the first points of a block

of_first : (points : List Point) (least : List ℕ) (coded : ℕ) → IsListed points least
    → coded < length points
    → IsCompletion (take (coded + 1) points) (bound_at least coded)
    (coded + 1 == length points) points
of_first points least coded is inside =
    let long : length (take (coded + 1) points) ≡ coded + 1 =
    length-take-le (coded + 1) points (omega arith) in
    record {
      are = is.are;
      within = omega (arith, long);
      first = λ k below. sym (get_or-take (coded + 1) points k origin (omega (arith, long)));
      longer = λ k past below. (is.bounds coded inside).below k (omega (arith, long)) below;
      none_more = λ w. sym (long ∙ eqb-true (coded + 1) (length points) w);
      ends = is.ends;
    }

-- ---- a block, or none

pub completes_in : (block : Option ListedPoints)
    → IsCompletion (known_in block) (least_in block) (whole_in block) (all_in block)
completes_in None = of_none
completes_in (Some block) =
    of_first block.points.items block.least.items block.coded block.listed block.inside

pub begun_in : (block : Option ListedPoints) → 0 < length (known_in block)
begun_in None = omega arith
begun_in (Some block) =
    let inside : block.coded < length block.points.items = block.inside in
    let long = length-take-le (block.coded + 1) block.points.items (omega arith) in
    omega (arith, long)

pub few_in : (block : Option ListedPoints) → length (all_in block) ≤ 59
few_in None = omega arith
few_in (Some block) = block.few

pub least_some_in : (block : Option ListedPoints) → 1 ≤ least_in block
least_some_in None = omega arith
least_some_in (Some block) = (block.listed.bounds block.coded block.inside).some

pub least_short_in : (block : Option ListedPoints) → least_in block ≤ 131072
least_short_in None = omega arith
least_short_in (Some block) = (block.listed.bounds block.coded block.inside).short
