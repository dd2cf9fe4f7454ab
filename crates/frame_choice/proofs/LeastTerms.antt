-- The least of a block's terms, and what the steps that it has taken gain.
use Rattle.std.proofs.Common.{ℕ, ◌≡◌, ◌+◌, ◌*◌, List, [], ◌∷◌, ◌++◌, refl, ap, arith}
use Rattle.rd_hulls.specs.declared.point.Point.{Point}
use Rattle.rd_hulls.specs.declared.step.Step.{Step}
use Rattle.rd_hulls.specs.Hull.{FollowFrom, IsHull, end_of}
use Rattle.rd_hulls.specs.Points.{ArePoints, point_at}
use Rattle.allocation_bound.specs.Passes.{IsLeastTerm, term}
use Rattle.allocation_bound.specs.Steps.{best, gains, scale}
use Rattle.allocation_bound.proofs.Counts.{least_is_reached, least_over_counts}

-- that of the best way to take the first steps of the hull, and of the end of the hull
abbrev pub least_term : List Point → ℕ → List Step → ℕ
least_term points m steps = best m steps + scale * (point_at points (end_of 0 steps)).dist

pub least_is : (b : ℕ) (points : List Point) (m : ℕ) (steps : List Step) → ArePoints points →
    IsHull b points steps → IsLeastTerm points m (least_term points m steps)
least_is b points m steps are h =
    let r = least_is_reached b points m steps are h in
    let c : term m (point_at points r.count) ≡ best m steps
    + scale * (point_at points (end_of 0 steps)).dist + m * (point_at points 0).len = r.costs in
    let zero_bytes : (point_at points 0).len ≡ 0 = (are.each 0 are.first).none refl in
    let z : m * (point_at points 0).len ≡ m * 0 = ap (λ n. m * n) zero_bytes in
    record {
      below = least_over_counts b points m steps are h;
      count = r.count;
      inside = r.inside;
      reached = omega arith;
    }

-- the distortion before some steps is that after them, and their gains
pub gained_by : (b : ℕ) (points : List Point) (c : ℕ) (done left : List Step) →
    FollowFrom b points c (done ++ left) →
    (point_at points c).dist ≡ gains done + (point_at points (end_of c done)).dist
gained_by b points c [] left h = omega arith
gained_by b points c (s ∷ d) left h =
    let rest : (point_at points s.to).dist ≡ gains d + (point_at points (end_of s.to d)).dist =
    gained_by b points s.to d left h.1 in
    let here : (point_at points s.to).dist + s.gain ≡ (point_at points c).dist = h.0.step.gain in
    omega arith
