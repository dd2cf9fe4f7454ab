-- The steps of one block's hull, as a walk takes them.
use Rattle.std.proofs.Common.{◌≡◌, ℕ, zero, suc, ◌+◌, ◌*◌, ◌<◌, ◌≤◌, List, [], ◌∷◌, length, arith}
use Rattle.std.proofs.Common.{◌∙◌}
use Rattle.std.specs.List.{AllByRecursion}
use Rattle.allocation_bound.specs.Laws.{FollowOn}
use Rattle.allocation_bound.specs.Steps.{gains, lens}
use Rattle.allocation_bound.specs.Sums.{upto}
use Rattle.rd_hulls.specs.Hull.{FollowFrom, IsHull, end_of}
use Rattle.rd_hulls.specs.Points.{ArePoints, point_at}
use Rattle.rd_hulls.specs.Steps.{IsFalling}
use Rattle.rd_hulls.specs.declared.point.Point.{Point}
use Rattle.rd_hulls.specs.declared.step.Step.{Step}

-- they lead from no passes to at most so many, lose at most the distortion of no passes, and have
-- the bytes of one block
pub record CanBeTaken (points : List Point) (most : ℕ) (steps : List Step) : Type 0 where
  pub follow : FollowOn 0 steps
  pub fall : IsFalling steps
  pub to : AllByRecursion (λ (s : Step). s.to ≤ most) steps
  pub gain : gains steps ≤ (point_at points 0).dist
  pub bytes : lens steps ≤ 131072

follows : (b : ℕ) (points : List Point) (c : ℕ) (steps : List Step) → ArePoints points →
    c < length points → FollowFrom b points c steps → FollowOn c steps
follows b points c [] are inside h = tt
follows b points c (s ∷ rest) are inside h =
    (h.0.step.from ∙ (are.each c inside).passes, follows b points s.to rest are h.0.within h.1)

within : (b : ℕ) (points : List Point) (c most : ℕ) (steps : List Step) →
    length points ≡ most + 1 → FollowFrom b points c steps →
    AllByRecursion (λ (s : Step). s.to ≤ most) steps
within b points c most [] long h = tt
within b points c most (s ∷ rest) long h =
    (let to = h.0.within in omega (arith, to, long), within b points s.to most rest long h.1)

gained : (b : ℕ) (points : List Point) (c : ℕ) (steps : List Step) → FollowFrom b points c steps →
    gains steps ≤ (point_at points c).dist
gained b points c [] h = omega arith
gained b points c (s ∷ rest) h =
    let later = gained b points s.to rest h.1 in
    let here = h.0.step.gain in
    omega (arith, later, here)

written : (b : ℕ) (points : List Point) (c : ℕ) (steps : List Step) → FollowFrom b points c steps →
    (point_at points c).len + lens steps ≡ (point_at points (end_of c steps)).len
written b points c [] h = omega arith
written b points c (s ∷ rest) h =
    let later = written b points s.to rest h.1 in
    let here = h.0.step.len in
    omega (arith, later, here)

pub can_be_taken : (b : ℕ) (points : List Point) (most : ℕ) (steps : List Step) →
    length points ≡ most + 1 → ArePoints points → IsHull b points steps →
    CanBeTaken points most steps
can_be_taken b points most steps long are h = record {
  follow = follows b points 0 steps are are.first h.follow;
  fall = h.fall;
  to = within b points 0 most steps long h.follow;
  gain = gained b points 0 steps h.follow;
  bytes = (let all = written b points 0 steps h.follow in
      let short = (are.each (end_of 0 steps) h.lowest.within).short in
      omega (arith, all, short));
}

pub upto_each : (n most : ℕ) (f : ℕ → ℕ) → ((j : ℕ) → j < n → f j ≤ most) → upto n f ≤ n * most
upto_each zero most f h = omega arith
upto_each (suc n) most f h =
    let here = h n (omega arith) in
    let before = upto_each n most f (λ j below. h j (omega (arith, below))) in
    omega (arith, here, before)
