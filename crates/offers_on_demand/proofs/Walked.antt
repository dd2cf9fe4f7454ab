-- A walk can go over the steps of hulls.
use Rattle.std.proofs.Common.{ℕ, zero, suc, ◌≡◌, ◌+◌, ◌<◌, ◌≤◌, ◌^◌, List, [], ◌∷◌, length, get_or}
use Rattle.std.proofs.Common.{arith, ap, sym, subst, ◌∙◌}
use Rattle.std.proofs.lemmas.List.{append-nil}
use Rattle.std.specs.List.{AllByRecursion}
use Rattle.rd_hulls.specs.declared.point.Point.{Point}
use Rattle.rd_hulls.specs.declared.step.Step.{Step}
use Rattle.rd_hulls.specs.Hull.{FollowFrom, IsHull, end_of}
use Rattle.rd_hulls.specs.Points.{ArePoints, point_at}
use Rattle.allocation_bound.proofs.Counts.{split_bytes}
use Rattle.allocation_bound.specs.Laws.{FollowOn}
use Rattle.allocation_bound.specs.Steps.{lens}
use Rattle.allocation_bound.specs.Sums.{upto}
use Rattle.budget_duals.specs.Walking.{CanWalk}

follow_on : (b : ℕ) (points : List Point) → ArePoints points → (c : ℕ) → c < length points
    → (steps : List Step) → FollowFrom b points c steps → FollowOn c steps
follow_on b points are c inside [] follow = tt
follow_on b points are c inside (s ∷ rest) follow = (
  follow.0.step.from ∙ (are.each c inside).passes,
  follow_on b points are s.to follow.0.within rest follow.1,
)

ends_within : (b : ℕ) (points : List Point) (most : ℕ) → length points ≤ most + 1 → (c : ℕ)
    (steps : List Step) → FollowFrom b points c steps
    → AllByRecursion (λ (s : Step). s.to ≤ most) steps
ends_within b points most few c [] follow = tt
ends_within b points most few c (s ∷ rest) follow = (
  omega (arith, few, follow.0.within),
  ends_within b points most few s.to rest follow.1,
)

pub can_walk : (most : List ℕ) (all : ℕ → List Point) (left : ℕ → List Step)
    → ((b : ℕ) → b < length most → ArePoints (all b))
    → ((b : ℕ) → b < length most → length (all b) ≤ get_or most b 0 + 1)
    → ((b : ℕ) → b < length most → IsHull b (all b) (left b)) → CanWalk most left
can_walk most all left are few hulls = record {
  follow = λ b below. follow_on b (all b) (are b below) 0 (are b below).first (left b)
      (hulls b below).follow;
  fall = λ b below. (hulls b below).fall;
  to = λ b below. ends_within b (all b) (get_or most b 0) (few b below) 0 (left b)
      (hulls b below).follow;
}

-- all steps of a hull have at most the bytes of one point
pub hull_bytes : (b : ℕ) (points : List Point) (steps : List Step) → ArePoints points
    → IsHull b points steps → lens steps ≤ 131072
hull_bytes b points steps are hull =
    let long : (point_at points (end_of 0 steps)).len ≡ (point_at points 0).len + lens steps =
    split_bytes b points 0 steps []
    (subst (FollowFrom b points 0) (sym (append-nil steps)) hull.follow) in
    omega (arith, long, (are.each (end_of 0 steps) hull.lowest.within).short)

pub two_bytes : (blocks : ℕ) (f : ℕ → ℕ) → blocks ≡ 2 → ((b : ℕ) → b < 2 → f b ≤ 131072)
    → upto blocks f < 2 ^ 64
two_bytes blocks f two each =
    let sums : upto blocks f ≡ upto 2 f = ap (λ (n : ℕ). upto n f) two in
    omega (arith, sums, each 0 (omega arith), each 1 (omega arith))

pub at_most_58 : (all : ℕ → List Point) → ((b : ℕ) → length (all b) ≤ 59) → (b : ℕ) → b < 2
    → length (all b) ≤ get_or (58 ∷ 58 ∷ []) b 0 + 1
at_most_58 all few zero below = few 0
at_most_58 all few (suc zero) below = few 1
at_most_58 all few (suc (suc b)) below = absurd (omega arith)

-- the two blocks ask nothing of a step
pub all_known : (steps : List Step) → AllByRecursion (λ (s : Step). Unit {0}) steps
all_known [] = tt
all_known (s ∷ rest) = (tt, all_known rest)
