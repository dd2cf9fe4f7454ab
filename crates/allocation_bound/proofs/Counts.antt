-- The least cost over the splits of a hull's steps is the least over all pass counts.
use Rattle.std.proofs.Common.{ℕ, suc, zero, ◌≡◌, ◌+◌, ◌*◌, ◌<◌, ◌≤◌, List, [], ◌∷◌, ◌++◌, length}
use Rattle.std.proofs.Common.{refl, ap, subst, arith, inl, inr}
use Rattle.std.proofs.lemmas.Bool.{cases_lt}
use Rattle.std.proofs.Math.Nat.{min-eq_left, min-eq_right, mul-le-mul_left}
use Rattle.rd_hulls.specs.declared.point.Point.{Point}
use Rattle.rd_hulls.specs.declared.step.Step.{Step}
use Rattle.rd_hulls.specs.Points.{point_at, ArePoints}
use Rattle.rd_hulls.specs.Hull.{IsHullStep, FollowFrom, end_of, IsHull}
use Rattle.allocation_bound.specs.Steps.{scale, lens, gains, cost, best, Agrees, IsHead}
use Rattle.allocation_bound.specs.Passes.{term}
use Rattle.allocation_bound.proofs.Products.{left, right}
use Rattle.allocation_bound.proofs.Splits.{best_at_none, best_after, excess_over_prefixes}

-- what the steps gain in all
gained : (b : ℕ) (points : List Point) (c : ℕ) (steps : List Step) → FollowFrom b points c steps
    → (point_at points c).dist ≡ gains steps + (point_at points (end_of c steps)).dist
gained b points c [] h = omega arith
gained b points c (s ∷ r) h =
    let e : (point_at points s.to).dist ≡ gains r
    + (point_at points (end_of s.to r)).dist = gained b points s.to r h.1 in
    let g : (point_at points s.to).dist + s.gain ≡ (point_at points c).dist = h.0.step.gain in
    omega arith

-- no count of no more bytes than c costs less
abbrev IsBestSoFar : List Point → ℕ → ℕ → Type 0
IsBestSoFar points m c = (k : ℕ) → k < length points → (point_at points k).len
    ≤ (point_at points c).len
    → term m (point_at points c) ≤ term m (point_at points k)

same_height : (d l e a s g : ℕ) → d + g ≡ e → a + s ≡ l → e * s + g * a ≡ d * s + g * l
same_height d l e a s g gain len =
    let x : (d + g) * s ≡ e * s = ap (λ n. n * s) gain in
    let y : g * (a + s) ≡ g * l = ap (λ n. g * n) len in
    omega arith

-- a step that is at least as steep as the multiplier ends at a count that is best so far
best_at_end : (b : ℕ) (points : List Point) (m c : ℕ) (s : Step) → IsHullStep b points c s
    → m * s.len ≤ scale * s.gain → IsBestSoFar points m s.to
best_at_end b points m c s h steep k inside short =
    let same : (point_at points c).dist * s.len + s.gain * (point_at points c).len
    ≡ (point_at points s.to).dist * s.len + s.gain * (point_at points s.to).len =
    same_height (point_at points s.to).dist (point_at points s.to).len (point_at points c).dist
    (point_at points c).len s.len s.gain
    h.step.gain h.step.len in
    let line : (point_at points c).dist * s.len + s.gain * (point_at points c).len
    ≤ (point_at points k).dist * s.len + s.gain * (point_at points k).len = h.line k inside in
    left m s.len s.gain (point_at points s.to).len (point_at points s.to).dist
    (point_at points k).len (point_at points k).dist
    s.longer steep (omega arith) short

-- the beginning of a step whose slope is at most m costs least of all
best_of_all : (b : ℕ) (points : List Point) (m c : ℕ) (s : Step) → IsHullStep b points c s
    → scale * s.gain ≤ m * s.len → IsBestSoFar points m c → (k : ℕ) → k < length points
    → term m (point_at points c) ≤ term m (point_at points k)
best_of_all b points m c s h flat so_far k inside = elim
    (cases_lt (point_at points c).len (point_at points k).len) [
      | inl l ↦ (let longer : (point_at points c).len ≤ (point_at points k).len = omega arith in
          right m s.len s.gain (point_at points c).len (point_at points c).dist
          (point_at points k).len
          (point_at points k).dist
          s.longer flat (h.line k inside) longer)
      | inr g ↦ so_far k inside g
    ]

least_from : (b : ℕ) (points : List Point) (m c : ℕ) (steps : List Step)
    → FollowFrom b points c steps
    → ((k : ℕ) → k < length points → (point_at points (end_of c steps)).dist
    ≤ (point_at points k).dist)
    → IsBestSoFar points m c → (k : ℕ) → k < length points
    → best m steps + scale * (point_at points (end_of c steps)).dist + m * (point_at points c).len
    ≤ term m (point_at points k)
least_from b points m c [] h lowest so_far k inside = elim
    (cases_lt (point_at points c).len (point_at points k).len) [
      | inl l ↦ (let d : (point_at points c).dist ≤ (point_at points k).dist = lowest k inside in
          let longer : (point_at points c).len ≤ (point_at points k).len = omega arith in
          let w : m * (point_at points c).len
          ≤ m * (point_at points k).len = mul-le-mul_left m longer in
          omega arith)
      | inr g ↦ (let t : term m (point_at points c)
          ≤ term m (point_at points k) = so_far k inside g in omega arith)
    ]
least_from b points m c (s ∷ r) h lowest so_far k inside = elim
    (cases_lt (scale * s.gain) (m * s.len)) [
      | inl l ↦ (let flat : scale * s.gain ≤ m * s.len = omega arith in
          let t : term m (point_at points c)
          ≤ term m (point_at points k) = best_of_all b points m c s h.0 flat so_far k inside in
          let n : best m (s ∷ r) ≤ scale * gains (s ∷ r) = best_at_none m (s ∷ r) in
          let g : (point_at points c).dist ≡ gains (s ∷ r)
          + (point_at points (end_of s.to r)).dist = gained b points c (s ∷ r) h in
          omega arith)
      | inr steep ↦ (let i : best m r + scale * (point_at points (end_of s.to r)).dist
          + m * (point_at points s.to).len
          ≤ term m (point_at points k) =
          least_from b points m s.to r h.1 lowest (best_at_end b points m c s h.0 steep) k inside in
          let n : best m (s ∷ r) ≤ m * s.len + best m r = best_after m s r in
          let longer : m * ((point_at points c).len + s.len)
          ≡ m * (point_at points s.to).len = ap (λ n. m * n) h.0.step.len in
          omega arith)
    ]

none_first : (points : List Point) (m : ℕ) → ArePoints points → IsBestSoFar points m 0
none_first points m are zero inside short = omega arith
none_first points m are (suc k) inside short =
    let z : (point_at points 0).len ≡ 0 = (are.each 0 are.first).none refl in
    let o : 1 ≤ (point_at points (suc k)).len = (are.each (suc k) inside).some (omega arith) in
    absurd (omega arith)

-- no pass count costs less than the best split of the steps
pub least_over_counts : (b : ℕ) (points : List Point) (m : ℕ) (steps : List Step) → ArePoints points
    → IsHull b points steps
    → (k : ℕ) → k < length points
    → best m steps + scale * (point_at points (end_of 0 steps)).dist ≤ term m (point_at points k)
least_over_counts b points m steps are h k inside =
    let i : best m steps + scale * (point_at points (end_of 0 steps)).dist
    + m * (point_at points 0).len ≤ term m (point_at points k) =
    least_from b points m 0 steps h.follow h.lowest.least (none_first points m are) k inside in
    omega arith

-- some pass count, at the end of the first steps, costs no more
pub record IsLeastFrom (points : List Point) (m c : ℕ) (steps : List Step) : Type 0 where
  pub count : ℕ
  pub inside : count < length points
  pub costs : term m (point_at points count)
      ≡ best m steps + scale * (point_at points (end_of c steps)).dist + m * (point_at points c).len

least_reached : (b : ℕ) (points : List Point) (m c : ℕ) (steps : List Step) → c < length points
    → FollowFrom b points c steps
    → IsLeastFrom points m c steps
least_reached b points m c [] inside h = record { count = c; inside = inside; costs = omega arith }
least_reached b points m c (s ∷ r) inside h =
    let g : (point_at points c).dist ≡ gains (s ∷ r)
    + (point_at points (end_of s.to r)).dist = gained b points c (s ∷ r) h in
    elim (cases_lt (m * s.len + best m r) (scale * gains (s ∷ r))) [
      | inl l ↦ (let i : IsLeastFrom points m s.to r = least_reached b points m s.to r h.0.within
          h.1 in
          let e : term m (point_at points i.count)
          ≡ best m r + scale * (point_at points (end_of s.to r)).dist
          + m * (point_at points s.to).len = i.costs in
          let longer : m * ((point_at points c).len + s.len)
          ≡ m * (point_at points s.to).len = ap (λ n. m * n) h.0.step.len in
          let n : best m (s ∷ r) ≡ m * s.len + best m r = min-eq_right (omega arith) in
          record { count = i.count; inside = i.inside; costs = omega arith })
      | inr k ↦ (let n : best m (s ∷ r) ≡ scale * gains (s ∷ r) = min-eq_left k in
          record { count = c; inside = inside; costs = omega arith })
    ]

pub least_is_reached : (b : ℕ) (points : List Point) (m : ℕ) (steps : List Step) → ArePoints points
    → IsHull b points steps
    → IsLeastFrom points m 0 steps
least_is_reached b points m steps are h = least_reached b points m 0 steps are.first h.follow

-- a count to which the steps taken lead has their bytes, and the gains of those left above the end
pub split_bytes : (b : ℕ) (points : List Point) (c : ℕ) (done left : List Step)
    → FollowFrom b points c (done ++ left)
    → (point_at points (end_of c done)).len ≡ (point_at points c).len + lens done
split_bytes b points c [] left h = omega arith
split_bytes b points c (s ∷ d) left h =
    let i : (point_at points (end_of s.to d)).len ≡ (point_at points s.to).len
    + lens d = split_bytes b points s.to d left h.1 in
    let e : (point_at points c).len + s.len ≡ (point_at points s.to).len = h.0.step.len in
    omega arith

pub split_dist : (b : ℕ) (points : List Point) (c : ℕ) (done left : List Step)
    → FollowFrom b points c (done ++ left)
    → (point_at points (end_of c done)).dist ≡ gains left
    + (point_at points (end_of c (done ++ left))).dist
split_dist b points c [] left h = gained b points c left h
split_dist b points c (s ∷ d) left h = split_dist b points s.to d left h.1

lens_within : (done left : List Step) → lens left ≤ lens (done ++ left)
lens_within [] left = omega arith
lens_within (s ∷ d) left = let h : lens left ≤ lens (d ++ left) = lens_within d left in omega arith

whole_bytes : (b : ℕ) (points : List Point) (c : ℕ) (steps : List Step)
    → FollowFrom b points c steps
    → (point_at points (end_of c steps)).len ≡ (point_at points c).len + lens steps
whole_bytes b points c [] h = omega arith
whole_bytes b points c (s ∷ r) h =
    let i : (point_at points (end_of s.to r)).len ≡ (point_at points s.to).len
    + lens r = whole_bytes b points s.to r h.1 in
    let e : (point_at points c).len + s.len ≡ (point_at points s.to).len = h.0.step.len in
    omega arith

-- where the multiplier agrees, the chosen count is at most 2^17 above any other
pub block_term : (b : ℕ) (points : List Point) (m : ℕ) (done left : List Step) → ArePoints points
    → IsHull b points (done ++ left) → Agrees m done left → (k : ℕ) → k < length points
    → term m (point_at points (end_of 0 done)) ≤ term m (point_at points k) + 131072
block_term b points m done left are h a k inside =
    let z : (point_at points 0).len ≡ 0 = (are.each 0 are.first).none refl in
    let e : (point_at points (end_of 0 done)).len ≡ (point_at points 0).len
    + lens done = split_bytes b points 0 done left h.follow in
    let f : m * (point_at points (end_of 0 done)).len ≡ m * lens done =
    ap (λ n. m * n) (let w : (point_at points (end_of 0 done)).len ≡ lens done = omega arith in w)
    in
    let d : (point_at points (end_of 0 done)).dist ≡ gains left
    + (point_at points (end_of 0 (done ++ left))).dist =
    split_dist b points 0 done left h.follow in
    let l : best m (done ++ left) + scale * (point_at points (end_of 0 (done ++ left))).dist
    ≤ term m (point_at points k) =
    least_over_counts b points m (done ++ left) are h k inside in
    let x : cost m done left + length left ≤ best m (done ++ left)
    + lens left = excess_over_prefixes m done left a in
    let n : lens left ≤ lens (done ++ left) = lens_within done left in
    let all : (point_at points (end_of 0 (done ++ left))).len ≡ (point_at points 0).len
    + lens (done ++ left) =
    whole_bytes b points 0 (done ++ left) h.follow in
    let few : (point_at points (end_of 0 (done ++ left))).len
    ≤ 131072 = (are.each (end_of 0 (done ++ left)) h.lowest.within).short in
    omega arith

next_hull_step : (b : ℕ) (points : List Point) (c : ℕ) (done : List Step) (s : Step) (r : List Step)
    → FollowFrom b points c (done ++ s ∷ r) → IsHullStep b points (end_of c done) s
next_hull_step b points c [] s r h = h.0
next_hull_step b points c (t ∷ d) s r h = next_hull_step b points t.to d s r h.1

-- the next step is one of the hull, from the count that the steps taken lead to
pub head_hull_step : (b : ℕ) (points : List Point) (s : Step) (done left : List Step)
    → IsHead s left
    → FollowFrom b points 0 (done ++ left) → IsHullStep b points (end_of 0 done) s
head_hull_step b points s done [] head h = absurd head
head_hull_step b points s done (t ∷ r) head h =
    subst (λ (u : Step). IsHullStep b points (end_of 0 done) u) head
    (next_hull_step b points 0 done t r h)
