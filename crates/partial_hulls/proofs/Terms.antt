-- The least term over known points, and what is above it.
use Rattle.std.proofs.Common.{ℕ, ◌+◌, ◌*◌, ◌<◌, ◌≤◌, ◌≡◌, inl, inr, List, ◌++◌, length, min}
use Rattle.std.proofs.Common.{Bool, true, ◌⊎◌, arith, refl, sym, subst, ap, ◌∙◌}
use Rattle.std.proofs.Math.Nat.{mul-le-mul_left, min-eq_left, min-eq_right}
use Rattle.std.proofs.lemmas.Bool.{cases_lt}
use Rattle.rd_hulls.specs.declared.point.Point.{Point}
use Rattle.rd_hulls.specs.declared.step.Step.{Step}
use Rattle.rd_hulls.specs.Points.{point_at}
use Rattle.rd_hulls.specs.Hull.{end_of}
use Rattle.allocation_bound.specs.Passes.{IsLeastTerm, term}
use Rattle.allocation_bound.specs.Steps.{scale, lens, gains, cost, best, Agrees, excess}
use Rattle.allocation_bound.proofs.Counts.{least_over_counts, least_is_reached, split_bytes}
use Rattle.allocation_bound.proofs.Counts.{split_dist}
use Rattle.allocation_bound.proofs.Splits.{positive_parts}
use Rattle.partial_hulls.specs.Known.{IsBetween, IsCompletion}
use Rattle.partial_hulls.proofs.Corners.{from_corner}

-- the least of the terms of the first n points, which one point has
pub record IsLeastSoFar (points : List Point) (m n least : ℕ) : Type 0 where
  pub below : (k : ℕ) → k < n → least ≤ term m (point_at points k)
  pub count : ℕ
  pub inside : count < length points
  pub reached : term m (point_at points count) ≡ least

pub first_least : (points : List Point) (m least : ℕ) → 0 < length points
    → least ≡ term m (point_at points 0) → IsLeastSoFar points m 0 least
first_least points m least some is = record {
  below = λ k none. absurd (omega arith);
  count = 0;
  inside = some;
  reached = sym is;
}

-- one point more
pub next_least : (points : List Point) (m n least next : ℕ) → IsLeastSoFar points m n least
    → n < length points → next ≡ min least (term m (point_at points n))
    → IsLeastSoFar points m (n + 1) next
next_least points m n least next before inside is =
    elim (cases_lt (term m (point_at points n)) least) [
      | inl less ↦ (let e : next ≡ term m (point_at points n) =
          is ∙ min-eq_right (omega (arith, less)) in
          record {
            below = λ k below. elim (cases_lt k n) [
              | inl h ↦ omega (arith, e, before.below k h, less)
              | inr h ↦ (let k_is : n ≡ k = omega arith in
                  subst (λ (j : ℕ). next ≤ term m (point_at points j)) k_is (omega (arith, e)))
            ];
            count = n;
            inside = inside;
            reached = sym e;
          })
      | inr more ↦ (let e : next ≡ least = is ∙ min-eq_left more in
          record {
            below = λ k below. elim (cases_lt k n) [
              | inl h ↦ omega (arith, e, before.below k h)
              | inr h ↦ (let k_is : n ≡ k = omega arith in
                  subst (λ (j : ℕ). next ≤ term m (point_at points j)) k_is (omega (arith, e, more)))
            ];
            count = before.count;
            inside = before.inside;
            reached = before.reached ∙ sym e;
          })
    ]

pub whole_least : (points : List Point) (m least : ℕ) → IsLeastSoFar points m (length points) least
    → IsLeastTerm points m least
whole_least points m least is = record {
  below = is.below;
  count = is.count;
  inside = is.inside;
  reached = is.reached;
}

-- where no term of more passes is less, the least over known points is the least over all
pub least_of_all : (known : List Point) (low : ℕ) (whole : Bool) (all : List Point) (m least : ℕ)
    → IsCompletion known low whole all → IsLeastTerm known m least
    → (whole ≡ true) ⊎ (least ≤ m * low) → IsLeastTerm all m least
least_of_all known low whole all m least is of enough = record {
  below = λ k below. elim (cases_lt k (length known)) [
    | inl h ↦ subst (λ (p : Point). least ≤ term m p) (sym (is.first k h)) (of.below k h)
    | inr h ↦ elim enough [
      | inl every ↦ absurd (omega (arith, is.none_more every))
      | inr far ↦ (let x : m * low ≤ m * (point_at all k).len =
          mul-le-mul_left m (is.longer k h below) in
          omega (arith, x, far))
    ]
  ];
  count = of.count;
  inside = omega (arith, of.inside, is.within);
  reached = ap (term m) (is.first of.count of.inside) ∙ of.reached;
}

-- what a corner has above the least term is the excess of the steps that are left
pub above_least : (b : ℕ) (all : List Point) (c m least : ℕ) (done left : List Step)
    (known : List Point) (low : ℕ) (whole : Bool) → IsCompletion known low whole all
    → IsBetween b all c done left → Agrees m done left → IsLeastTerm all m least
    → term m (point_at all c) ≡ least + excess m left
above_least b all c m least done left known low whole is between agrees of =
    let at = end_of 0 done in
    let steps = done ++ left in
    let end = (point_at all (end_of 0 steps)).dist in
    let hull = between.hull in
    let none : (point_at all 0).len ≡ 0 = (is.are.each 0 is.are.first).none refl in
    let bytes : (point_at all at).len ≡ (point_at all 0).len + lens done =
    split_bytes b all 0 done left hull.follow in
    let dist : (point_at all at).dist ≡ gains left + end =
    split_dist b all 0 done left hull.follow in
    let low_is : best m steps + scale * end ≤ term m (point_at all of.count) =
    least_over_counts b all m steps is.are hull of.count of.inside in
    let found = least_is_reached b all m steps is.are hull in
    let no_more : least ≤ term m (point_at all found.count) = of.below found.count found.inside in
    let costs : term m (point_at all found.count)
    ≡ best m steps + scale * end + m * (point_at all 0).len = found.costs in
    let free : m * (point_at all 0).len ≡ m * 0 = ap (λ z. m * z) none in
    let least_is : least ≡ best m steps + scale * end =
    omega (arith, low_is, of.reached, no_more, costs, free) in
    let parts : cost m done left ≡ best m steps + excess m left =
    positive_parts m done left agrees
    (from_corner b all at done left (record { hull = hull; ended = refl })).fall in
    let paid : m * (point_at all at).len ≡ m * lens done =
    ap (λ z. m * z) (let x : (point_at all at).len ≡ lens done = omega (arith, bytes, none) in x) in
    let here : term m (point_at all at) ≡ least + excess m left =
    omega (arith, paid, dist, least_is, parts) in
    subst (λ (k : ℕ). term m (point_at all k) ≡ least + excess m left) between.ended here
