-- The steps of a hull from a corner on, and the best step over the points that are known.
use Rattle.std.proofs.Common.{ℕ, ◌+◌, ◌*◌, ◌<◌, ◌≤◌, ◌≡◌, ◌≢◌, inl, inr, List, [], ◌∷◌, ◌++◌, length}
use Rattle.std.proofs.Common.{arith, refl, sym, subst, ap, ◌∙◌}
use Rattle.std.proofs.lemmas.Bool.{cases_lt}
use mathlib.Core.HLevel.{is_prop→PathP, Π_prop, ⊥_prop}
use native.Mathlib.Bridge.{le_prop}
use Rattle.rd_hulls.specs.declared.point.Point.{Point}
use Rattle.rd_hulls.specs.declared.step.Step.{Step}
use Rattle.rd_hulls.specs.Hull.{FollowFrom, IsLowest, end_of}
use Rattle.rd_hulls.specs.Points.{point_at}
use Rattle.rd_hulls.specs.Search.{height, IsBest}
use Rattle.rd_hulls.specs.Steps.{IsStepTo, FallFrom, IsFalling}
use Rattle.rd_hulls.proofs.Lines.{worse_strictly_above, strictly_steeper_above, end_flatter}
use Rattle.allocation_bound.proofs.Products.{cancel_le}
use Rattle.partial_hulls.specs.Known.{IsBetween}

follow_on : (b : ℕ) (points : List Point) (c : ℕ) (done left : List Step)
    → FollowFrom b points c (done ++ left) → FollowFrom b points (end_of c done) left
follow_on b points c [] left h = h
follow_on b points c (s ∷ d) left h = follow_on b points s.to d left h.1

end_on : (c : ℕ) (done left : List Step) → end_of c (done ++ left) ≡ end_of (end_of c done) left
end_on c [] left = refl
end_on c (s ∷ d) left = end_on s.to d left

fall_on : (g n : ℕ) (done left : List Step) → FallFrom g n (done ++ left) → IsFalling left
fall_on g n [] [] h = tt
fall_on g n [] (s ∷ r) h = h.1
fall_on g n (t ∷ d) left h = fall_on t.gain t.len d left h.1

falls_on : (done left : List Step) → IsFalling (done ++ left) → IsFalling left
falls_on [] left h = h
falls_on (t ∷ d) left h = fall_on t.gain t.len d left h

-- the steps that are left at a corner
pub record IsHullFrom (b : ℕ) (all : List Point) (c : ℕ) (left : List Step) : Type 0 where
  pub follow : FollowFrom b all c left
  pub fall : IsFalling left
  pub lowest : IsLowest all (end_of c left)

pub from_corner : (b : ℕ) (all : List Point) (c : ℕ) (done left : List Step)
    → IsBetween b all c done left → IsHullFrom b all c left
from_corner b all c done left h = record {
  follow = subst (λ (k : ℕ). FollowFrom b all k left) h.ended
      (follow_on b all 0 done left h.hull.follow);
  fall = falls_on done left h.hull.fall;
  lowest = subst (IsLowest all) (end_on 0 done left ∙ ap (λ k. end_of k left) h.ended)
      h.hull.lowest;
}

-- the two ends of a step are on one line
same_height : (d l e a s g : ℕ) → d + g ≡ e → a + s ≡ l → e * s + g * a ≡ d * s + g * l
same_height d l e a s g gain len = omega (arith, ap (λ z. z * s) gain, ap (λ z. g * z) len)

-- a step whose end doesn't lie under a line is no steeper
pub end_no_steeper : (a e l d g n il ig : ℕ) → a + il ≡ l → d + ig ≡ e
    → e * n + g * a ≤ d * n + g * l → ig * n ≤ g * il
end_no_steeper a e l d g n il ig len gain line =
    omega (arith, ap (λ z. z * n) gain, ap (λ z. g * z) len)

-- a point of more bytes than the end of the next step lies strictly above its line
beyond_end : (b : ℕ) (all : List Point) (s : Step) (rest : List Step)
    → FollowFrom b all s.to rest → FallFrom s.gain s.len rest → IsLowest all (end_of s.to rest)
    → (k : ℕ) → k < length all → (point_at all s.to).len < (point_at all k).len
    → height s (point_at all s.to) < height s (point_at all k)
beyond_end b all s [] follow fall lowest k below longer =
    worse_strictly_above (point_at all s.to).len (point_at all s.to).dist (point_at all k).len
    (point_at all k).dist s.gain s.len s.gains longer (lowest.least k below)
beyond_end b all s (t ∷ r) follow fall lowest k below longer =
    strictly_steeper_above (point_at all s.to).len (point_at all s.to).dist (point_at all k).len
    (point_at all k).dist t.gain t.len s.gain s.len longer fall.0 (follow.0.line k below)

-- the next step of the hull is the best one over all points
pub next_is_best : (b : ℕ) (all : List Point) (c : ℕ) (s : Step) (rest : List Step)
    → IsHullFrom b all c (s ∷ rest) → IsBest b all (point_at all c) (length all) s
next_is_best b all c s rest h =
    let next = h.follow.0 in
    let same = same_height (point_at all s.to).dist (point_at all s.to).len (point_at all c).dist
    (point_at all c).len s.len s.gain next.step.gain next.step.len in
    record {
      step = next.step;
      within = next.within;
      line = λ k below longer. next.line k below;
      strict = λ k below longer. omega (
        arith,
        same,
        beyond_end b all s rest h.follow.1 h.fall h.lowest k below
            (omega (arith, next.step.len, longer)),
      );
      first = λ k below len dist. next.first k below (omega (arith, next.step.len, len))
          (omega (arith, next.step.gain, dist));
    }

-- steps of equal fields are one
same_step : (s t : Step) → s.block ≡ t.block → s.from ≡ t.from → s.to ≡ t.to → s.len ≡ t.len
    → s.gain ≡ t.gain → s ≡ t
same_step s t b f o l g = λ i. record {
  block = b i;
  from = f i;
  to = o i;
  len = l i;
  gain = g i;
  moves = is_prop→PathP (λ j. f j ≢ o j) (λ j. Π_prop (λ e. ⊥_prop)) s.moves t.moves i;
  longer = is_prop→PathP (λ j. 1 ≤ l j) (λ j. le_prop) s.longer t.longer i;
  short = is_prop→PathP (λ j. l j ≤ 131072) (λ j. le_prop) s.short t.short i;
  gains = is_prop→PathP (λ j. 1 ≤ g j) (λ j. le_prop) s.gains t.gains i;
  wide = is_prop→PathP (λ j. g j < 18446744073709551616) (λ j. le_prop) s.wide t.wide i;
}

module _ (b : ℕ) (points : List Point) (c : Point) where
  longer_end : (s : Step) → IsBest b points c (length points) s
      → c.len < (point_at points s.to).len
  longer_end s best = omega (arith, best.step.len, s.longer)

  no_steeper : (s t : Step) → IsBest b points c (length points) s
      → IsBest b points c (length points) t → t.gain * s.len ≤ s.gain * t.len
  no_steeper s t best other =
      end_no_steeper c.len c.dist (point_at points t.to).len (point_at points t.to).dist s.gain
      s.len t.len t.gain other.step.len other.step.gain
      (best.line t.to other.within (longer_end t other))

  no_longer : (s t : Step) → IsBest b points c (length points) s
      → IsBest b points c (length points) t → t.len ≤ s.len
  no_longer s t best other = elim (cases_lt s.len t.len) [
    | inr h ↦ h
    | inl h ↦ absurd (omega (
      arith,
      no_steeper t s other best,
      end_flatter c.len c.dist (point_at points t.to).len (point_at points t.to).dist s.gain s.len
          t.len t.gain other.step.len other.step.gain
          (best.strict t.to other.within (omega (arith, other.step.len, h))),
    ))
  ]

  same_len : (s t : Step) → IsBest b points c (length points) s
      → IsBest b points c (length points) t → s.len ≡ t.len
  same_len s t best other = omega (arith, no_longer s t best other, no_longer t s other best)

  no_more_gain : (s t : Step) → IsBest b points c (length points) s
      → IsBest b points c (length points) t → t.gain ≤ s.gain
  no_more_gain s t best other =
      cancel_le t.len t.gain s.gain t.longer
      (rw (same_len s t best other) at (no_steeper s t best other))

  same_gain : (s t : Step) → IsBest b points c (length points) s
      → IsBest b points c (length points) t → s.gain ≡ t.gain
  same_gain s t best other =
      omega (arith, no_more_gain s t best other, no_more_gain t s other best)

  no_later : (s t : Step) → IsBest b points c (length points) s
      → IsBest b points c (length points) t → s.to ≤ t.to
  no_later s t best other =
      best.first t.to other.within
      (omega (arith, other.step.len, same_len s t best other))
      (omega (arith, other.step.gain, same_gain s t best other))

  -- there is only one best step
  pub one_best : (s t : Step) → IsBest b points c (length points) s
      → IsBest b points c (length points) t → s ≡ t
  one_best s t best other =
      same_step s t (best.step.block ∙ sym other.step.block) (best.step.from ∙ sym other.step.from)
      (omega (arith, no_later s t best other, no_later t s other best))
      (same_len s t best other) (same_gain s t best other)

-- The best step over the known points is the best one over all points, where the others lie strictly
-- above its line.
pub best_of_all : (b : ℕ) (known all : List Point) (c : Point) (t : Step)
    → ((k : ℕ) → k < length known → point_at all k ≡ point_at known k)
    → length known ≤ length all → IsBest b known c (length known) t
    → ((k : ℕ) → length known ≤ k → k < length all → c.len < (point_at all k).len
    → height t c < height t (point_at all k))
    → IsBest b all c (length all) t
best_of_all b known all c t same within best above = record {
  step = subst (λ (p : Point). IsStepTo b c p t) (sym (same t.to best.within)) best.step;
  within = omega (arith, best.within, within);
  line = λ k below longer. elim (cases_lt k (length known)) [
    | inl h ↦ subst (λ (p : Point). height t c ≤ height t p) (sym (same k h))
        (best.line k h (subst (λ (p : Point). c.len < p.len) (same k h) longer))
    | inr h ↦ omega (arith, above k h below longer)
  ];
  strict = λ k below longer. elim (cases_lt k (length known)) [
    | inl h ↦ subst (λ (p : Point). height t c < height t p) (sym (same k h))
        (best.strict k h (subst (λ (p : Point). c.len + t.len < p.len) (same k h) longer))
    | inr h ↦ above k h below (omega (arith, longer))
  ];
  first = λ k below len dist. elim (cases_lt k (length known)) [
    | inl h ↦ best.first k h
        (subst (λ (p : Point). p.len ≡ c.len + t.len) (same k h) len)
        (subst (λ (p : Point). p.dist + t.gain ≡ c.dist) (same k h) dist)
    | inr h ↦ omega (arith, best.within, h)
  ];
}
