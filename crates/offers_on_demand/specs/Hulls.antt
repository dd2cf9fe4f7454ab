-- The steps of the lower hull of a block's points, as a function of the points.
use Rattle.std.proofs.Common.{ℕ, zero, suc, ◌≡◌, ◌≢◌, ◌-◌, ◌*◌, ◌<◌, ◌≤◌, ◌^◌, ◌⊎◌, inl, inr, arith}
use Rattle.std.proofs.Common.{List, [], ◌∷◌, length, Option, Some, None}
use Rattle.std.proofs.lemmas.Bool.{cases_lt, cases_eq}
use Rattle.rd_hulls.specs.declared.point.Point.{Point}
use Rattle.rd_hulls.specs.declared.step.Step.{Step}
use Rattle.rd_hulls.specs.Points.{point_at}

pub apart : (a b : ℕ) → a < b → 1 ≤ b - a
apart a b h = omega arith

pub most : (n : ℕ) → n < 131073 → n ≤ 131072
most n h = omega arith

-- the step from a corner to a point of more bytes and less distortion, where it is within the sizes
-- of a step
abbrev pub step_if : (b : ℕ) (c p : Point) → (c.len < p.len) ⊎ (p.len ≤ c.len)
    → (p.dist < c.dist) ⊎ (c.dist ≤ p.dist)
    → (p.len - c.len < 131073) ⊎ (131073 ≤ p.len - c.len)
    → (c.dist - p.dist < 2 ^ 64) ⊎ (2 ^ 64 ≤ c.dist - p.dist)
    → (c.passes ≡ p.passes) ⊎ (c.passes ≢ p.passes) → Option Step
step_if b c p (inl longer) (inl less) (inl short) (inl wide) (inr moves) = Some (record {
  block = b;
  from = c.passes;
  to = p.passes;
  len = p.len - c.len;
  gain = c.dist - p.dist;
  moves = moves;
  longer = apart c.len p.len longer;
  short = most (p.len - c.len) short;
  gains = apart p.dist c.dist less;
  wide = wide;
})
step_if b c p (inl longer) (inl less) (inl short) (inl wide) (inl same) = None
step_if b c p (inl longer) (inl less) (inl short) (inr wide) moves = None
step_if b c p (inl longer) (inl less) (inr short) wide moves = None
step_if b c p (inl longer) (inr more) short wide moves = None
step_if b c p (inr shorter) less short wide moves = None

unfoldable pub step_between : ℕ → Point → Point → Option Step
step_between b c p =
    step_if b c p (cases_lt c.len p.len) (cases_lt p.dist c.dist) (cases_lt (p.len - c.len) 131073)
    (cases_lt (c.dist - p.dist) (2 ^ 64)) (cases_eq c.passes p.passes)

-- the new step where it is steeper than the old one, or as steep and longer
abbrev pub steeper_if : (s t : Step) →
    (s.gain * t.len < t.gain * s.len) ⊎ (t.gain * s.len ≤ s.gain * t.len)
    → (t.gain * s.len < s.gain * t.len) ⊎ (s.gain * t.len ≤ t.gain * s.len)
    → (s.len < t.len) ⊎ (t.len ≤ s.len) → Step
steeper_if s t (inl steep) flat longer = t
steeper_if s t (inr same) (inl flat) longer = s
steeper_if s t (inr same) (inr level) (inl longer) = t
steeper_if s t (inr same) (inr level) (inr shorter) = s

unfoldable pub steeper_of : Step → Step → Step
steeper_of s t =
    steeper_if s t (cases_lt (s.gain * t.len) (t.gain * s.len))
    (cases_lt (t.gain * s.len) (s.gain * t.len)) (cases_lt s.len t.len)

abbrev pub better_of : Option Step → Option Step → Option Step
better_of kept None = kept
better_of None (Some t) = Some t
better_of (Some s) (Some t) = Some (steeper_of s t)

-- the best step from a corner to the first n points
abbrev pub best_upto : ℕ → List Point → Point → ℕ → Option Step
best_upto b points c zero = None
best_upto b points c (suc n) =
    better_of (best_upto b points c n) (step_between b c (point_at points n))

-- A step and those after it, or none; and at most so many steps from c passes on.
abbrev pub and_on : (ℕ → List Step) → Option Step → List Step
and_on on None = []
and_on on (Some s) = s ∷ on s.to

abbrev pub steps_from : ℕ → ℕ → List Point → ℕ → List Step
steps_from zero b points c = []
steps_from (suc n) b points c =
    and_on (steps_from n b points) (best_upto b points (point_at points c) (length points))

-- The steps of the hull of a block's points. A hull has fewer steps than points.
unfoldable pub hull_steps : ℕ → List Point → List Step
hull_steps b points = steps_from (length points) b points 0
