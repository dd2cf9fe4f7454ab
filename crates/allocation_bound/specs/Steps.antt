-- Steps of a block's lower hull at a multiplier: what taking some of them and leaving others costs.
-- Multipliers and levels are whole numbers over 2^32.
use Rattle.std.specs.Prelude.{ℕ, ◌≡◌, ◌+◌, ◌*◌, ◌-◌, ◌/◌, ◌<◌, ◌≤◌, min, List, [], ◌∷◌}
use Rattle.std.specs.List.{AllByRecursion}
use Rattle.rd_hulls.specs.declared.step.Step.{Step}
use Rattle.allocation_bound.specs.Sums.{total}

-- 2^32
abbrev pub scale : ℕ
scale = 4294967296

-- s gains at least as much for a byte as t
abbrev pub IsAsSteep : Step → Step → Type 0
IsAsSteep s t = t.gain * s.len ≤ s.gain * t.len

-- a step's level: its gain for a byte, over the scale, rounded down
abbrev pub level : Step → ℕ
level s = scale * s.gain / s.len

-- the bytes and the gains of a list of steps
abbrev pub lens : List Step → ℕ
lens steps = total (λ (s : Step). s.len) steps

abbrev pub gains : List Step → ℕ
gains steps = total (λ (s : Step). s.gain) steps

-- what it costs at the multiplier m to have taken some steps and left others
abbrev pub cost : ℕ → List Step → List Step → ℕ
cost m done left = m * lens done + scale * gains left

-- the least cost over the ways to take the first steps of a list, some or none, and leave the
-- others
abbrev pub best : ℕ → List Step → ℕ
best m [] = 0
best m (s ∷ rest) = min (scale * gains (s ∷ rest)) (m * s.len + best m rest)

-- m is at most the slope of each step that was taken, and each that is left is below m + 1
pub record Agrees (m : ℕ) (done left : List Step) : Type 0 where
  pub taken : AllByRecursion (λ (s : Step). m * s.len ≤ scale * s.gain) done
  pub untaken : AllByRecursion (λ (s : Step). scale * s.gain < (m + 1) * s.len) left

-- by how much the steps that are left are above the multiplier, step by step, and 0 where one is
-- not
abbrev pub excess : ℕ → List Step → ℕ
excess m left = total (λ (s : Step). scale * s.gain - m * s.len) left

-- a step stands first in a list
abbrev pub IsHead : Step → List Step → Type 0
IsHead s [] = ⊥
IsHead s (t ∷ rest) = t ≡ s
