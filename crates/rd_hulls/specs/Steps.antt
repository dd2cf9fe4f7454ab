-- Steps between two points of a code-block, and their slopes.
use Rattle.std.specs.Prelude.{ℕ, ◌≡◌, ◌+◌, ◌*◌, ◌<◌, ◌⊎◌, List, [], ◌∷◌, Option, Some, None}
use Rattle.rd_hulls.specs.declared.point.Point.{Point}
use Rattle.rd_hulls.specs.declared.step.Step.{Step}

-- the step that fills a place where none stands
pub record IsLeastStep (s : Step) : Type 0 where
  pub block : s.block ≡ 0
  pub from : s.from ≡ 0
  pub to : s.to ≡ 1
  pub len : s.len ≡ 1
  pub gain : s.gain ≡ 1

-- s gains more for a byte than t
abbrev pub IsSteeper : Step → Step → Type 0
IsSteeper s t = t.gain * s.len < s.gain * t.len

-- s is steeper than t, or as steep and longer
abbrev pub Beats : Step → Step → Type 0
Beats s t = IsSteeper s t ⊎ ((t.gain * s.len ≡ s.gain * t.len) × (t.len < s.len))

-- A step of a block from one point to another: its length and its gain are their differences.
pub record IsStepTo (b : ℕ) (corner point : Point) (s : Step) : Type 0 where
  pub block : s.block ≡ b
  pub from : s.from ≡ corner.passes
  pub to : s.to ≡ point.passes
  pub len : corner.len + s.len ≡ point.len
  pub gain : point.dist + s.gain ≡ corner.dist

-- of a kept step and a found one, where there are both, the found one stays only if it beats the
-- kept one
abbrev pub KeepsBetter : Option Step → Option Step → Option Step → Type 0
KeepsBetter kept None result = result ≡ kept
KeepsBetter None (Some t) result = result ≡ Some t
KeepsBetter (Some s) (Some t) result =
    (Beats t s × (result ≡ Some t)) ⊎ (¬ Beats t s × (result ≡ Some s))

-- the first step gains less for a byte than g for n bytes, and each later one less than the one
-- before it
abbrev pub FallFrom : ℕ → ℕ → List Step → Type 0
FallFrom g n [] = Unit {0}
FallFrom g n (s ∷ rest) = (s.gain * n < g * s.len) × FallFrom s.gain s.len rest

-- each step is less steep than the one before it
abbrev pub IsFalling : List Step → Type 0
IsFalling [] = Unit {0}
IsFalling (s ∷ rest) = FallFrom s.gain s.len rest
