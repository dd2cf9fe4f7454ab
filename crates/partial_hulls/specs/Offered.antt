-- What a code-block can offer by the points that are known of it.
use Rattle.std.specs.Prelude.{ℕ, ◌≡◌, ◌+◌, ◌*◌, ◌<◌, ◌≤◌, Bool, false, List, length}
use Rattle.rd_hulls.specs.declared.point.Point.{Point}
use Rattle.rd_hulls.specs.Points.{point_at}
use Rattle.allocation_bound.specs.Passes.{IsLeastTerm}
use Rattle.budget_duals.specs.declared.offer.Slope.{Slope}
use Rattle.budget_duals.specs.declared.offer.Offer.{Offer}
use Rattle.budget_duals.specs.declared.offer.Offer.TheVariants.{Nothing, Step, AtMost}

-- The slope that no step from a point to a longer code of more passes exceeds: all the distortion
-- that is left, for the fewest bytes that such a code can have more.
pub record IsBoundFrom (low : ℕ) (c : Point) (bound : Slope) : Type 0 where
  pub gain : bound.gain ≡ c.dist
  pub above : c.len < low → c.len + bound.len ≡ low
  pub one : low ≤ c.len → bound.len ≡ 1

-- no known point of more bytes lies under the line of that slope
pub record IsUnsure (known : List Point) (low : ℕ) (c : Point) (bound : Slope) : Type 0 where
  pub bound_is : IsBoundFrom low c bound
  pub line : (k : ℕ) → k < length known → c.len < (point_at known k).len →
      c.dist * bound.len + bound.gain * c.len
      ≤ (point_at known k).dist * bound.len + bound.gain * (point_at known k).len

-- An offer by the points that are known: nothing where no distortion is left, a step between known
-- points, and the bound only where no known step is steeper.
abbrev pub IsByKnown : List Point → ℕ → Point → Offer → Type 0
IsByKnown known low c Nothing = c.dist ≡ 0
IsByKnown known low c (Step s) = (s.from ≡ c.passes) × (s.to < length known)
IsByKnown known low c (AtMost bound) = IsUnsure known low c bound

-- Further passes have to be coded: they may have a term below the least one of those that are
-- known.
pub record NeedsMore (known : List Point) (low : ℕ) (whole : Bool) (m : ℕ) : Type 0 where
  pub some_left : whole ≡ false
  pub may_be_less : (least : ℕ) → IsLeastTerm known m least → m * low < least
