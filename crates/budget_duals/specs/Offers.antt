-- What a block offers, over the steps that are left of it.
use Rattle.std.specs.Prelude.{ℕ, ◌≡◌, ◌*◌, ◌≤◌, List, [], ◌∷◌}
use Rattle.std.specs.List.{AllByRecursion}
use Rattle.rd_hulls.specs.declared.step.Step.{Step as HullStep}
use Rattle.allocation_bound.specs.Steps.{IsHead}
use Rattle.budget_duals.specs.declared.offer.Slope.{Slope}
use Rattle.budget_duals.specs.declared.offer.Offer.{Offer}
use Rattle.budget_duals.specs.declared.offer.Offer.TheVariants.{Nothing, Step, AtMost}

-- a list has a step
abbrev pub HasStep : List HullStep → Type 0
HasStep [] = ⊥
HasStep (t ∷ rest) = Unit {0}

-- a step is no steeper than a slope
abbrev pub IsNoSteeper : Slope → HullStep → Type 0
IsNoSteeper bound s = s.gain * bound.len ≤ bound.gain * s.len

-- Nothing exactly where no step is left; a step where it is the next one; a bound on all that are
-- left.
abbrev pub IsOffer : List HullStep → Offer → Type 0
IsOffer left Nothing = left ≡ []
IsOffer left (Step s) = IsHead s left
IsOffer left (AtMost bound) = HasStep left × AllByRecursion (IsNoSteeper bound) left

abbrev pub IsAtMost : Offer → Type 0
IsAtMost Nothing = ⊥
IsAtMost (Step s) = ⊥
IsAtMost (AtMost bound) = Unit {0}

-- the steps are of one block
abbrev pub HasBlock : ℕ → List HullStep → Type 0
HasBlock b steps = AllByRecursion (λ (s : HullStep). s.block ≡ b) steps
