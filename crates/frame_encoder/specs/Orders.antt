-- Which limits an order may have.
use Rattle.std.specs.Prelude.{◌≡◌, ◌≤◌, IfSome, is_some}
use Rattle.cine_nums.specs.Limits.{limit_of, has_inner}
use Rattle.cine_nums.specs.declared.profile.Profile.{Profile}
use Rattle.cine_nums.specs.declared.budget.Budget.{Budget}
use Rattle.budget_duals.specs.Held.{limit_in}
use Rattle.budget_duals.specs.declared.limits.Limits.{Limits}

-- Limits are for a profile: none is above the profile's, and there is one for the 2K portion
-- exactly if the profile has such a budget.
pub record AreLimitsFor (profile : Profile) (limits : Limits) : Type 0 where
  pub most : (budget : Budget) → IfSome (limit_in limits budget) (λ n. n ≤ limit_of profile budget)
  pub inner : is_some limits.inner ≡ has_inner profile
