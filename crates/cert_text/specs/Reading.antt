-- Certificate lines as they are read: what a line may say.
use Rattle.std.specs.Prelude.{ℕ, ◌≡◌, ◌≢◌, ◌+◌, ◌<◌, ◌≤◌, ◌^◌, List, [], ◌∷◌, Some, None}
use Rattle.std.specs.Prelude.{All, slice_index_or, string_bytes, is_some, true}
use Rattle.cine_nums.specs.Limits.{limit_of, has_inner}
use Rattle.cine_nums.specs.Profile.{max_width_of, max_height_of}
use Rattle.cine_nums.specs.declared.profile.Profile.{Profile}
use Rattle.cine_nums.specs.declared.budget.Budget.{Budget}
use Rattle.cine_nums.specs.declared.budget.Budget.TheVariants.{Inner}
use Rattle.budget_duals.specs.Held.{held_in, limit_in, place_of}
use Rattle.budget_duals.specs.declared.held.Held.{Held}
use Rattle.budget_duals.specs.declared.limits.Limits.{Limits}
use Rattle.budget_duals.specs.declared.certificate.RefusedStep.{RefusedStep}
use Rattle.cert_text.specs.declared.cert_line.CertLine.{CertLine}

-- the budgets of steps rise, each once, from this place on
abbrev pub RisesFrom : ℕ → List RefusedStep → Type 0
RisesFrom place [] = Unit
RisesFrom place (step ∷ steps) =
    (place ≤ place_of step.budget) × RisesFrom (place_of step.budget + 1) steps

-- the budgets of a line: the bytes held have 32 bits, each limit is at most that of 24 frames per
-- second, and each multiplier, a whole number over 2^32, is below 2^96; 2K, whose line says nothing
-- of the inner budget, has 0 for its bytes and multiplier
pub record AreBudgets (profile : Profile) (held : Held) (limits : Limits) (multipliers : List ℕ)
    : Type 0 where
  pub small : (budget : Budget) → held_in held budget < 2 ^ 32
  pub has_limit : is_some limits.inner ≡ has_inner profile
  pub limited : (budget : Budget) → (n : ℕ) → limit_in limits budget ≡ Some n
      → n ≤ limit_of profile budget
  pub priced : All (λ n. n < 2 ^ 96) multipliers
  pub nothing_held : limits.inner ≡ None → held.inner ≡ 0
  pub no_multiplier : limits.inner ≡ None → slice_index_or multipliers 1 0 ≡ 0

-- a step whose numbers fit their fields; the type bounds its length and its gain
pub record IsSmall (refused : RefusedStep) : Type 0 where
  pub block : refused.step.block < 2 ^ 32
  pub from : refused.step.from < 2 ^ 8
  pub to : refused.step.to < 2 ^ 8
  pub grow : refused.grow < 2 ^ 32
  pub price : refused.price < 2 ^ 128

-- the steps of a line: at most one for each budget of the profile, the outermost first
pub record AreSteps (profile : Profile) (steps : List RefusedStep) : Type 0 where
  pub small : All IsSmall steps
  pub rises : RisesFrom 0 steps
  pub inner : All (λ step. step.budget ≡ Inner → has_inner profile ≡ true) steps

-- a line that says no more than its text: its name isn't empty, its size is one of the profile, and
-- each number fits its field
pub record IsSaid (line : CertLine) : Type 0 where
  pub named : string_bytes line.name ≢ []
  pub wide : (1 ≤ line.width) × (line.width ≤ max_width_of line.profile)
  pub high : (1 ≤ line.height) × (line.height ≤ max_height_of line.profile)
  pub passes : line.passes < 2 ^ 64
  pub empty : line.empty < 2 ^ 128
  pub distortion : line.certificate.distortion < 2 ^ 128
  pub gap : line.certificate.gap < 2 ^ 128
  pub budgets : AreBudgets line.profile line.held line.limits line.certificate.multipliers
  pub steps : AreSteps line.profile line.certificate.refused.items
