-- The refused step that fills a place where none stands.
use Rattle.std.specs.Prelude.{◌≡◌}
use Rattle.cine_nums.specs.declared.budget.Budget.TheVariants.{Frame}
use Rattle.rd_hulls.specs.Steps.{IsLeastStep}
use Rattle.budget_duals.specs.declared.certificate.RefusedStep.{RefusedStep}

pub record IsLeastRefused (r : RefusedStep) : Type 0 where
  pub budget : r.budget ≡ Frame
  pub step : IsLeastStep r.step
  pub grow : r.grow ≡ 0
  pub price : r.price ≡ 0
