-- When an order can't be met.
use Rattle.std.specs.Prelude.{ℕ, ◌≡◌}
use Rattle.cine_nums.specs.declared.budget.Budget.{Budget}
use Rattle.band_geometry.specs.declared.geometry.Geometry.{Geometry}
use Rattle.budget_duals.specs.Held.{held_in, IsOutermostBroken}
use Rattle.pnm_frames.specs.Picture.{Picture}
use Rattle.frame_encoder.specs.declared.order.EncodeOrder.{EncodeOrder}
use Rattle.frame_encoder.specs.Empty.{empty_held}
use Rattle.frame_encoder.specs.Encoded.{IsGeometryOf}

-- The limit of this budget is too small for a picture: the codestream without any coding pass holds
-- more there, which is so many bytes, and no limit further out is too small.
pub record IsTooSmall (order : EncodeOrder) (p : Picture) (budget : Budget) (needed : ℕ)
    : Type 0 where
  pub geometry : Geometry
  pub of_picture : IsGeometryOf order.profile p geometry
  pub outermost : IsOutermostBroken order.limits (empty_held geometry) budget
  pub bytes : needed ≡ held_in (empty_held geometry) budget
