-- What a plane of coefficients has to be.
use Rattle.band_geometry.specs.declared.geometry.Geometry.{Geometry}
use Rattle.codeblock_views.specs.Magnitudes.{AreSmall}
use Rattle.codeblock_views.specs.declared.plane.CoefPlane.{CoefPlane}
use Rattle.dz_quantiser.specs.declared.steps.StepSizes.{StepSizes}
use Rattle.frame_coefficients.specs.Planes.{HasSize, AreBelow}

-- the plane has the size of the frame, and its magnitudes have the bit-planes of their bands, and
-- at most 20
pub record CanBeCoded (g : Geometry) (steps : StepSizes) (plane : CoefPlane) : Type 0 where
  pub size : HasSize g plane
  pub small : AreSmall plane.cells.items
  pub below : AreBelow g steps plane.cells.items
