-- What is known of each plane of coefficients of a frame.
use Rattle.std.specs.Prelude.{ℕ, ◌≡◌, ◌+◌, ◌*◌, ◌<◌, ◌^◌, false, List, slice_index_or}
use Rattle.std.specs.List.{All}
use Rattle.cine_nums.specs.declared.orient.Orient.{Orient}
use Rattle.band_geometry.specs.Bands.{HasBand, IsPlaceIn, band_of}
use Rattle.band_geometry.specs.declared.geometry.Geometry.{Geometry}
use Rattle.dz_quantiser.specs.Bands.{band_planes}
use Rattle.dz_quantiser.specs.Coefficient.{Coefficient, zero_coefficient}
use Rattle.dz_quantiser.specs.declared.steps.StepSizes.{StepSizes}
use Rattle.codeblock_views.specs.declared.plane.CoefPlane.{CoefPlane}

-- the plane has the size of the frame
pub record HasSize (g : Geometry) (plane : CoefPlane) : Type 0 where
  pub width : plane.width ≡ g.width
  pub height : plane.height ≡ g.height

-- each magnitude of each band is below 2 to that band's number of magnitude bit-planes
abbrev pub AreBelow : Geometry → StepSizes → List Coefficient → Type 0
AreBelow g steps coefs = (r : ℕ) (o : Orient) (x y : ℕ) → HasBand g r o →
    IsPlaceIn (band_of g r o) x y →
    (slice_index_or coefs (y * g.width + x) zero_coefficient).magnitude < 2 ^ band_planes steps r o

-- the sign is plus where the index is 0
abbrev pub ArePlain : List Coefficient → Type 0
ArePlain coefs = All (λ q. q.magnitude ≡ 0 → q.negative ≡ false) coefs
