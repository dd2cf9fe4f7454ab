-- The coefficients of a frame, from its samples on: the component transform (ISO/IEC 15444-1, Annex
-- G.3), the wavelet transform of each component (Annex F) and the quantiser (Annex E).
use Rattle.std.specs.Prelude.{ℕ, zero, suc, ℤ, List}
use Rattle.colour_ict.specs.Ict.{component0, component1, component2}
use Rattle.colour_ict.specs.Pointwise.{pointwise}
use Rattle.dz_quantiser.specs.Coefficient.{Coefficient}
use Rattle.dz_quantiser.specs.declared.steps.StepSizes.{StepSizes}
use Rattle.lift97_fixed.specs.Plane.{plane_transform}
use Rattle.frame_coefficients.specs.Places.{quantised}

-- component 0, 1 or 2 of pixels with the samples xs, ys, zs, in raster order
abbrev pub component : ℕ → List ℕ → List ℕ → List ℕ → List ℤ
component zero xs ys zs = pointwise component0 xs ys zs
component (suc zero) xs ys zs = pointwise component1 xs ys zs
component (suc (suc _)) xs ys zs = pointwise component2 xs ys zs

-- the coefficients of component 0, 1 or 2 of a frame of this width and height, by so many levels of
-- the wavelet transform and these steps, in raster order of the transformed plane
unfoldable pub coefficients_of : ℕ → ℕ → ℕ → StepSizes → ℕ → List ℕ → List ℕ → List ℕ →
    List Coefficient
coefficients_of levels width height steps c xs ys zs =
    quantised levels width height steps (plane_transform levels width height (component c xs ys zs))
