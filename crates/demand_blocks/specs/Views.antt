-- The coefficients and the shape of a block that is seen in a plane.
use Rattle.std.specs.Prelude.{ℕ, Bool, List}
use Rattle.cine_nums.specs.declared.orient.Orient.{Orient}
use Rattle.codeblock_views.specs.Views.{view_cells}
use Rattle.codeblock_views.specs.declared.view.BlockView.{BlockView}
use Rattle.distortion_sums.specs.Coefs.{coefs_of}
use Rattle.ebcot_contexts.specs.Contexts.{Shape}
use Rattle.ebcot_contexts.specs.Laws.{shaped}

-- its magnitudes and signs, in raster order
unfoldable pub coefs_in : BlockView → List (ℕ × Bool)
coefs_in view = coefs_of (view_cells view)

-- in a band of this orientation, with so many bit-planes
abbrev pub shape_in : BlockView → Orient → ℕ → Shape
shape_in view orient planes = shaped view.rect.width view.rect.height planes orient
