-- The cells of a view.
use Rattle.std.specs.Prelude.{List}
use Rattle.dz_quantiser.specs.Coefficient.{Coefficient, zero_coefficient}
use Rattle.codeblock_views.specs.Rectangles.{cells_in}
use Rattle.codeblock_views.specs.declared.view.BlockView.{BlockView}

abbrev pub view_cells : BlockView → List Coefficient
view_cells view = cells_in zero_coefficient view.plane.now.width view.rect view.plane.now.cells.items
