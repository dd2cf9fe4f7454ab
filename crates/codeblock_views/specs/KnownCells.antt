-- What is known of the cells of a block.
use Rattle.std.specs.Prelude.{false, List}
use Rattle.codeblock_views.specs.Rectangles.{cells_in}
use Rattle.codeblock_views.specs.declared.known.Known.{Known}
use Rattle.codeblock_views.specs.declared.view_mut.BlockViewMut.{BlockViewMut}

-- an index of which every bit-plane is known and is 0
abbrev pub zero_known : Known
zero_known = record { magnitude = 0; negative = false; unknown = 0 }

-- the cells of a view, in raster order of its rectangle
abbrev pub known_cells : BlockViewMut → List Known
known_cells view = cells_in zero_known view.plane.now.width view.rect view.plane.now.cells.items
