use Rattle.std.proofs.lemmas.List.{get_or-set_other}
use Rattle.codeblock_views.specs.KnownCells.{zero_known}
use Rattle.codeblock_views.specs.Rectangles.{place_in}
use Rattle.codeblock_views.proofs.Cells.{cells_in-set}
use Rattle.codeblock_views.proofs.view_mut.BlockViewMut.set.Goals as goal

pub returns-clause-cells : goal.returns-clause-cells
returns-clause-cells c =
    let view = c.args.self.now in
    let plane = view.plane.now in
    cells_in-set zero_known plane.width plane.height view.rect plane.cells.items c.args.x c.args.y c.args.cell
    view.block plane.whole c.requires.column c.requires.row

pub returns-clause-outside : goal.returns-clause-outside
returns-clause-outside c = λ k d outside.
    let view = c.args.self.now in
    let plane = view.plane.now in
    get_or-set_other plane.cells.items
    (place_in plane.width view.rect c.args.x c.args.y) k c.args.cell d
    (outside c.args.x c.args.y c.requires.column c.requires.row)
