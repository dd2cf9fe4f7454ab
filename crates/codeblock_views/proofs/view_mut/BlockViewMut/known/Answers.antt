use Rattle.codeblock_views.specs.KnownCells.{zero_known}
use Rattle.codeblock_views.proofs.Cells.{cell_read}
use Rattle.codeblock_views.proofs.view_mut.BlockViewMut.known.Goals as goal

pub returns : goal.returns
returns c =
    let view = c.args.self.now in
    let plane = view.plane.now in
    cell_read zero_known plane.width plane.height view.rect plane.cells.items c.args.x c.args.y
    c.index.result.now view.block plane.whole c.requires.column c.requires.row c.index.ensures
