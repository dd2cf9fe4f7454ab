use Rattle.std.proofs.Common.{◌≡◌, ◌≤◌, ◌*◌, List, length, arith, ap, ◌∙◌}
use Rattle.std.proofs.lemmas.List.{take_all}
use Rattle.cine_nums.specs.Bits.{bit_len}
use Rattle.dz_quantiser.specs.Coefficient.{Coefficient, zero_coefficient}
use Rattle.codeblock_views.specs.Magnitudes.{largest}
use Rattle.codeblock_views.specs.RectangleLaws.{cells_in-length}
use Rattle.codeblock_views.specs.Views.{view_cells}
use Rattle.codeblock_views.proofs.view.BlockViewCoefs.planes.Goals as goal

pub returns : goal.returns
returns c =
    let view = c.args.self.now in
    let plane = view.plane.now in
    let cells : List Coefficient = view_cells view in
    let count : length cells ≡ view.rect.height * view.rect.width =
    cells_in-length zero_coefficient plane.width view.rect plane.cells.items in
    let last : c.loop-y.y ≡ view.rect.height = omega arith in
    let all : length cells ≤ c.loop-y.y * view.rect.width = rw last (omega (arith, count)) in
    c.bit_len.ensures.value ∙ ap bit_len
    (c.loop-y.invariant.so_far ∙ ap largest (take_all (c.loop-y.y * view.rect.width) cells all))
