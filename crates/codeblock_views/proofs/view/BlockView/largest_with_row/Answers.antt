use Rattle.std.proofs.Common.{◌≡◌, ◌+◌, ◌*◌, ◌<◌, ℕ, List, length, get_or, take, arith, ap, sym}
use Rattle.std.proofs.Common.{◌∙◌}
use Rattle.dz_quantiser.specs.Coefficient.{Coefficient, zero_coefficient}
use Rattle.codeblock_views.specs.Magnitudes.{largest}
use Rattle.codeblock_views.specs.RectangleLaws.{cells_in-length}
use Rattle.codeblock_views.specs.Views.{view_cells}
use Rattle.codeblock_views.proofs.Cells.{row_read, row_within}
use Rattle.codeblock_views.proofs.Largest.{largest-more}
use Rattle.codeblock_views.proofs.view.BlockView.largest_with_row.Goals as goal

pub loop-x-preserved : goal.loop-x-preserved
loop-x-preserved c =
    let view = c.args.self.now in
    let plane = view.plane.now in
    let cells : List Coefficient = view_cells view in
    let place : ℕ = c.args.y * view.rect.width + c.loop-x.x in
    let column : c.loop-x.x < view.rect.width =
    omega (arith, c.loop-x-test.true, c.row-row.ensures.len) in
    let count : length cells ≡ view.rect.height * view.rect.width =
    cells_in-length zero_coefficient plane.width view.rect plane.cells.items in
    let within : place < length cells =
    omega (arith, count, column, row_within c.args.y view.rect.height view.rect.width c.requires.row) in
    let read : c.index-row-x.result ≡ get_or cells place zero_coefficient =
    row_read zero_coefficient plane.width plane.height view.rect plane.cells.items c.row-row.result.now c.loop-x.x c.args.y
    c.index-row-x.result view.block plane.whole column c.requires.row c.row-row.ensures.cells c.index-row-x.is in
    let next : place + 1 ≡ c.args.y * view.rect.width + (c.loop-x.x + 1) = omega arith in
    record {
      so_far =
          c.max-largest.ensures
          ∙ rw (c.loop-x.invariant.so_far, c.magnitude.ensures.value, read)
          (sym (largest-more cells place zero_coefficient within))
          ∙ ap (λ n. largest (take n cells)) next;
    }

pub returns : goal.returns
returns c =
    let view = c.args.self.now in
    let last : c.args.y * view.rect.width + c.loop-x.x ≡ (c.args.y + 1) * view.rect.width =
    omega (arith, c.loop-x-test.false, c.loop-x.auto.x-end, c.row-row.ensures.len) in
    c.loop-x.invariant.so_far ∙ ap (λ n. largest (take n (view_cells view))) last
