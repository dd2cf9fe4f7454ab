use Rattle.std.proofs.Common.{◌≡◌, ◌+◌, ◌*◌, take}
use Rattle.codeblock_views.specs.Magnitudes.{largest}
use Rattle.codeblock_views.specs.Views.{view_cells}
use Rattle.codeblock_views.proofs.view.BlockView.largest_with_row.Given as goal

abbrev pub invariant-loop-x : goal.invariant-loop-x
invariant-loop-x l = record {
  so_far : l.largest ≡ largest (take (l.y * l.self.rect.width + l.x) (view_cells l.self));
}
