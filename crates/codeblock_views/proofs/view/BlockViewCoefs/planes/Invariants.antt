use Rattle.std.proofs.Common.{◌≡◌, ◌*◌, take}
use Rattle.codeblock_views.specs.Magnitudes.{largest}
use Rattle.codeblock_views.specs.Views.{view_cells}
use Rattle.codeblock_views.proofs.view.BlockViewCoefs.planes.Given as goal

abbrev pub invariant-loop-y : goal.invariant-loop-y
invariant-loop-y l = record {
  so_far : l.largest ≡ largest (take (l.y * l.self.rect.width) (view_cells l.self));
}
