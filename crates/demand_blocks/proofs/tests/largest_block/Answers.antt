-- A plane of zeros has small indexes.
use Rattle.std.proofs.Common.{◌*◌, ◌^◌, ◌<◌, sym, subst, arith}
use Rattle.std.proofs.lemmas.List.Elements.{All-replicate}
use Rattle.codeblock_views.specs.Magnitudes.{AreSmall}
use Rattle.dz_quantiser.specs.Coefficient.{zero_coefficient}
use Rattle.demand_blocks.proofs.tests.largest_block.Goals as goal

pub loop-place-init : goal.loop-place-init
loop-place-init c =
    let cells = c.in_ok-plane.ensures.cells in
    record {
      width = c.in_ok-plane.ensures.width;
      height = c.in_ok-plane.ensures.height;
      small = subst AreSmall (sym cells)
          (All-replicate (λ q. q.magnitude < 2 ^ 20) (32 * 32) zero_coefficient (omega arith));
    }
