-- The rest is as at the block's beginning.
use Rattle.std.proofs.Common.{◌∙◌}
use Rattle.ebcot_passes.proofs.block.BlockCoder.go_on.Goals as goal

pub returns-clause-goes_on : goal.returns-clause-goes_on
returns-clause-goes_on g c = λ s k kept buffer orient wide high planes same left.
    let fresh = c.load-begun.ensures.loads s buffer orient wide high planes in
    record {
      wide = fresh.wide;
      high = fresh.high;
      planes_are = fresh.planes_are;
      contexts = fresh.contexts;
      grid = fresh.grid;
      blank = fresh.blank;
      passes_are = left.passes_are;
      flags = left.flags;
      fits = fresh.fits;
      distortion_is = left.distortion_is;
      left = record {
        mark = record {
          a = left.left.mark.a;
          c = left.left.mark.c;
          ct = left.left.mark.ct;
          last = left.left.mark.last;
          count = left.left.mark.count;
          prefix = same ∙ left.left.mark.prefix;
        };
        contexts = left.left.contexts;
      };
    }
