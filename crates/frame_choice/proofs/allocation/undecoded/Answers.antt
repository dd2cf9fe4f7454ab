use Rattle.std.proofs.Common.{◌≡◌, suc, ◌+◌, ◌<◌, arith, ◌∙◌, ap, sym, subst, length}
use Rattle.band_geometry.specs.Numbering.{all_blocks}
use Rattle.allocation_bound.specs.Sums.{upto}
use Rattle.frame_choice.specs.PriceLaws.{planes_in}
use Rattle.frame_choice.proofs.Demanding.{distortion_at}
use Rattle.frame_choice.proofs.Ready.{block_undecoded, undecoded_is}
use Rattle.frame_choice.proofs.allocation.undecoded.Goals as goal

pub block-requires : goal.block-requires
block-requires c =
    let long = c.requires.long in
    let test = c.loop-n-test.true in
    let count = c.blocks-n-end.ensures in
    omega (arith, long, test, count)

pub loop-n-preserved : goal.loop-n-preserved
loop-n-preserved c =
    let f = c.args.frame.now in
    let g = f.geometry.now in
    let n = c.loop-n.n in
    let test = c.loop-n-test.true in
    let count = c.blocks-n-end.ensures in
    let inside : n < length (all_blocks g) = omega (arith, test, count) in
    let is = c.from-sum.ensures in
    let left = c.distortion.ensures
    ∙ distortion_at g (planes_in f) c.args.blocks.now.blocks.items n 0 c.block.result.now
    c.requires inside c.block.ensures in
    let sum = c.loop-n.invariant.sum in
    let small = c.loop-n.invariant.small in
    let more : suc n ≡ n + 1 = omega arith in
    record {
      sum = subst (λ m. c.loop-n.sum + c.from-sum.result
          ≡ upto m (block_undecoded g (planes_in f))) more
          (omega (arith, is, left, sum));
      small = omega (arith, is, small);
    }

pub returns : goal.returns
returns c =
    let g = c.args.frame.now.geometry.now in
    let planes = planes_in c.args.frame.now in
    let test = c.loop-n-test.false in
    let end = c.loop-n.auto.n-end in
    let count = c.blocks-n-end.ensures in
    let whole : c.loop-n.n ≡ length (all_blocks g) = omega (arith, test, end, count) in
    c.loop-n.invariant.sum ∙ ap (λ m. upto m (block_undecoded g planes)) whole
    ∙ sym (undecoded_is g planes)
