use Rattle.std.proofs.Common.{◌≡◌, ◌+◌, suc, length, arith, subst, ◌∙◌}
use Rattle.band_geometry.specs.Numbering.{all_blocks}
use Rattle.frame_reader.specs.Blocks.{AreDecodedBelow, planes_of}
use Rattle.frame_reader.proofs.Decoding.{none_decoded}
use Rattle.frame_reader.proofs.blocks.read_blocks.Goals as goal

pub loop-n-init : goal.loop-n-init
loop-n-init c = record {
  decoded = none_decoded c.args.bytes.now c.args.found.now c.args.blocks.now
      (planes_of c.args.planes.now);
  count = c.requires.count;
  sides = c.requires.planes;
}

pub loop-n-preserved : goal.loop-n-preserved
loop-n-preserved c =
    let more : suc c.loop-n.n ≡ c.loop-n.n + 1 = omega arith in
    record {
      decoded = subst (λ m. AreDecodedBelow m c.args.bytes.now c.args.found.now
          c.read_next.new.blocks (planes_of c.read_next.new.planes)) more
          (c.read_next.ensures.decoded c.loop-n.invariant.decoded);
      count = c.read_next.ensures.count ∙ c.loop-n.invariant.count;
      sides = c.read_next.ensures.planes;
    }

pub returns-clause-decoded : goal.returns-clause-decoded
returns-clause-decoded c =
    let all : c.loop-n.n ≡ length (all_blocks c.args.found.now.geometry) =
    omega (arith, c.blocks-n-end.ensures, c.loop-n-test.false, c.loop-n.auto.n-end) in
    subst (λ m. AreDecodedBelow m c.args.bytes.now c.args.found.now c.loop-n.blocks
    (planes_of c.loop-n.planes)) all c.loop-n.invariant.decoded
