use Rattle.std.proofs.Common.{subst, arith}
use Rattle.tile_parts.specs.Inside.{IsPassed, Stands}
use Rattle.tile_parts.proofs.SegmentLemmas.{stand_none, stand_more}
use Rattle.tile_parts.proofs.part.find_sod.Goals as goal

pub loop-next-init : goal.loop-next-init
loop-next-init c = record {
  stand = stand_none c.args.bytes.now c.args.from;
  inside = (let some = c.requires.some in omega arith);
}

pub loop-next-preserved : goal.loop-next-preserved
loop-next-preserved c =
    let passed : IsPassed c.args.bytes.now c.loop-next.at c.args.stop c.in-Some.next =
    subst (Stands c.args.bytes.now c.loop-next.at c.args.stop) c.in-Some.is
    c.in_ok-next.ensures.found in
    record {
      stand = stand_more c.args.bytes.now c.args.from c.loop-next.at c.args.stop c.in-Some.next
          (λ k. omega (arith, c.type_inv.bytes k)) c.requires.inside c.loop-next.invariant.stand
          passed;
      inside = passed.inside;
    }
