use Rattle.std.proofs.Common.{arith}
use Rattle.cinema_markers.specs.Value.{part_place}
use Rattle.cinema_markers.proofs.MapLemmas.{mapped_more}
use Rattle.cinema_markers.proofs.value.part_places.Goals as goal

pub loop-i-preserved : goal.loop-i-preserved
loop-i-preserved c = record {
  items =
      mapped_more (part_place c.args.bytes.now c.args.tlm) c.loop-i.i c.part_place.result
      c.loop-i.places.items c.push.new.self.items c.loop-i.invariant.items c.push.ensures.items
      c.part_place.ensures.value;
  count = omega (arith, c.push.ensures.len, c.loop-i.invariant.count);
}
