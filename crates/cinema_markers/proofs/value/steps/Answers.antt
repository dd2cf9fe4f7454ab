use Rattle.std.proofs.Common.{arith, rules}
use Rattle.cinema_markers.specs.Value.{band_step}
use Rattle.cinema_markers.proofs.MapLemmas.{mapped_more}
use Rattle.cinema_markers.proofs.value.steps.Goals as goal

pub loop-i-preserved : goal.loop-i-preserved
loop-i-preserved c = record {
  items =
      mapped_more (band_step c.args.bytes.now c.args.qcd) c.loop-i.i c.step_with.result
      c.loop-i.bands.items c.push.new.self.items c.loop-i.invariant.items c.push.ensures.items
      (search rules);
  count = omega (arith, c.push.ensures.len, c.loop-i.invariant.count);
}
