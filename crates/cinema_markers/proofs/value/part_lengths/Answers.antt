use Rattle.std.proofs.Common.{arith, ap, ◌∙◌, ◌+◌}
use Rattle.std.specs.Prelude.{slice_index}
use Rattle.cinema_markers.specs.Tables.{length_at}
use Rattle.cinema_markers.specs.Value.{part_length}
use Rattle.cinema_markers.proofs.MapLemmas.{mapped_more}
use Rattle.cinema_markers.proofs.value.part_lengths.Goals as goal

pub loop-i-preserved : goal.loop-i-preserved
loop-i-preserved c =
    let bytes = c.args.bytes.now in
    record {
      items =
          mapped_more (part_length bytes c.args.tlm) c.loop-i.i c.length_at.result
          c.loop-i.lengths.items c.push.new.self.items c.loop-i.invariant.items c.push.ensures.items
          (c.length_at.ensures
          ∙ ap (length_at (slice_index bytes (c.args.tlm + 5)) bytes) c.part_place.ensures.value);
      count = omega (arith, c.push.ensures.len, c.loop-i.invariant.count);
    }
