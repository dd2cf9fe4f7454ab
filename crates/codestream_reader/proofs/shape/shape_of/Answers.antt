use Rattle.packet_headers.specs.Reading.{CanReadBand}
use Rattle.codestream_reader.proofs.Shapes.{shapes_lowest, shapes_above, all_three}
use Rattle.codestream_reader.proofs.shape.shape_of.Goals as goal

pub returns-then-id-eq0-clause-value : goal.returns-then-id-eq0-clause-value
returns-then-id-eq0-clause-value c =
    shapes_lowest c.args.geometry.now c.args.steps.now c.args.id c.new-bands.result.items
    c.push.new.self.items c.band_shape.result c.new-bands.ensures c.push.ensures.items
    c.band_shape.ensures.value c.if-id-eq0.true

pub returns-clause-value : goal.returns-clause-value
returns-clause-value c =
    shapes_above c.args.geometry.now c.args.steps.now c.args.id c.new-bands.result.items
    c.push-2.new.self.items c.push-3.new.self.items c.push-4.new.self.items c.band_shape-2.result
    c.band_shape-3.result c.band_shape-4.result c.new-bands.ensures c.push-2.ensures.items
    c.push-3.ensures.items c.push-4.ensures.items c.band_shape-2.ensures.value
    c.band_shape-3.ensures.value c.band_shape-4.ensures.value c.if-id-eq0.false

pub returns-clause-can_read : goal.returns-clause-can_read
returns-clause-can_read c =
    all_three CanReadBand c.new-bands.result.items c.push-2.new.self.items c.push-3.new.self.items
    c.push-4.new.self.items c.band_shape-2.result c.band_shape-3.result c.band_shape-4.result
    c.new-bands.ensures c.push-2.ensures.items c.push-3.ensures.items c.push-4.ensures.items
    c.band_shape-2.ensures.can_read c.band_shape-3.ensures.can_read c.band_shape-4.ensures.can_read
