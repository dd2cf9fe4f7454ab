use Rattle.codestream_reader.proofs.Shapes.{numbers_lowest, numbers_above}
use Rattle.codestream_reader.proofs.blocks.numbers_of.Goals as goal

pub returns-then-id-eq0 : goal.returns-then-id-eq0
returns-then-id-eq0 c =
    numbers_lowest c.args.geometry.now c.args.id c.new-numbers.result.items
    c.add_band.new.numbers.items c.new-numbers.ensures c.add_band.ensures.numbers
    c.if-id-eq0.true

pub returns : goal.returns
returns c =
    numbers_above c.args.geometry.now c.args.id c.new-numbers.result.items
    c.add_band-2.new.numbers.items c.add_band-3.new.numbers.items c.add_band-4.new.numbers.items
    c.new-numbers.ensures c.add_band-2.ensures.numbers c.add_band-3.ensures.numbers
    c.add_band-4.ensures.numbers c.if-id-eq0.false
