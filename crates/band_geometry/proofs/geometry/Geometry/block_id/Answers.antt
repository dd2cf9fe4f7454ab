use Rattle.std.proofs.Common.{rules, arith}
use Rattle.band_geometry.proofs.BandLemmas.{IsInGrid}
use Rattle.band_geometry.proofs.NumberLemmas.{component_of, listed_at}
use Rattle.band_geometry.proofs.geometry.Geometry.block_id.Goals as goal

-- the component and the place in it
grid : (c : goal.After-blocks_below-each) → IsInGrid 3 c.blocks_below-each.result c.args.n
grid c = component_of c.args.self.now c.args.n c.blocks_below-each.result c.requires c.blocks_below-each.ensures.count

pub nonzero_div-n : goal.nonzero_div-n
nonzero_div-n c = (grid c).some

pub overflow_cast-n : goal.overflow_cast-n
overflow_cast-n c = let row = (grid c).row in search rules

pub nonzero_rem-n : goal.nonzero_rem-n
nonzero_rem-n c = (grid c).some

pub block_in_component-requires-clause-component : goal.block_in_component-requires-clause-component
block_in_component-requires-clause-component c = (grid c).row

pub block_in_component-requires-clause-place : goal.block_in_component-requires-clause-place
block_in_component-requires-clause-place c =
    omega (arith, (grid c).column, c.blocks_below-each.ensures.count)

pub returns-clause-value : goal.returns-clause-value
returns-clause-value c =
    listed_at c.args.self.now c.block_in_component.result c.args.n c.blocks_below-each.result
    c.block_in_component.ensures.exists c.blocks_below-each.ensures.count
    c.block_in_component.ensures.component c.block_in_component.ensures.place
