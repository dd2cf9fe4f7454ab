use Rattle.std.proofs.Common.{◌≡◌, arith, ◌*◌, ap}
use Rattle.band_geometry.specs.Counts.{number_of}
use Rattle.band_geometry.proofs.NumberLemmas.{stands_at}
use Rattle.band_geometry.proofs.geometry.Geometry.number.Goals as goal

pub returns : goal.returns
returns c =
    let component = ap (λ each. c.args.id.component * each) c.blocks_below.ensures.count in
    let row = ap (λ columns. c.args.id.y * columns) c.block_grid-columns.ensures.columns in
    let counted : _ ≡ number_of c.args.self.now c.args.id =
    omega (arith, component, row, c.blocks_before_band.ensures.count, c.blocks_below-2.ensures.count) in
    let stands = stands_at c.args.self.now c.args.id _ c.requires counted in
    record { value = stands.value; counted = counted; inverse = stands.inverse }
