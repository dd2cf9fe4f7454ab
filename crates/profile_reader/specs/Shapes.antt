-- The shape of a packet: how many code-blocks its precinct has of each band, and their magnitude
-- bit-planes (ISO/IEC 15444-1, B.7 and B.10).
use Rattle.std.specs.Prelude.{◌-◌, List, map}
use Rattle.cine_nums.specs.declared.orient.Orient.{Orient}
use Rattle.band_geometry.specs.Bands.{precinct_blocks_of}
use Rattle.band_geometry.specs.Numbering.{orients_of}
use Rattle.band_geometry.specs.declared.geometry.Geometry.{Geometry}
use Rattle.dz_quantiser.specs.Bands.{band_planes}
use Rattle.dz_quantiser.specs.declared.steps.StepSizes.{StepSizes}
use Rattle.packet_order.specs.declared.packet.PacketId.{PacketId}
use Rattle.packet_headers.specs.declared.packet.BandShape.{BandShape}

-- of one band
abbrev pub shape_in : Geometry → StepSizes → PacketId → Orient → BandShape
shape_in g steps p o =
    let range = precinct_blocks_of g p.res o p.px p.py in
    record {
      width = range.x1 - range.x0;
      height = range.y1 - range.y0;
      planes = band_planes steps p.res o;
    }

-- of all bands of the packet's resolution
unfoldable pub shapes_in : Geometry → StepSizes → PacketId → List BandShape
shapes_in g steps p = map (shape_in g steps p) (orients_of p.res)
