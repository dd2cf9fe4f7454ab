-- Where the bytes of each code-block stand in a codestream, and what they are.
use Rattle.std.specs.Prelude.{ℕ, ◌+◌, ◌*◌, ◌≡◌, ◌≤◌, List, [], ◌∷◌, get_or, map, length}
use Rattle.std.specs.Prelude.{slice_range}
use Rattle.std.specs.List.{All, flat_map}
use Rattle.band_geometry.specs.Counts.{number_of}
use Rattle.band_geometry.specs.TileParts.{part_of_res}
use Rattle.band_geometry.specs.declared.geometry.Geometry.{Geometry}
use Rattle.band_geometry.specs.declared.places.BlockId.{BlockId}
use Rattle.cinema_markers.specs.Words.{IsStep}
use Rattle.dz_quantiser.specs.Bands.{planes_of}
use Rattle.dz_quantiser.specs.declared.steps.StepSizes.{StepSizes}
use Rattle.packet_headers.specs.declared.entry.Entry.{Entry}
use Rattle.packet_headers.specs.declared.packet.PacketBand.{PacketBand}
use Rattle.packet_order.specs.Order.{IsPacketOf}
use Rattle.packet_order.specs.declared.packet.PacketId.{PacketId}
use Rattle.profile_reader.specs.Packets.{BlockBytes, left_out}
use Rattle.codestream_reader.specs.declared.span.BlockSpan.{BlockSpan}

-- what a span says of its code-block: its entry, and its bytes
abbrev pub said : List ℕ → BlockSpan → BlockBytes
said bytes span = record {
  entry = span.entry;
  code = slice_range bytes span.at (span.at + span.entry.len);
}

-- what the spans of all blocks, by block number, say of them
abbrev pub said_of : List ℕ → List BlockSpan → List BlockBytes
said_of bytes spans = map (said bytes) spans

-- the span of a block that isn't included
abbrev pub no_span : BlockSpan
no_span = record { entry = left_out.entry; at = 0 }

-- the span of a block
abbrev pub span_in : Geometry → List BlockSpan → BlockId → BlockSpan
span_in g spans b = get_or spans (number_of g b) no_span

-- the spans of blocks with these entries, whose bytes follow on one another from a place on
unfoldable pub spans_from : ℕ → List Entry → List BlockSpan
spans_from at [] = []
spans_from at (e ∷ es) = record { entry = e; at = at } ∷ spans_from (at + e.len) es

-- the entries of all bands of a packet
abbrev pub entries_in : List PacketBand → List Entry
entries_in bands = flat_map (λ (band : PacketBand). band.entries.items) bands

-- the packet is one of the frame's
abbrev pub IsPacket : Geometry → PacketId → Type 0
IsPacket g p = IsPacketOf g (part_of_res g.profile g.levels p.component p.res) p

-- The bands of a main header can be read: there is one step a band, and each band has 1 to 31
-- magnitude bit-planes.
pub record AreReadable (levels : ℕ) (steps : StepSizes) : Type 0 where
  pub guard : steps.guard ≤ 7
  pub count : length steps.bands.items ≡ 3 * levels + 1
  pub each : All (IsStep steps.guard) steps.bands.items
  pub few : All (λ step. planes_of steps.guard step.exponent ≤ 31) steps.bands.items
