-- What the line of a codestream that is refused says. Its form is that of cert_text
-- (docs/FORMATS.md).
use Rattle.std.specs.Prelude.{ℕ, List, [], ◌∷◌, ◌++◌, Option, Some, None, codes}
use Rattle.std.specs.List.{flat_map}
use Rattle.cert_text.specs.Lines.{refused_start, refused_budget, number_field}
use Rattle.cine_nums.specs.declared.budget.Budget.{Budget}
use Rattle.cinema_markers.specs.declared.refusal.MarkerRefusal.{MarkerRefusal}
use Rattle.cinema_markers.specs.declared.refusal.MarkerRefusal.TheVariants as markers
use Rattle.codestream_reader.specs.PacketFaults.{place_in}
use Rattle.codestream_reader.specs.declared.refusal.ReadRefusal.{ReadRefusal}
use Rattle.codestream_reader.specs.declared.refusal.ReadRefusal.TheVariants as streams
use Rattle.packet_headers.specs.declared.refusal.PacketRefusal.{PacketRefusal}
use Rattle.packet_headers.specs.declared.refusal.PacketRefusal.TheVariants as packets
use Rattle.tile_parts.specs.declared.refusal.PartRefusal.{PartRefusal}
use Rattle.tile_parts.specs.declared.refusal.PartRefusal.TheVariants as parts

-- the number of a packet's fault (ISO/IEC 15444-1, B.10)
abbrev pub packet_code : PacketRefusal → ℕ
packet_code (packets.HeaderTruncated place) = 20
packet_code (packets.StuffedBitSet place) = 21
packet_code (packets.ZeroPlanesTooMany place) = 22
packet_code (packets.PassesTooMany place) = 23
packet_code (packets.BodyTruncated place) = 24

-- of a tile-part's (A.4.2, A.4.3), and its numbers
abbrev pub part_code : PartRefusal → ℕ
part_code (parts.BadTilePart place) = 30
part_code (parts.PsotZero place) = 31
part_code (parts.TilePartMarker place marker) = 32

abbrev pub part_numbers : PartRefusal → List ℕ
part_numbers (parts.BadTilePart place) = place ∷ []
part_numbers (parts.PsotZero place) = place ∷ []
part_numbers (parts.TilePartMarker place marker) = place ∷ marker ∷ []

-- of the main header's (Annex A), and its numbers
abbrev pub marker_code : MarkerRefusal → ℕ
marker_code (markers.NotSoc place) = 40
marker_code (markers.SegmentTruncated place) = 41
marker_code (markers.UnexpectedMarker place) = 42
marker_code (markers.Repeated place) = 43
marker_code (markers.Missing place marker) = 44
marker_code (markers.BadSiz place) = 45
marker_code (markers.BadCod place) = 46
marker_code (markers.BadQcd place) = 47
marker_code (markers.BadPoc place) = 48
marker_code (markers.BadTlm place) = 49
marker_code (markers.NotCinema place) = 50
marker_code (markers.TooLarge place) = 51
marker_code (markers.OutsideProfile place feature) = 52

abbrev pub marker_numbers : MarkerRefusal → List ℕ
marker_numbers (markers.NotSoc place) = place ∷ []
marker_numbers (markers.SegmentTruncated place) = place ∷ []
marker_numbers (markers.UnexpectedMarker place) = place ∷ []
marker_numbers (markers.Repeated place) = place ∷ []
marker_numbers (markers.Missing place marker) = place ∷ marker ∷ []
marker_numbers (markers.BadSiz place) = place ∷ []
marker_numbers (markers.BadCod place) = place ∷ []
marker_numbers (markers.BadQcd place) = place ∷ []
marker_numbers (markers.BadPoc place) = place ∷ []
marker_numbers (markers.BadTlm place) = place ∷ []
marker_numbers (markers.NotCinema place) = place ∷ []
marker_numbers (markers.TooLarge place) = place ∷ []
marker_numbers (markers.OutsideProfile place feature) = place ∷ feature ∷ []

-- The number of a codestream's fault. Out of memory is no fault of the bytes, and has no number of
-- a line.
abbrev pub stream_code : ReadRefusal → ℕ
stream_code (streams.Main fault) = marker_code fault
stream_code (streams.Part fault) = part_code fault
stream_code (streams.Packet fault) = packet_code fault
stream_code (streams.BytesAfterEnd place) = 60
stream_code (streams.LimitExceeded budget held) = 61
stream_code (streams.TooManyPlanes band) = 62
stream_code (streams.MissingEnd place) = 63
stream_code (streams.PartTooLong place) = 64
stream_code streams.Memory = 0

-- the budget that holds too many bytes
abbrev pub stream_budget : ReadRefusal → Option Budget
stream_budget (streams.Main fault) = None
stream_budget (streams.Part fault) = None
stream_budget (streams.Packet fault) = None
stream_budget (streams.BytesAfterEnd place) = None
stream_budget (streams.LimitExceeded budget held) = Some budget
stream_budget (streams.TooManyPlanes band) = None
stream_budget (streams.MissingEnd place) = None
stream_budget (streams.PartTooLong place) = None
stream_budget streams.Memory = None

-- the numbers of a fault: its place and, where it has one, its marker or feature; the bytes that a
-- budget holds; the band with too many bit-planes
abbrev pub stream_numbers : ReadRefusal → List ℕ
stream_numbers (streams.Main fault) = marker_numbers fault
stream_numbers (streams.Part fault) = part_numbers fault
stream_numbers (streams.Packet fault) = place_in fault ∷ []
stream_numbers (streams.BytesAfterEnd place) = place ∷ []
stream_numbers (streams.LimitExceeded budget held) = held ∷ []
stream_numbers (streams.TooManyPlanes band) = band ∷ []
stream_numbers (streams.MissingEnd place) = place ∷ []
stream_numbers (streams.PartTooLong place) = place ∷ []
stream_numbers streams.Memory = []

-- the line of a codestream that is refused
abbrev pub stream_refused_line : List ℕ → ReadRefusal → List ℕ
stream_refused_line name refusal =
    refused_start name (stream_code refusal) ++ (refused_budget (stream_budget refusal)
    ++ (flat_map number_field (stream_numbers refusal) ++ codes "\n"))
