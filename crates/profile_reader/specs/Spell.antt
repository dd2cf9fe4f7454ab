-- A codestream (ISO/IEC 15444-1, A.3) as a function of what is written of each code-block: main
-- header, tile-parts with their packets, end of codestream.
use Rattle.std.specs.Prelude.{ℕ, ◌+◌, List, ◌++◌, length, map}
use Rattle.std.specs.List.{flat_map, range_with_len}
use Rattle.cine_nums.specs.Profile.{parts_of}
use Rattle.band_geometry.specs.declared.geometry.Geometry.{Geometry}
use Rattle.band_geometry.specs.declared.places.BlockId.{BlockId}
use Rattle.dz_quantiser.specs.declared.steps.StepSizes.{StepSizes}
use Rattle.tile_parts.specs.Head.{eoc, part_head_bytes, part_head_of}
use Rattle.cinema_markers.specs.MainHeader.{main_header_of}
use Rattle.cinema_markers.specs.declared.header.MainHeader.{MainHeader}
use Rattle.profile_reader.specs.Packets.{BlockBytes, written_body}

-- the tile-parts, counted from 0
abbrev pub part_indexes : Geometry → List ℕ
part_indexes g = range_with_len 0 (parts_of g.profile)

-- the length of a tile-part in bytes, Psot: those of its head, and those of its packets
abbrev pub part_length : Geometry → StepSizes → (BlockId → BlockBytes) → ℕ → ℕ
part_length g steps given index = part_head_bytes + length (written_body g steps given index)

-- the lengths of all tile-parts
abbrev pub part_lengths : Geometry → StepSizes → (BlockId → BlockBytes) → List ℕ
part_lengths g steps given = map (part_length g steps given) (part_indexes g)

-- a tile-part: its head, and its packets
abbrev pub written_part : Geometry → StepSizes → (BlockId → BlockBytes) → ℕ → List ℕ
written_part g steps given index =
    part_head_of (part_length g steps given index) index (parts_of g.profile)
    ++ written_body g steps given index

-- the main header of a frame with the component transform, these steps, and tile-parts of these
-- lengths
abbrev pub header_for : Geometry → StepSizes → List ℕ → MainHeader
header_for g steps lengths = record {
  profile = g.profile;
  width = g.width;
  height = g.height;
  levels = g.levels;
  flag = 1;
  steps = steps;
  parts = record { items = lengths };
}

-- the codestream
unfoldable pub spell : Geometry → StepSizes → (BlockId → BlockBytes) → List ℕ
spell g steps given =
    main_header_of (header_for g steps (part_lengths g steps given))
    ++ (flat_map (written_part g steps given) (part_indexes g) ++ eoc)
