-- The packets of a frame by what is written of its code-blocks, and what the byte budgets hold
-- (ISO/IEC 15444-1, B.9, B.10 and A.4; DCI Digital Cinema System Specification, section 4).
use Rattle.std.specs.Prelude.{ℕ, ◌≡◌, ◌<◌, List, [], length, get_or, map}
use Rattle.cine_nums.specs.Profile.{levels_of, parts_of}
use Rattle.band_geometry.specs.Bands.{IsBlock}
use Rattle.band_geometry.specs.TileParts.{part_of_res}
use Rattle.band_geometry.specs.declared.geometry.Geometry.{Geometry}
use Rattle.band_geometry.specs.declared.places.BlockId.{BlockId}
use Rattle.dz_quantiser.specs.Bands.{AreUsable, band_planes}
use Rattle.dz_quantiser.specs.declared.steps.StepSizes.{StepSizes}
use Rattle.packet_order.specs.Order.{IsPacketOf, ordered_packets}
use Rattle.packet_order.specs.declared.packet.PacketId.{PacketId}
use Rattle.packet_headers.specs.Written.{CanWriteEntry, IsPlain}
use Rattle.packet_headers.specs.declared.packet.Packet.{Packet}
use Rattle.cinema_markers.specs.MainHeader.{main_header_of}
use Rattle.budget_duals.specs.Held.{held_of}
use Rattle.budget_duals.specs.declared.held.Held.{Held}
use Rattle.profile_reader.specs.Packets.{BlockBytes, left_out, packet_with}
use Rattle.profile_reader.specs.Spell.{header_for, part_length, part_lengths}

-- a packet of the frame: one of the tile-part that holds its resolution
abbrev pub IsPacket : Geometry → PacketId → Type 0
IsPacket g p = IsPacketOf g (part_of_res g.profile g.levels p.component p.res) p

-- no code-block is included
abbrev pub nothing : BlockId → BlockBytes
nothing b = left_out

-- what is written of a code-block can be written in a band of so many magnitude bit-planes: its
-- entry can, an entry that isn't included has zeros, and the entry has the length of the bytes
pub record CanWriteBlock (planes : ℕ) (written : BlockBytes) : Type 0 where
  pub entry : CanWriteEntry planes written.entry
  pub plain : IsPlain written.entry
  pub code : length written.code ≡ written.entry.len

-- that of each code-block can be written in its band
abbrev pub CanWriteBlocks : Geometry → StepSizes → (BlockId → BlockBytes) → Type 0
CanWriteBlocks g steps given =
    (b : BlockId) → IsBlock g b → CanWriteBlock (band_planes steps b.res b.orient) (given b)

-- what is kept of a tile-part: its packets in their order, each as its header describes it, and the
-- bytes of the tile-part, its head with them
pub record PartKept : Type 0 where
  pub ids : List PacketId
  pub packets : List Packet
  pub bytes : ℕ

abbrev pub no_part : PartKept
no_part = record { ids = []; packets = []; bytes = 0 }

-- what is kept of a frame: its tile-parts in order
pub record FrameKept : Type 0 where
  pub geometry : Geometry
  pub steps : StepSizes
  pub parts : List PartKept

-- it is kept of the tile-part of this index, counted from 0
pub record KeepsPart (g : Geometry) (steps : StepSizes) (given : BlockId → BlockBytes) (index : ℕ)
    (part : PartKept) : Type 0 where
  pub ids : part.ids ≡ ordered_packets g index
  pub packets : part.packets ≡ map (packet_with g steps given) (ordered_packets g index)
  pub bytes : part.bytes ≡ part_length g steps given index

-- It is kept of a frame with the levels of its profile and steps that the quantiser takes, by what
-- is written of each code-block.
pub record Keeps (g : Geometry) (steps : StepSizes) (given : BlockId → BlockBytes) (s : FrameKept)
    : Type 0 where
  pub geometry : s.geometry ≡ g
  pub steps_are : s.steps ≡ steps
  pub levels : g.levels ≡ levels_of g.profile
  pub usable : AreUsable g.levels steps
  pub can_write : CanWriteBlocks g steps given
  pub count : length s.parts ≡ parts_of g.profile
  pub part : (index : ℕ) → index < parts_of g.profile →
      KeepsPart g steps given index (get_or s.parts index no_part)

-- what the codestream holds in its byte budgets
abbrev pub frame_held : Geometry → StepSizes → (BlockId → BlockBytes) → Held
frame_held g steps given =
    let lengths = part_lengths g steps given in
    held_of g.profile (length (main_header_of (header_for g steps lengths))) lengths
