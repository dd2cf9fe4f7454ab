-- The packets of a tile-part in their order (ISO/IEC 15444-1, B.12.1.5, and B.6 for precincts).
use Rattle.std.specs.Prelude.{ℕ, Bool, ◌≡◌, ◌+◌, ◌-◌, ◌*◌, ◌^◌, ◌<◌, ◌≤◌, ◌==◌, nat_lt, not}
use Rattle.std.specs.Prelude.{if◌then◌else◌, List, [], map}
use Rattle.std.specs.List.{flat_map, range_with_len}
use Rattle.cine_nums.specs.Coding.{precinct_side}
use Rattle.band_geometry.specs.Sizes.{precinct_count}
use Rattle.band_geometry.specs.TileParts.{part_of_res}
use Rattle.band_geometry.specs.declared.geometry.Geometry.{Geometry}
use Rattle.packet_order.specs.Sorting.{sorted_by}
use Rattle.packet_order.specs.declared.packet.PacketId.{PacketId}

-- where a precinct begins on the reference grid, in one direction: resolution r is the grid, halved
-- as often as there are levels above it
abbrev pub place_of : ℕ → ℕ → ℕ → ℕ
place_of levels r p = p * precinct_side r * 2 ^ (levels - r)

-- The packet is one of the tile-part: it holds the resolution, and the precinct begins within the
-- frame.
pub record IsPacketOf (g : Geometry) (part : ℕ) (p : PacketId) : Type 0 where
  pub component : p.component < 3
  pub res : p.res ≤ g.levels
  pub held : part_of_res g.profile g.levels p.component p.res ≡ part
  pub column : place_of g.levels p.res p.px < g.width
  pub row : place_of g.levels p.res p.py < g.height

-- one packet stands before another: by row, then by column, then by resolution
abbrev pub comes_before : Geometry → PacketId → PacketId → Bool
comes_before g a b =
    let ax = place_of g.levels a.res a.px in
    let ay = place_of g.levels a.res a.py in
    let bx = place_of g.levels b.res b.px in
    let by = place_of g.levels b.res b.py in
    if not (ay == by) then nat_lt ay by
    else if not (ax == bx) then nat_lt ax bx
    else nat_lt a.res b.res

-- the packets of one row of precincts, of a resolution, of a component as far as the tile-part
-- holds it, and of the tile-part
abbrev pub packet_at : ℕ → ℕ → ℕ → ℕ → PacketId
packet_at c r py px = record { component = c; res = r; px = px; py = py }

unfoldable pub packets_of_row : Geometry → ℕ → ℕ → ℕ → List PacketId
packets_of_row g c r py = map (packet_at c r py)
    (range_with_len 0 (precinct_count g.levels g.width r))

unfoldable pub packets_of_res : Geometry → ℕ → ℕ → List PacketId
packets_of_res g c r = flat_map (packets_of_row g c r)
    (range_with_len 0 (precinct_count g.levels g.height r))

abbrev pub packets_of_res_in : Geometry → ℕ → ℕ → ℕ → List PacketId
packets_of_res_in g part c r =
    if part_of_res g.profile g.levels c r == part then packets_of_res g c r else []

unfoldable pub packets_of_component : Geometry → ℕ → ℕ → List PacketId
packets_of_component g part c =
    flat_map (packets_of_res_in g part c) (range_with_len 0 (g.levels + 1))

unfoldable pub packets_of_part : Geometry → ℕ → List PacketId
packets_of_part g part = flat_map (packets_of_component g part) (range_with_len 0 3)

-- the packets in their order
unfoldable pub ordered_packets : Geometry → ℕ → List PacketId
ordered_packets g part = sorted_by (comes_before g) (packets_of_part g part)
