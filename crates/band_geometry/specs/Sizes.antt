-- Sizes of resolutions and precincts (ISO/IEC 15444-1, B.5 and B.6), one direction at a time.
use Rattle.std.specs.Prelude.{ℕ, ◌-◌, ◌*◌, ◌^◌}
use Rattle.cine_nums.specs.Division.{div_up}
use Rattle.cine_nums.specs.Coding.{precinct_side}

-- one side of resolution r, of a frame with this side and so many levels (B-14 with the image and
-- the tile at the origin)
abbrev pub res_side : ℕ → ℕ → ℕ → ℕ
res_side levels side r = div_up side (2 ^ (levels - r))

-- one side of a band of this level (B-15 with the tile at the origin). The offset is that of Table
-- B.1: 1 where the band is high-pass in this direction, else 0. The subtraction stops at 0: where
-- the offset takes off more than the side has, the standard's quotient lies above -1 and rounds up
-- to 0 as well
unfoldable pub band_side : ℕ → ℕ → ℕ → ℕ
band_side level side offset = div_up (side - 2 ^ (level - 1) * offset) (2 ^ level)

-- how many precincts resolution r has in one direction (B-16)
abbrev pub precinct_count : ℕ → ℕ → ℕ → ℕ
precinct_count levels side r = div_up (res_side levels side r) (precinct_side r)
