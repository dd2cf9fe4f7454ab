-- Tile-parts: a 2K codestream has one for each component; a 4K codestream has one for each
-- component without its largest resolution, and after these one for the largest resolution of each
-- component.
use Rattle.std.specs.Prelude.{ℕ, ◌+◌, nat_lt, if◌then◌else◌}
use Rattle.cine_nums.specs.declared.profile.Profile.{Profile}
use Rattle.cine_nums.specs.declared.profile.Profile.TheVariants.{TwoK, FourK}

-- the tile-part that holds resolution r of component c
abbrev pub part_of_res : Profile → ℕ → ℕ → ℕ → ℕ
part_of_res TwoK levels c r = c
part_of_res FourK levels c r = if nat_lt r levels then c else 3 + c
