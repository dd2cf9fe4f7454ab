-- The numbers of the two digital cinema profiles (ISO/IEC 15444-1, A.10; DCI Digital Cinema System
-- Specification, section 4).
use Rattle.std.specs.Prelude.{ℕ, Bool, true, false}
use Rattle.cine_nums.specs.declared.profile.Profile.{Profile}
use Rattle.cine_nums.specs.declared.profile.Profile.TheVariants.{TwoK, FourK}

-- the profile is that of 4K
abbrev pub is_four_k : Profile → Bool
is_four_k TwoK = false
is_four_k FourK = true

-- levels of the wavelet transform: the most that the profile allows, and those of the writer
abbrev pub levels_of : Profile → ℕ
levels_of TwoK = 5
levels_of FourK = 6

-- the fewest levels that the profile allows: a 4K frame has at least the 2K resolution below its
-- own
abbrev pub least_levels_of : Profile → ℕ
least_levels_of TwoK = 0
least_levels_of FourK = 1

-- guard bits of the quantiser
abbrev pub guard_of : Profile → ℕ
guard_of TwoK = 1
guard_of FourK = 2

-- tile-parts of a codestream: one a component; for 4K one a component without its largest
-- resolution, and after these one for the largest resolution of each
abbrev pub parts_of : Profile → ℕ
parts_of TwoK = 3
parts_of FourK = 6

-- the largest frame, in samples
abbrev pub max_width_of : Profile → ℕ
max_width_of TwoK = 2048
max_width_of FourK = 4096

abbrev pub max_height_of : Profile → ℕ
max_height_of TwoK = 1080
max_height_of FourK = 2160
