-- The byte limits of a frame at 24 frames per second (DCI Digital Cinema System Specification,
-- section 4, on the distribution of 2K and 4K images).
use Rattle.std.specs.Prelude.{ℕ, Bool, true, false}
use Rattle.cine_nums.specs.declared.profile.Profile.{Profile}
use Rattle.cine_nums.specs.declared.profile.Profile.TheVariants.{TwoK, FourK}
use Rattle.cine_nums.specs.declared.budget.Budget.{Budget}
use Rattle.cine_nums.specs.declared.budget.Budget.TheVariants.{Frame, Inner, C0, C1, C2}

-- the most bytes of a frame, its headers with it: 250,000,000 bits a second, 24 frames a second
abbrev pub frame_limit : ℕ
frame_limit = 1302083

-- the most bytes of a component, the heads of its tile-parts with it: 200,000,000 bits a second
abbrev pub component_limit : ℕ
component_limit = 1041666

-- the most bytes of a budget. The 2K portion of a 4K frame obeys the limits of a 2K frame, so that
-- the limit of a component is that of its tile-part in this portion
abbrev pub limit_of : Profile → Budget → ℕ
limit_of profile Frame = frame_limit
limit_of profile Inner = frame_limit
limit_of profile C0 = component_limit
limit_of profile C1 = component_limit
limit_of profile C2 = component_limit

-- whether a frame of the profile has a 2K portion beside the whole
abbrev pub has_inner : Profile → Bool
has_inner TwoK = false
has_inner FourK = true
