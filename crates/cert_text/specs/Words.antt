-- The words of profiles and byte budgets.
use Rattle.std.specs.Prelude.{ℕ, List, codes}
use Rattle.cine_nums.specs.declared.profile.Profile.{Profile}
use Rattle.cine_nums.specs.declared.profile.Profile.TheVariants.{TwoK, FourK}
use Rattle.cine_nums.specs.declared.budget.Budget.{Budget}
use Rattle.cine_nums.specs.declared.budget.Budget.TheVariants.{Frame, Inner, C0, C1, C2}

abbrev pub profile_word : Profile → List ℕ
profile_word TwoK = codes "2k"
profile_word FourK = codes "4k"

abbrev pub budget_word : Budget → List ℕ
budget_word Frame = codes "frame"
budget_word Inner = codes "inner"
budget_word C0 = codes "c0"
budget_word C1 = codes "c1"
budget_word C2 = codes "c2"
