-- The names that a source lists.
use Rattle.std.specs.Prelude.{ℕ, ◌≡◌, ◌<◌, ◌^◌, List, length, AllPairs}
use Rattle.std.specs.Ordering.{nat_cmp}
use Rattle.std.specs.declared.cmp.Ordering.TheVariants.{Less}
use Rattle.std.specs.Cmp.Lexicographic.{slice_cmp}

-- fewer than 2^32 names, each before the next ones in the order of their bytes, so no two are equal
pub record IsNameList (names : List (List ℕ)) : Type 0 where
  pub few : length names < 2 ^ 32
  pub sorted : AllPairs (λ a b. slice_cmp nat_cmp a b ≡ Less) names
