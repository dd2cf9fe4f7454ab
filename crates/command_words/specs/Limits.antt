-- Byte limits that words lower.
use Rattle.std.specs.Prelude.{ℕ, ◌≡◌, ◌≤◌, List, [], ◌∷◌, Option, Some, None}
use Rattle.std.specs.Str.Parse.{IsNumeral, digits_value}
use Rattle.budget_duals.specs.declared.limits.Limits.{Limits}
use Rattle.cine_nums.specs.Limits.{limit_of}
use Rattle.cine_nums.specs.declared.budget.Budget.TheVariants.{Frame, Inner, C0}
use Rattle.cine_nums.specs.declared.profile.Profile.{Profile}
use Rattle.cine_nums.specs.declared.profile.Profile.TheVariants.{TwoK, FourK}

-- A word is a limit of so many bytes: one or more decimal digits, worth 1 to `most`.
pub record IsLimit (most : ℕ) (word : List ℕ) (limit : ℕ) : Type 0 where
  pub digits : IsNumeral 10 word
  pub value : limit ≡ digits_value 10 word
  pub least : 1 ≤ limit
  pub low : limit ≤ most

-- the limit by the word of its option; without one it is the largest
abbrev pub LimitBy : ℕ → Option (List ℕ) → ℕ → Type 0
LimitBy most None limit = limit ≡ most
LimitBy most (Some word) limit = IsLimit most word limit

-- the limit of the 2K portion. With 2K there is none, and no option for it
abbrev pub InnerBy : Profile → Option (List ℕ) → Option ℕ → Type 0
InnerBy TwoK None limit = limit ≡ None
InnerBy TwoK (Some word) limit = ⊥
InnerBy FourK word limit = (n : ℕ) × (limit ≡ Some n) × LimitBy (limit_of FourK Inner) word n

-- The limits are those of the profile, lowered by the words of the three options, if they stand:
-- for the whole codestream, for the 2K portion, and for each of the three components.
pub record LimitsBy (profile : Profile) (frame_word inner_word component_word : Option (List ℕ))
    (limits : Limits) : Type 0 where
  pub frame : LimitBy (limit_of profile Frame) frame_word limits.frame
  pub inner : InnerBy profile inner_word limits.inner
  pub component : ℕ
  pub lowered : LimitBy (limit_of profile C0) component_word component
  pub components : limits.component ≡ component ∷ component ∷ component ∷ []
