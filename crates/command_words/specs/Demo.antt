-- The mode `demo`: its command, and which words are one.
use Rattle.std.specs.Prelude.{ℕ, ◌≡◌, ◌<◌, ◌^◌, List, [], Option, Some, codes, slice_get}
use Rattle.std.specs.Str.Parse.{IsNumeral, digits_value}
use Rattle.budget_duals.specs.declared.limits.Limits.{Limits}
use Rattle.cert_text.specs.Words.{profile_word}
use Rattle.cine_nums.specs.declared.profile.Profile.{Profile}
use Rattle.clap.specs.Simple.{App, new_app, with_rule}
use Rattle.command_words.specs.Encode.{option, positional, required_option}
use Rattle.command_words.specs.Limits.{LimitsBy}
use Rattle.command_words.specs.Taken.{refusals, value_of}

-- demo NUMBER --profile PROFILE [--frame-bytes B] [--inner-bytes B] [--component-bytes B]
unfoldable pub demo_command : App
demo_command =
    with_rule (with_rule (with_rule (with_rule (with_rule (new_app (codes "demo"))
    (positional (codes "number")))
    (required_option (codes "profile")))
    (option (codes "frame-bytes")))
    (option (codes "inner-bytes")))
    (option (codes "component-bytes"))

-- A word is this number: one or more decimal digits, worth less than 2^32.
pub record IsNumber (word : List ℕ) (number : ℕ) : Type 0 where
  pub digits : IsNumeral 10 word
  pub value : number ≡ digits_value 10 word
  pub most : number < 2 ^ 32

-- The values of the arguments, by their names, name this number, this profile and these limits.
pub record NamesDemo (value : List ℕ → Option (List ℕ)) (number : ℕ) (profile : Profile)
    (limits : Limits) : Type 0 where
  pub word : List ℕ
  pub has_word : value (codes "number") ≡ Some word
  pub number_is : IsNumber word number
  pub profile_is : value (codes "profile") ≡ Some (profile_word profile)
  pub limits_are : LimitsBy profile (value (codes "frame-bytes")) (value (codes "inner-bytes"))
      (value (codes "component-bytes")) limits

-- The words are a command of the mode that names this number, this profile and these limits: the
-- first is `demo`, the command takes the others, and their values name these.
pub record IsDemo (words : List (List ℕ)) (number : ℕ) (profile : Profile) (limits : Limits)
    : Type 0 where
  pub mode : slice_get words 0 ≡ Some (codes "demo")
  pub taken : refusals demo_command words ≡ []
  pub names : NamesDemo (value_of demo_command words) number profile limits

-- The words are a command of the mode.
abbrev pub AreDemo : List (List ℕ) → Type 0
AreDemo words = (number : ℕ) × (profile : Profile) × (limits : Limits)
    × IsDemo words number profile limits
