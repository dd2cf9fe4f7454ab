-- The mode `encode`: its command, and which words are one.
use Rattle.std.specs.Prelude.{ℕ, ◌≡◌, List, [], Option, Some, true, codes, slice_get}
use Rattle.budget_duals.specs.declared.limits.Limits.{Limits}
use Rattle.cert_text.specs.Words.{profile_word}
use Rattle.cine_nums.specs.declared.profile.Profile.{Profile}
use Rattle.clap.specs.Simple.{App, new_app, new_rule, with_rule}
use Rattle.clap.specs.Walk.{Rule}
use Rattle.command_words.specs.Limits.{LimitsBy}
use Rattle.command_words.specs.Taken.{refusals, value_of}

-- an argument without a name in the words, which has to stand there
abbrev pub positional : List ℕ → Rule
positional name = record (new_rule name) { required = true }

-- an option `--NAME VALUE` or `--NAME=VALUE`
abbrev pub option : List ℕ → Rule
option name = record (new_rule name) { long = Some name }

-- one that has to stand there
abbrev pub required_option : List ℕ → Rule
required_option name = record (option name) { required = true }

-- encode SOURCE TARGET --profile PROFILE [--frame-bytes B] [--inner-bytes B] [--component-bytes B]
unfoldable pub encode_command : App
encode_command =
    with_rule (with_rule (with_rule (with_rule (with_rule (with_rule (new_app (codes "encode"))
    (positional (codes "source")))
    (positional (codes "target")))
    (required_option (codes "profile")))
    (option (codes "frame-bytes")))
    (option (codes "inner-bytes")))
    (option (codes "component-bytes"))

-- The values of the arguments, by their names, name these folders, this profile and these limits.
pub record NamesEncode (value : List ℕ → Option (List ℕ)) (source target : List ℕ)
    (profile : Profile) (limits : Limits) : Type 0 where
  pub source_is : value (codes "source") ≡ Some source
  pub target_is : value (codes "target") ≡ Some target
  pub profile_is : value (codes "profile") ≡ Some (profile_word profile)
  pub limits_are : LimitsBy profile (value (codes "frame-bytes")) (value (codes "inner-bytes"))
      (value (codes "component-bytes")) limits

-- The words are a command of the mode that names these folders, this profile and these limits: the
-- first is `encode`, the command takes the others, and their values name these.
pub record IsEncode (words : List (List ℕ)) (source target : List ℕ) (profile : Profile)
    (limits : Limits) : Type 0 where
  pub mode : slice_get words 0 ≡ Some (codes "encode")
  pub taken : refusals encode_command words ≡ []
  pub names : NamesEncode (value_of encode_command words) source target profile limits

-- The words are a command of the mode.
abbrev pub AreEncode : List (List ℕ) → Type 0
AreEncode words = (source : List ℕ) × (target : List ℕ) × (profile : Profile) × (limits : Limits)
    × IsEncode words source target profile limits
