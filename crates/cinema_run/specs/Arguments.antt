-- What the words after the program's name order.
use Rattle.std.specs.Prelude.{ℕ, ◌≡◌, ◌⊎◌, List, [], Some, None, option_map, string_bytes, codes}
use Rattle.budget_duals.specs.declared.limits.Limits.{Limits}
use Rattle.cine_nums.specs.declared.profile.Profile.{Profile}
use Rattle.command_words.specs.Check.{AreCheck, IsCheck}
use Rattle.command_words.specs.Demo.{AreDemo, IsDemo}
use Rattle.command_words.specs.Encode as words_of
use Rattle.frame_encoder.specs.declared.order.EncodeOrder.{EncodeOrder}
use Rattle.cinema_run.specs.declared.arguments.FolderWords.{FolderWords}
use Rattle.cinema_run.specs.declared.arguments.Order.{Order}
use Rattle.cinema_run.specs.declared.arguments.Order.TheVariants.{Encode, Check, Demo}

-- the suffixes of frames and of codestreams
abbrev pub frame_suffix : List ℕ
frame_suffix = codes ".ppm"

abbrev pub codestream_suffix : List ℕ
codestream_suffix = codes ".j2c"

-- The words are a command: one of the mode `encode`, `check` or `demo`.
abbrev pub AreCommand : List (List ℕ) → Type 0
AreCommand words = words_of.AreEncode words ⊎ AreCheck words ⊎ AreDemo words

-- They are one of the mode `encode`, and the order is for their profile, with their limits.
pub record IsEncode (words : List (List ℕ)) (order : EncodeOrder) : Type 0 where
  pub source : List ℕ
  pub target : List ℕ
  pub command : words_of.IsEncode words source target order.profile order.limits

-- the words order this
abbrev pub IsOrder : List (List ℕ) → Order → Type 0
IsOrder words (Encode order) = IsEncode words order
IsOrder words Check = AreCheck words
IsOrder words (Demo number order) = IsDemo words number order.profile order.limits

-- the folders of a command of the mode `encode`: its source and target, and the suffix of frames
pub record AreEncodeFoldersOf (words : List (List ℕ)) (folders : FolderWords) : Type 0 where
  pub source : List ℕ
  pub target : List ℕ
  pub profile : Profile
  pub limits : Limits
  pub command : words_of.IsEncode words source target profile limits
  pub has_source : option_map string_bytes folders.source ≡ Some source
  pub has_target : option_map string_bytes folders.target ≡ Some target
  pub has_suffix : string_bytes folders.suffix ≡ frame_suffix

-- of the mode `check`: its source alone, and the suffix of codestreams
pub record AreCheckFoldersOf (words : List (List ℕ)) (folders : FolderWords) : Type 0 where
  pub source : List ℕ
  pub command : IsCheck words source
  pub has_source : option_map string_bytes folders.source ≡ Some source
  pub no_target : folders.target ≡ None
  pub has_suffix : string_bytes folders.suffix ≡ codestream_suffix

-- of the mode `demo`, which has none
pub record AreDemoFoldersOf (words : List (List ℕ)) (folders : FolderWords) : Type 0 where
  pub command : AreDemo words
  pub no_source : folders.source ≡ None
  pub no_target : folders.target ≡ None
  pub no_suffix : string_bytes folders.suffix ≡ []

-- the folders of the command
abbrev pub AreFoldersOf : List (List ℕ) → FolderWords → Type 0
AreFoldersOf words folders =
    AreEncodeFoldersOf words folders ⊎ AreCheckFoldersOf words folders
    ⊎ AreDemoFoldersOf words folders
