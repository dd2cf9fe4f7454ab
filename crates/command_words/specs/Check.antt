-- The mode `check`: its command, and which words are one.
use Rattle.std.specs.Prelude.{ℕ, ◌≡◌, List, [], Some, codes, slice_get}
use Rattle.clap.specs.Simple.{App, new_app, with_rule}
use Rattle.command_words.specs.Encode.{positional}
use Rattle.command_words.specs.Taken.{refusals, value_of}

-- check SOURCE
unfoldable pub check_command : App
check_command = with_rule (new_app (codes "check")) (positional (codes "source"))

-- The words are a command of the mode that names this folder: the first is `check`, the command
-- takes the others, and their value is the folder.
pub record IsCheck (words : List (List ℕ)) (source : List ℕ) : Type 0 where
  pub mode : slice_get words 0 ≡ Some (codes "check")
  pub taken : refusals check_command words ≡ []
  pub source_is : value_of check_command words (codes "source") ≡ Some source

-- The words are a command of the mode.
abbrev pub AreCheck : List (List ℕ) → Type 0
AreCheck words = (source : List ℕ) × IsCheck words source
