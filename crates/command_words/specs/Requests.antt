-- Words that ask about the program.
use Rattle.std.specs.Prelude.{ℕ, ◌||◌, Bool, List, [], ◌∷◌, Option, Some, None, codes}
use Rattle.std.specs.Prelude.{if◌then◌else◌}
use Rattle.std.specs.List.{list_any}
use Rattle.std.specs.Str.{bytes_eq}
use Rattle.command_words.specs.declared.request.Request.{Request}
use Rattle.command_words.specs.declared.request.Request.TheVariants.{Help, Version}

-- the word is this one or that one
abbrev pub is_either : List ℕ → List ℕ → List ℕ → Bool
is_either one other word = bytes_eq word one || bytes_eq word other

-- one of the words is
abbrev pub has_either : List ℕ → List ℕ → List (List ℕ) → Bool
has_either one other words = list_any (is_either one other) words

-- what the words ask for: help where there are none or one of them is `--help` or `-h`, else the
-- version where one is `--version` or `-V`
abbrev pub request_of : List (List ℕ) → Option Request
request_of [] = Some Help
request_of (word ∷ words) =
    if has_either (codes "--help") (codes "-h") (word ∷ words) then Some Help
    else (if has_either (codes "--version") (codes "-V") (word ∷ words) then Some Version else None)
