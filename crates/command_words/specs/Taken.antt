-- What the command of a mode makes of the words, by `clap`. The first word is the mode.
use Rattle.std.specs.Prelude.{ℕ, List, Option, String, string_bytes, map, option_map}
use Rattle.std.specs.Borrow.{Bor}
use Rattle.clap.specs.Faults.{fault_of}
use Rattle.clap.specs.Kinds.{Kinds}
use Rattle.clap.specs.Simple.{App, matches_of}
use Rattle.clap.specs.Walk.{first_of}

-- the bytes of each word
abbrev pub texts : {A : Type 0} → List (String A) → List (List ℕ)
texts words = map string_bytes words

-- the bytes of a word that may be there
abbrev pub word_of : Option (Bor (List ℕ)) → Option (List ℕ)
word_of = option_map (λ word. word.now)

-- why the command refuses the words after the first one: nothing where it takes them. A request for
-- help is a refusal
unfoldable pub refusals : App → List (List ℕ) → Kinds
refusals command words = fault_of command words

-- the value that the words give to the argument of this name, if they give one
unfoldable pub value_of : App → List (List ℕ) → List ℕ → Option (List ℕ)
value_of command words name = first_of name (matches_of command words)
