-- What a call that moves a whole piece leaves.
use Rattle.std.specs.Prelude.{ℕ, ◌≡◌, ◌<◌, List, ◌++◌, Option, length, take, option_map}
use Rattle.cine_ports.specs.Outputs.{Kept, with_more}

-- what is left is a suffix of the whole, which may be all of it or nothing
abbrev pub IsSuffixOf : List ℕ → List ℕ → Type 0
IsSuffixOf left whole = (prefix : List ℕ) × (whole ≡ prefix ++ left)

-- A proper prefix of a piece, fewer bytes than all, was appended to the unfinished file.
abbrev pub WroteProperPrefix : List ℕ → Option Kept → Option Kept → Type 0
WroteProperPrefix piece before now =
    (n : ℕ) × (n < length piece) × (now ≡ option_map (with_more (take n piece)) before)

-- the bytes of a report followed by these
abbrev pub said_with : List ℕ → List ℕ → List ℕ
said_with more bytes = bytes ++ more

-- A proper prefix of a piece was appended to the report.
abbrev pub SaidProperPrefix : List ℕ → Option (List ℕ) → Option (List ℕ) → Type 0
SaidProperPrefix piece before now =
    (n : ℕ) × (n < length piece) × (now ≡ option_map (said_with (take n piece)) before)
