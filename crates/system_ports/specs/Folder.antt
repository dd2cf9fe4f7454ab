-- What is known of a folder: names, and no bytes.
use Rattle.std.specs.Prelude.{ℕ, ◌≡◌, ◌<◌, Bool, List, [], ◌++◌, None, length}
use Rattle.cine_ports.specs.Source.{Source, Reading}

-- files that aren't known, with the names that were listed
abbrev pub unknown_source : Bool → List (List ℕ) → Source
unknown_source is_listed names = record { files = None; is_listed = is_listed; names = names }

-- the reading of files that aren't known
abbrev pub unknown_reading : ℕ → Bool → Reading
unknown_reading asked is_begun = record { asked = asked; is_begun = is_begun; left = [] }

-- the file name is a name that isn't empty, followed by the suffix
abbrev pub IsStem : List ℕ → List ℕ → List ℕ → Type 0
IsStem file_name suffix name = (file_name ≡ name ++ suffix) × (0 < length name)
