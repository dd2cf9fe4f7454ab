-- Files that lie in memory.
use Rattle.std.specs.Prelude.{ℕ, Bool, true, false, List, [], Some, map, drop, slice_index_or}
use Rattle.cine_ports.specs.Outputs.{Kept}
use Rattle.cine_ports.specs.Plan.{Plan}
use Rattle.cine_ports.specs.Source.{File, Source, Reading, IsUnlisted}

-- the names of files in order, once they are listed
abbrev pub names_listed : Bool → List File → List (List ℕ)
names_listed true files = map (λ file. file.name) files
names_listed false files = []

-- files that are known, listed or not
abbrev pub known_source : List File → Bool → Source
known_source files is_listed =
    record { files = Some files; is_listed = is_listed; names = names_listed is_listed files }

-- the bytes of a file, by its place
abbrev pub bytes_at : List File → ℕ → List ℕ
bytes_at files i = slice_index_or (map (λ file. file.bytes) files) i []

-- the bytes of a file from a place on; none where it isn't begun
abbrev pub bytes_left : Bool → List File → ℕ → ℕ → List ℕ
bytes_left true files i at = drop at (bytes_at files i)
bytes_left false files i at = []

-- the reading of known files
abbrev pub known_reading : List File → ℕ → Bool → ℕ → Reading
known_reading files asked is_begun at =
    record { asked = asked; is_begun = is_begun; left = bytes_left is_begun files asked at }

-- no frame was asked for
abbrev pub nothing_begun : Reading
nothing_begun = record { asked = 0; is_begun = false; left = [] }

-- frames in memory whose calls never fail
pub record Steady : Type 0 where
  pub source : Source
  pub reading : Reading
  -- before the listing there are no names, and no frame was asked for
  pub unlisted : IsUnlisted source reading

-- frames in memory, whether a call of them has failed, and which are to fail
pub record FailingFrames : Type 0 where
  pub source : Source
  pub reading : Reading
  -- before the listing there are no names, and no frame was asked for
  pub unlisted : IsUnlisted source reading
  pub has_failed : Bool
  pub plan : Plan

-- outputs in memory, likewise
pub record FailingOutputs : Type 0 where
  pub kept : Kept
  pub has_failed : Bool
  pub plan : Plan

-- a report in memory, likewise
pub record FailingReport : Type 0 where
  pub said : List ℕ
  pub has_failed : Bool
  pub plan : Plan
