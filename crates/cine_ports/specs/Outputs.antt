-- What an object of outputs keeps.
use Rattle.std.specs.Prelude.{ℕ, List, [], ◌∷◌, ◌++◌, Option, Some, None}
use Rattle.cine_ports.specs.Source.{File}

-- the finished files in order, and at most one unfinished
pub record Kept : Type 0 where
  pub finished : List File
  pub unfinished : Option File

-- nothing is finished or unfinished
abbrev pub kept_nothing : Kept
kept_nothing = record { finished = []; unfinished = None }

-- with an unfinished file of this name, without bytes
abbrev pub with_begun : List ℕ → Kept → Kept
with_begun name kept = record {
  finished = kept.finished;
  unfinished =
      Some (record { name = name; bytes = [] });
}

-- a file with these bytes after its own
abbrev pub file_with : List ℕ → Option File → Option File
file_with more None = None
file_with more (Some file) = Some (record { name = file.name; bytes = file.bytes ++ more })

-- with these bytes after those of the unfinished file
abbrev pub with_more : List ℕ → Kept → Kept
with_more more kept = record {
  finished = kept.finished;
  unfinished =
      file_with more kept.unfinished;
}

-- the finished files, followed by the one that was unfinished
abbrev pub finished_with : List File → Option File → List File
finished_with files None = files
finished_with files (Some file) = files ++ file ∷ []

-- with the unfinished file at the end of the finished ones
abbrev pub with_finished : Kept → Kept
with_finished kept = record {
  finished = finished_with kept.finished kept.unfinished;
  unfinished =
      None;
}
