-- The visit of one frame, as data: the file that it writes, if it writes one, and the line that it
-- reports.
use Rattle.std.specs.Prelude.{ℕ, ◌≡◌, ◌<◌, ◌≤◌, Bool, List, [], ◌∷◌, ◌++◌, Option, Some, None}
use Rattle.std.specs.Prelude.{length, take}
use Rattle.cine_ports.specs.Source.{File}
use Rattle.cine_ports.specs.Outputs.{Kept}

pub record Visit : Type 0 where
  pub output : Option File
  -- the line, with the LF at its end
  pub line : List ℕ
  -- whether the frame is refused
  pub refused : Bool

-- one file, or none
abbrev pub one_or_none : Option File → List File
one_or_none (Some file) = file ∷ []
one_or_none None = []

abbrev pub outputs_of : Visit → List File
outputs_of visit = one_or_none visit.output

-- how far a run has come with the frame at which it broke off
pub data Point : Type 0 where
  -- nothing of it is written or reported
  Before : Point
  -- this file, its output, is begun and has so many bytes
  Writing : Visit → File → ℕ → Point
  -- its output, if it has one, is finished, and so many bytes of its line are reported
  Saying : Visit → ℕ → Point

-- There is such a point: the file is the visit's and has as many bytes, and of the line not all is
-- reported.
abbrev pub IsPoint : Point → Type 0
IsPoint Before = Unit {0}
IsPoint (Writing visit file n) = (visit.output ≡ Some file) × (n ≤ length file.bytes)
IsPoint (Saying visit n) = n < length visit.line

-- the outputs at a point, by those that were finished before the frame
abbrev pub kept_at : Point → List File → Kept
kept_at Before files = record { finished = files; unfinished = None }
kept_at (Writing visit file n) files = record {
  finished = files;
  unfinished = Some (record { name = file.name; bytes = take n file.bytes });
}
kept_at (Saying visit n) files = record { finished = files ++ outputs_of visit; unfinished = None }

-- the report at a point, by what was reported before the frame
abbrev pub said_at : Point → List ℕ → List ℕ
said_at Before bytes = bytes
said_at (Writing visit file n) bytes = bytes
said_at (Saying visit n) bytes = bytes ++ take n visit.line
