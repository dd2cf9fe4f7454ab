-- What a run promises of its three objects. Q says which visits are right for a listed name, R
-- which are for a known file; what the outputs keep and what is reported is said where it is known.
use Rattle.std.specs.Prelude.{ℕ, ◌≡◌, ◌≤◌, ◌↔◌, IsTrue, List, Option, IfSome, length}
use Rattle.std.specs.List.{flat_map, list_any, AllByRecursion}
use Rattle.cine_nums.specs.Limits.{frame_limit}
use Rattle.cine_ports.specs.Source.{File, Source}
use Rattle.cine_ports.specs.Outputs.{Kept}
use Rattle.cinema_run.specs.Visit.{Visit, outputs_of, Point, IsPoint, kept_at, said_at}
use Rattle.cinema_run.specs.Progress.{AreRight, AreVisitsOf, IsPointOf, kept_after, said_after}

-- A run visited all frames of a source: each has a right visit, what these visits have is written
-- and reported, in order and with nothing else, and the status is 1 exactly if a frame is refused.
-- It is one record, since outputs, report and status are those of the same visits.
pub record Leaves (Q : List ℕ → Visit → Type 0) (R : File → Visit → Type 0) (source : Source)
    (kept_now : Option Kept) (said_now : Option (List ℕ)) (status : ℕ) : Type 0 where
  pub visits : List Visit
  pub named : AreRight Q source.names visits
  pub known : IfSome source.files (λ files. AreRight R files visits)
  pub kept : IfSome kept_now (λ kept. kept ≡ kept_after visits)
  pub said : IfSome said_now (λ said. said ≡ said_after visits)
  pub refusals : (status ≡ 1) ↔ IsTrue (list_any (λ visit. visit.refused) visits)

-- A run broke off at the frame at place n of a source: the frames before it have right visits, and
-- what these have is written and reported, whole and in order. With the frame at place n it came to
-- a point: of its output a prefix is written, or of its line a proper prefix is reported, or
-- neither.
pub record RunBrokeOff (Q : List ℕ → Visit → Type 0) (R : File → Visit → Type 0) (source : Source)
    (n : ℕ) (kept_now : Option Kept) (said_now : Option (List ℕ)) : Type 0 where
  pub visits : List Visit
  pub right : AreVisitsOf Q R source n visits
  pub point : Point
  pub is_point : IsPoint point
  pub place : IsPointOf Q R source n point
  pub kept : IfSome kept_now (λ kept. kept ≡ kept_at point (flat_map outputs_of visits))
  pub said : IfSome said_now (λ said. said ≡ said_at point (said_after visits))

-- a file that isn't longer than a codestream may be
abbrev pub IsShort : File → Type 0
IsShort file = length file.bytes ≤ frame_limit

-- no output is longer than that, whether it is finished or not
pub record AreShort (kept : Kept) : Type 0 where
  pub finished : AllByRecursion IsShort kept.finished
  pub unfinished : IfSome kept.unfinished IsShort
