-- How far a run has come. Q says which visits are right for a listed name, R which are for a known
-- file.
use Rattle.std.specs.Prelude.{ℕ, ◌≡◌, ◌≤◌, Bool, List, [], ◌∷◌, Option, Some, None, IfSome, length}
use Rattle.std.specs.Prelude.{take, slice_get, option_map}
use Rattle.std.specs.List.{flat_map, list_any}
use Rattle.cine_ports.specs.Source.{File, Source}
use Rattle.cine_ports.specs.Outputs.{Kept}
use Rattle.cine_ports.specs.WholePieces.{said_with}
use Rattle.cinema_run.specs.Output.{kept_and}
use Rattle.cinema_run.specs.Visit.{Visit, outputs_of, Point, Before, Writing, Saying, IsPoint}
use Rattle.cinema_run.specs.Visit.{kept_at, said_at}

-- the outputs after these visits, which are all finished
abbrev pub kept_after : List Visit → Kept
kept_after visits = record { finished = flat_map outputs_of visits; unfinished = None }

-- the report after these visits
abbrev pub said_after : List Visit → List ℕ
said_after visits = flat_map (λ visit. visit.line) visits

-- each visit is right for the item at its place, of as many
abbrev pub AreRight : {A : Type 0} → (A → Visit → Type 0) → List A → List Visit → Type 0
AreRight R [] [] = Unit {0}
AreRight R (x ∷ xs) (visit ∷ visits) = R x visit × AreRight R xs visits
AreRight R [] (_ ∷ _) = ⊥
AreRight R (_ ∷ _) [] = ⊥

-- the visit is right for the item at place i
abbrev pub IsRightAt : {A : Type 0} → (A → Visit → Type 0) → List A → ℕ → Visit → Type 0
IsRightAt {A} R xs i visit = (x : A) × (slice_get xs i ≡ Some x) × R x visit

-- the point is one of a visit that is right for the item at place n
abbrev pub IsPointAt : {A : Type 0} → (A → Visit → Type 0) → List A → ℕ → Point → Type 0
IsPointAt R xs n Before = n ≤ length xs
IsPointAt R xs n (Writing visit file k) = IsRightAt R xs n visit
IsPointAt R xs n (Saying visit k) = IsRightAt R xs n visit

-- The visit is right for the frame at place i of a source: for its name, and where the files are
-- known for its file.
pub record IsVisitAt (Q : List ℕ → Visit → Type 0) (R : File → Visit → Type 0) (source : Source)
    (i : ℕ) (visit : Visit) : Type 0 where
  pub named : IsRightAt Q source.names i visit
  pub known : IfSome source.files (λ files. IsRightAt R files i visit)

-- The visits are right for the first n frames.
pub record AreVisitsOf (Q : List ℕ → Visit → Type 0) (R : File → Visit → Type 0) (source : Source)
    (n : ℕ) (visits : List Visit) : Type 0 where
  pub named : AreRight Q (take n source.names) visits
  pub known : IfSome source.files (λ files. AreRight R (take n files) visits)

-- The point is one of the frame at place n.
pub record IsPointOf (Q : List ℕ → Visit → Type 0) (R : File → Visit → Type 0) (source : Source)
    (n : ℕ) (point : Point) : Type 0 where
  pub named : IsPointAt Q source.names n point
  pub known : IfSome source.files (λ files. IsPointAt R files n point)

-- the point is one of such a visit
abbrev pub IsOneOf : (Visit → Type 0) → Point → Type 0
IsOneOf IsRight Before = Unit {0}
IsOneOf IsRight (Writing visit file n) = IsRight visit
IsOneOf IsRight (Saying visit n) = IsRight visit

-- The visit of one frame, for which IsRight says which visits are right, broke off.
pub record VisitBrokeOff (IsRight : Visit → Type 0) (kept_before kept_now : Option Kept)
    (said_before said_now : Option (List ℕ)) : Type 0 where
  pub point : Point
  pub is_point : IsPoint point
  pub of_visit : IsOneOf IsRight point
  pub kept : kept_now ≡ option_map (λ kept. kept_at point kept.finished) kept_before
  pub said : said_now ≡ option_map (said_at point) said_before

-- The visit of the frame at place i of a source broke off.
pub record FrameBrokeOff (Q : List ℕ → Visit → Type 0) (R : File → Visit → Type 0) (source : Source)
    (i : ℕ) (kept_before kept_now : Option Kept)
    (said_before said_now : Option (List ℕ)) : Type 0 where
  pub point : Point
  pub is_point : IsPoint point
  pub place : IsPointOf Q R source i point
  pub kept : kept_now ≡ option_map (λ kept. kept_at point kept.finished) kept_before
  pub said : said_now ≡ option_map (said_at point) said_before

-- The frame at place i of a source was visited: what its visit has is written and reported.
pub record FrameVisited (Q : List ℕ → Visit → Type 0) (R : File → Visit → Type 0) (source : Source)
    (i : ℕ) (kept_before kept_now : Option Kept) (said_before said_now : Option (List ℕ))
    (is_refused : Bool) : Type 0 where
  pub visit : Visit
  pub is_visit : IsVisitAt Q R source i visit
  pub kept : kept_now ≡ option_map (kept_and (outputs_of visit)) kept_before
  pub said : said_now ≡ option_map (said_with visit.line) said_before
  pub refused : is_refused ≡ visit.refused

-- The first n frames of a source were visited, and no other.
pub record FramesVisited (Q : List ℕ → Visit → Type 0) (R : File → Visit → Type 0) (source : Source)
    (n : ℕ) (kept_before kept_now : Option Kept) (said_before said_now : Option (List ℕ))
    (some_refused : Bool) : Type 0 where
  pub visits : List Visit
  pub right : AreVisitsOf Q R source n visits
  pub kept : kept_now ≡ option_map (λ kept. kept_after visits) kept_before
  pub said : said_now ≡ option_map (λ said. said_after visits) said_before
  pub refused : some_refused ≡ list_any (λ visit. visit.refused) visits

-- The visits of a source's frames broke off at the frame at place n: those before it were visited.
pub record FramesBrokeOff (Q : List ℕ → Visit → Type 0) (R : File → Visit → Type 0)
    (source : Source) (n : ℕ) (kept_before kept_now : Option Kept)
    (said_before said_now : Option (List ℕ)) : Type 0 where
  pub visits : List Visit
  pub right : AreVisitsOf Q R source n visits
  pub point : Point
  pub is_point : IsPoint point
  pub place : IsPointOf Q R source n point
  pub kept : kept_now ≡ option_map (λ kept. kept_at point (flat_map outputs_of visits)) kept_before
  pub said : said_now ≡ option_map (λ said. said_at point (said_after visits)) said_before
