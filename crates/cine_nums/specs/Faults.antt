-- Tables of faults. A row says whether it applies to the bytes that are judged, and which fault is
-- reported then; the rows stand in the order in which the bytes are judged.
use Rattle.std.specs.Prelude.{Bool, List, [], ◌∷◌, Option, Some, None, if◌then◌else◌}

pub record Row (Fault : Type 0) : Type 0 where
  pub applies : Bool
  pub fault : Fault

abbrev pub row : {Fault : Type 0} → Bool → Fault → Row Fault
row applies fault = record { applies = applies; fault = fault }

-- the fault of the first row that applies, if there is one
abbrev pub first_fault : {Fault : Type 0} → List (Row Fault) → Option Fault
first_fault [] = None
first_fault (r ∷ rows) = if r.applies then Some r.fault else first_fault rows
