-- The first fault of a main header over any bytes: segments stand up to a place, and a row applies
-- there.
use Rattle.std.specs.Prelude.{ℕ, ◌+◌, ◌*◌, ◌≡◌, ◌≤◌, ◌⊎◌, List, [], ◌∷◌, length, slice_index, Some}
use Rattle.std.specs.Prelude.{None, IsSome}
use Rattle.std.specs.Option.{unwrap_or}
use Rattle.cine_nums.specs.Bytes.{word_at}
use Rattle.cine_nums.specs.Faults.{first_fault}
use Rattle.cine_nums.specs.Profile.{parts_of}
use Rattle.cinema_markers.specs.Tables.{soc_rows, next_rows, noted, profile_at, entry_size}
use Rattle.cinema_markers.specs.declared.found.Found.{Found}
use Rattle.cinema_markers.specs.declared.refusal.MarkerRefusal.{MarkerRefusal}

-- Segments are named by their places, the last one first. Which of them are found:
abbrev pub found_in : List ℕ → List ℕ → Found
found_in bytes [] = record { siz = None; cod = None; qcd = None; poc = None; tlm = None }
found_in bytes (place ∷ before) = noted (found_in bytes before) (word_at bytes place) place

-- the segment at a place, to which no row applies, ends at another one
pub record Passed (bytes : List ℕ) (found : Found) (at to : ℕ) : Type 0 where
  pub none : first_fault (next_rows bytes found at) ≡ None
  pub further : word_at bytes at ≡ 0xFF90 → ⊥
  pub to_is : to ≡ at + 2 + word_at bytes (at + 2)

-- from SOC up to a place stand segments to which no row applies
abbrev pub StandsUpTo : List ℕ → List ℕ → ℕ → Type 0
StandsUpTo bytes [] at = (first_fault (soc_rows bytes) ≡ None) × (at ≡ 2)
StandsUpTo bytes (place ∷ before) at =
    StandsUpTo bytes before place × Passed bytes (found_in bytes before) place at

-- after them, at this place, is a fault
pub record FaultAfter (bytes : List ℕ) (fault : MarkerRefusal) : Type 0 where
  pub before : List ℕ
  pub at : ℕ
  pub stands : StandsUpTo bytes before at
  pub applies : first_fault (next_rows bytes (found_in bytes before) at) ≡ Some fault

-- the first fault of a main header
abbrev pub HasFault : List ℕ → MarkerRefusal → Type 0
HasFault bytes fault = (first_fault (soc_rows bytes) ≡ Some fault) ⊎ FaultAfter bytes fault

-- SOT stands at a place, and no row applies
pub record IsEnd (bytes : List ℕ) (found : Found) (at : ℕ) : Type 0 where
  pub sot : word_at bytes at ≡ 0xFF90
  pub none : first_fault (next_rows bytes found at) ≡ None

-- a main header ends at a place
pub record EndsAt (bytes : List ℕ) (found : Found) (at : ℕ) : Type 0 where
  pub before : List ℕ
  pub stands : StandsUpTo bytes before at
  pub found_is : found ≡ found_in bytes before
  pub end : IsEnd bytes found at

-- a whole segment stands at a place, and its length is this or more
pub record IsWhole (bytes : List ℕ) (least at : ℕ) : Type 0 where
  pub inside : at + 2 + word_at bytes (at + 2) ≤ length bytes
  pub long : least ≤ word_at bytes (at + 2)

-- the segments that were found
pub record AreWhole (bytes : List ℕ) (found : Found) : Type 0 where
  pub siz : IsSome found.siz → IsWhole bytes 47 (unwrap_or found.siz 0)
  pub cod : IsSome found.cod → IsWhole bytes 12 (unwrap_or found.cod 0)
  pub qcd : IsSome found.qcd → IsWhole bytes 5 (unwrap_or found.qcd 0)
  pub poc : IsSome found.poc → IsWhole bytes 16 (unwrap_or found.poc 0)

-- the places that are read of the segments that were found lie in the bytes
pub record IsReadable (bytes : List ℕ) (found : Found) : Type 0 where
  pub siz : unwrap_or found.siz 0 + 14 ≤ length bytes
  pub cod : unwrap_or found.cod 0 + 10 ≤ length bytes
  pub levels : slice_index bytes (unwrap_or found.cod 0 + 9) ≤ 6
  pub qcd : unwrap_or found.qcd 0 + (7 + 6 * slice_index bytes (unwrap_or found.cod 0 + 9))
      ≤ length bytes
  pub tlm : unwrap_or found.tlm 0 + (6 + parts_of (profile_at bytes found.siz)
      * entry_size (slice_index bytes (unwrap_or found.tlm 0 + 5))) ≤ length bytes
