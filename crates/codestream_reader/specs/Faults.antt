-- The first fault of a whole codestream in reading order. Each case says what stands before it, so
-- that the cases need no order of their own. Places are counted in bytes from 0.
use Rattle.std.specs.Prelude.{ℕ, ◌+◌, ◌≡◌, ◌<◌, ◌≤◌, List, ◌∷◌, ◌++◌, length, take, drop}
use Rattle.std.specs.Prelude.{slice_get, Some}
use Rattle.std.specs.List.{All}
use Rattle.band_geometry.specs.declared.geometry.Geometry.{Geometry}
use Rattle.budget_duals.specs.Held.{held_of, held_in, limits_of, IsOutermostBroken}
use Rattle.cine_nums.specs.Limits.{frame_limit}
use Rattle.cine_nums.specs.declared.budget.Budget.{Budget}
use Rattle.cine_nums.specs.declared.budget.Budget.TheVariants.{Frame}
use Rattle.cinema_markers.specs.Reading.{HasFault as HasMainFault}
use Rattle.cinema_markers.specs.Words.{HasMain}
use Rattle.cinema_markers.specs.declared.header.MainRead.{MainRead}
use Rattle.cinema_markers.specs.declared.refusal.MarkerRefusal.{MarkerRefusal}
use Rattle.dz_quantiser.specs.Bands.{planes_of}
use Rattle.dz_quantiser.specs.declared.band.BandStep.{BandStep}
use Rattle.dz_quantiser.specs.declared.steps.StepSizes.{StepSizes}
use Rattle.profile_reader.specs.Reads.{IsGeometryOfHeader}
use Rattle.profile_reader.specs.Words.{PartWhole}
use Rattle.tile_parts.specs.Head.{eoc}
use Rattle.codestream_reader.specs.PartFaults.{PartsFault}
use Rattle.codestream_reader.specs.Standing.{PartsStand}
use Rattle.codestream_reader.specs.Whole.{HaveFewPlanes, RestStands, end_of}
use Rattle.codestream_reader.specs.declared.refusal.ReadRefusal.{ReadRefusal}
use Rattle.codestream_reader.specs.declared.refusal.ReadRefusal.TheVariants.{Main, TooManyPlanes}
use Rattle.codestream_reader.specs.declared.refusal.ReadRefusal.TheVariants.{MissingEnd}
use Rattle.codestream_reader.specs.declared.refusal.ReadRefusal.TheVariants.{BytesAfterEnd}
use Rattle.codestream_reader.specs.declared.refusal.ReadRefusal.TheVariants.{LimitExceeded}

-- the first band with more than 31 magnitude bit-planes, in the order of QCD
pub record ManyPlanes (steps : StepSizes) (band : ℕ) : Type 0 where
  pub few_before : All (λ (step : BandStep). planes_of steps.guard step.exponent ≤ 31)
      (take band steps.bands.items)
  pub step : BandStep
  pub step_is : slice_get steps.bands.items band ≡ Some step
  pub many : 31 < planes_of steps.guard step.exponent

-- the bytes from a place on aren't EOC alone: they don't begin with EOC, or a byte follows it
pub data EndFault (bytes : List ℕ) (at : ℕ) (refusal : ReadRefusal) : Type 0 where
  missing : ((later : List ℕ) → drop at bytes ≡ eoc ++ later → ⊥) → refusal ≡ MissingEnd at
      → EndFault bytes at refusal
  byte_after : (byte : ℕ) (later : List ℕ) → drop at bytes ≡ eoc ++ byte ∷ later
      → refusal ≡ BytesAfterEnd (at + 2) → EndFault bytes at refusal

-- after a main header: a fault of a tile-part, or of EOC after all tile-parts
pub data RestFault (bytes : List ℕ) (read : MainRead) (g : Geometry) (refusal : ReadRefusal)
    : Type 0 where
  of_part : PartsFault g read.main.steps bytes read.bytes read.main.parts.items
      read.parts_at.items refusal → RestFault bytes read g refusal
  of_end : (ws : List PartWhole) → PartsStand g read.main.steps bytes read.bytes (end_of read) 0
      (length read.main.parts.items) read.main.parts.items ws
      → EndFault bytes (end_of read) refusal → RestFault bytes read g refusal

-- after a main header whose bands have few planes: one of these, or the whole codestream stands and
-- holds too much, of which the outermost budget is named
pub data LaterFault (bytes : List ℕ) (read : MainRead) (g : Geometry) (refusal : ReadRefusal)
    : Type 0 where
  of_rest : RestFault bytes read g refusal → LaterFault bytes read g refusal
  of_limit : (ws : List PartWhole) → RestStands bytes read g ws → (budget : Budget)
      → IsOutermostBroken (limits_of read.main.profile)
      (held_of read.main.profile read.bytes read.main.parts.items) budget
      → refusal ≡ LimitExceeded budget
      (held_in (held_of read.main.profile read.bytes read.main.parts.items) budget)
      → LaterFault bytes read g refusal

-- before the tile-parts: more bytes than a frame may have, or a fault of the main header, or a band
-- with too many bit-planes
pub data EarlyFault (bytes : List ℕ) (refusal : ReadRefusal) : Type 0 where
  of_frame : frame_limit < length bytes → refusal ≡ LimitExceeded Frame (length bytes)
      → EarlyFault bytes refusal
  of_main : length bytes ≤ frame_limit → (fault : MarkerRefusal) → HasMainFault bytes fault
      → refusal ≡ Main fault → EarlyFault bytes refusal
  of_planes : length bytes ≤ frame_limit → (read : MainRead) → HasMain bytes read → (band : ℕ)
      → ManyPlanes read.main.steps band → refusal ≡ TooManyPlanes band
      → EarlyFault bytes refusal

-- the first fault of the bytes: one of these, or what follows a main header whose bands have few
-- bit-planes
pub data HasFault (bytes : List ℕ) (refusal : ReadRefusal) : Type 0 where
  of_early : EarlyFault bytes refusal → HasFault bytes refusal
  of_later : length bytes ≤ frame_limit → (read : MainRead) → HasMain bytes read
      → HaveFewPlanes read.main.steps → (g : Geometry) → IsGeometryOfHeader read.main g
      → LaterFault bytes read g refusal → HasFault bytes refusal
