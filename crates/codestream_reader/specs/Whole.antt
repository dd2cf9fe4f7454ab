-- A whole codestream: what its main header says, the tile-parts after it, EOC and nothing more,
-- within the limits of its profile (ISO/IEC 15444-1, A.3 and A.4.4; DCI Digital Cinema System
-- Specification, section 4). Places are counted in bytes from 0.
use Rattle.std.specs.Prelude.{ℕ, ◌+◌, ◌≡◌, ◌≤◌, List, length, drop, sum}
use Rattle.std.specs.List.{All}
use Rattle.band_geometry.specs.Numbering.{all_blocks}
use Rattle.band_geometry.specs.declared.geometry.Geometry.{Geometry}
use Rattle.budget_duals.specs.Held.{held_of, limits_of, IsWithin}
use Rattle.budget_duals.specs.declared.held.Held.{Held}
use Rattle.cinema_markers.specs.Words.{main_words}
use Rattle.cinema_markers.specs.declared.header.MainRead.{MainRead}
use Rattle.dz_quantiser.specs.Bands.{planes_of}
use Rattle.dz_quantiser.specs.declared.band.BandStep.{BandStep}
use Rattle.dz_quantiser.specs.declared.steps.StepSizes.{StepSizes}
use Rattle.profile_reader.specs.Reads.{Stream, StreamFits, stream_bytes, PartsSay}
use Rattle.profile_reader.specs.Words.{PartWhole}
use Rattle.tile_parts.specs.Head.{eoc}
use Rattle.codestream_reader.specs.Spans.{said_of}
use Rattle.codestream_reader.specs.Standing.{PartsStand}
use Rattle.codestream_reader.specs.declared.stream.StreamSpans.{StreamSpans}

-- each band has at most 31 magnitude bit-planes
abbrev pub HaveFewPlanes : StepSizes → Type 0
HaveFewPlanes steps =
    All (λ (step : BandStep). planes_of steps.guard step.exponent ≤ 31) steps.bands.items

-- the place after the tile-parts whose lengths a main header has
abbrev pub end_of : MainRead → ℕ
end_of read = read.bytes + sum read.main.parts.items

-- after a main header stand these tile-parts, and after them EOC, with which the bytes end
pub record RestStands (bytes : List ℕ) (read : MainRead) (g : Geometry) (ws : List PartWhole)
    : Type 0 where
  pub parts : PartsStand g read.main.steps bytes read.bytes (end_of read) 0
      (length read.main.parts.items) read.main.parts.items ws
  pub end : drop (end_of read) bytes ≡ eoc

-- what a codestream holds in its byte budgets
abbrev pub stream_held : Stream → Held
stream_held s =
    held_of s.main.profile (length (main_words s.main s.words)) s.main.parts.items

-- the bytes are this codestream, and it is within the limits of its profile
pub record IsStream (bytes : List ℕ) (s : Stream) : Type 0 where
  pub fits : StreamFits s
  pub spelled : bytes ≡ stream_bytes s
  pub within : IsWithin (limits_of s.main.profile) (stream_held s)

-- This is found of a codestream: its main header, the geometry of its frame, what it holds, and a
-- span for each code-block, which says of it what the packets say.
pub record IsFound (bytes : List ℕ) (s : Stream) (found : StreamSpans) : Type 0 where
  pub main : found.read.main ≡ s.main
  pub bytes_are : found.read.bytes ≡ length (main_words s.main s.words)
  pub geometry : found.geometry ≡ s.geometry
  pub held : found.held ≡ stream_held s
  pub count : length found.spans.items ≡ length (all_blocks s.geometry)
  pub says : PartsSay s.geometry (said_of bytes found.spans.items) 0 s.parts
