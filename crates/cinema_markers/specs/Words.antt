-- A main header as the reader takes it: what it says, and how it spells that (ISO/IEC 15444-1, A.5
-- to A.7, A.9.2).
use Rattle.std.specs.Prelude.{ℕ, ◌+◌, ◌*◌, ◌≡◌, ◌≤◌, ◌<◌, ◌^◌, ◌⊎◌, ◌==◌, ◌||◌, if◌then◌else◌, List}
use Rattle.std.specs.Prelude.{[], ◌∷◌, ◌++◌, length, map}
use Rattle.std.specs.List.{flat_map, All, AllByRecursion, range_with_len}
use Rattle.cine_nums.specs.declared.profile.Profile.{Profile}
use Rattle.cine_nums.specs.declared.profile.Profile.TheVariants.{TwoK, FourK}
use Rattle.cine_nums.specs.Profile.{levels_of, parts_of, max_width_of, max_height_of}
use Rattle.dz_quantiser.specs.Bands.{planes_of}
use Rattle.dz_quantiser.specs.declared.band.BandStep.{BandStep}
use Rattle.dz_quantiser.specs.declared.steps.StepSizes.{StepSizes}
use Rattle.cinema_markers.specs.Fields.{segment}
use Rattle.cinema_markers.specs.MainHeader.{soc, rsiz, component, cod, qcd, poc}
use Rattle.cine_nums.specs.Profile.{least_levels_of, is_four_k}
use Rattle.cinema_markers.specs.Tables.{index_size, length_size, entry_size, entry_place}
use Rattle.cinema_markers.specs.declared.fields.Field.{Field}
use Rattle.cinema_markers.specs.declared.fields.Field.TheVariants.{Byte, Short, Long}
use Rattle.cinema_markers.specs.declared.header.MainHeader.{MainHeader}
use Rattle.cinema_markers.specs.declared.header.MainRead.{MainRead}

-- a segment after SIZ, and what the header's value leaves open of it
pub data MainSegment : Type 0 where
  coding : MainSegment
  quantisation : MainSegment
  progression : MainSegment
  -- Ztlm and Stlm
  lengths : ℕ → ℕ → MainSegment
  comment : List ℕ → MainSegment

-- the sides of the tile, and the segments after SIZ, the last one first
pub record MainWords : Type 0 where
  pub tile_width : ℕ
  pub tile_height : ℕ
  pub segments : List MainSegment

-- SIZ, whose tile may be larger than the image
abbrev pub siz_with : Profile → ℕ → ℕ → ℕ → ℕ → List Field
siz_with profile width height tile_width tile_height =
    Short 0xFF51 ∷ Short 47 ∷ Short (rsiz profile)
    ∷ Long width ∷ Long height ∷ Long 0 ∷ Long 0
    ∷ Long tile_width ∷ Long tile_height ∷ Long 0 ∷ Long 0
    ∷ Short 3 ∷ component ++ component ++ component

-- an entry of TLM by Stlm: whether the index of the tile has 16 bits, and whether the length has 32
abbrev pub entry_with : ℕ → ℕ → List Field
entry_with stlm size =
    (if stlm == 0x20 || stlm == 0x60 then Short 0 else Byte 0)
    ∷ (if stlm == 0x50 || stlm == 0x60 then Long size else Short size) ∷ []

abbrev pub tlm_with : List ℕ → ℕ → ℕ → List Field
tlm_with parts ztlm stlm =
    Short 0xFF55 ∷ Short (4 + entry_size stlm * length parts) ∷ Byte ztlm ∷ Byte stlm
    ∷ flat_map (entry_with stlm) parts

abbrev pub com_head : List ℕ → List Field
com_head content = Short 0xFF64 ∷ Short (2 + length content) ∷ []

-- the bytes of a segment
abbrev pub spelled_segment : MainHeader → MainSegment → List ℕ
spelled_segment m coding = segment (cod m.levels m.flag)
spelled_segment m quantisation = segment (qcd m.levels m.steps)
spelled_segment m progression = segment (poc FourK m.levels)
spelled_segment m (lengths ztlm stlm) = segment (tlm_with m.parts.items ztlm stlm)
spelled_segment m (comment content) = segment (com_head content) ++ content

-- the bytes up to the end of the first of these segments
abbrev pub spelled_upto : MainHeader → MainWords → List MainSegment → List ℕ
spelled_upto m words [] = segment soc
    ++ segment (siz_with m.profile m.width m.height words.tile_width words.tile_height)
spelled_upto m words (s ∷ before) = spelled_upto m words before ++ spelled_segment m s

abbrev pub main_words : MainHeader → MainWords → List ℕ
main_words m words = spelled_upto m words words.segments

-- how many of the segments have a marker
abbrev pub marker_of : MainSegment → ℕ
marker_of coding = 0xFF52
marker_of quantisation = 0xFF5C
marker_of progression = 0xFF5F
marker_of (lengths ztlm stlm) = 0xFF55
marker_of (comment content) = 0xFF64

abbrev pub count_of : ℕ → List MainSegment → ℕ
count_of marker [] = 0
count_of marker (s ∷ segments) =
    if marker_of s == marker then 1 + count_of marker segments else count_of marker segments

-- the places of the lengths of the tile-parts
abbrev pub places_upto : MainHeader → MainWords → List MainSegment → List ℕ
places_upto m words [] = []
places_upto m words (lengths ztlm stlm ∷ before) =
    map (λ i. entry_place (length (spelled_upto m words before)) stlm i + index_size stlm)
    (range_with_len 0 (length m.parts.items))
places_upto m words (coding ∷ before) = places_upto m words before
places_upto m words (quantisation ∷ before) = places_upto m words before
places_upto m words (progression ∷ before) = places_upto m words before
places_upto m words (comment content ∷ before) = places_upto m words before

-- what a segment may be
abbrev pub IsSpelled : List ℕ → MainSegment → Type 0
IsSpelled parts coding = Unit {0}
IsSpelled parts quantisation = Unit {0}
IsSpelled parts progression = Unit {0}
IsSpelled parts (lengths ztlm stlm) =
    (ztlm < 256) × ((stlm ≡ 0x10) ⊎ (stlm ≡ 0x20) ⊎ (stlm ≡ 0x50) ⊎ (stlm ≡ 0x60))
    × AllByRecursion (λ n. n < 256 ^ length_size stlm) parts
IsSpelled parts (comment content) = 2 + length content < 65536

pub record IsStep (guard : ℕ) (step : BandStep) : Type 0 where
  pub exponent : step.exponent < 32
  pub mantissa : step.mantissa < 2048
  pub planes : 1 ≤ planes_of guard step.exponent

-- what a header may say, and in which words
pub record MainFits (m : MainHeader) (words : MainWords) : Type 0 where
  pub some_width : 1 ≤ m.width
  pub width : m.width ≤ max_width_of m.profile
  pub some_height : 1 ≤ m.height
  pub height : m.height ≤ max_height_of m.profile
  pub tile_width : m.width ≤ words.tile_width
  pub tile_height : m.height ≤ words.tile_height
  pub short_width : words.tile_width < 2 ^ 32
  pub short_height : words.tile_height < 2 ^ 32
  pub enough_levels : least_levels_of m.profile ≤ m.levels
  pub few_levels : m.levels ≤ levels_of m.profile
  pub flag : m.flag ≤ 1
  pub guard : m.steps.guard ≤ 7
  pub bands : length m.steps.bands.items ≡ 3 * m.levels + 1
  pub steps : AllByRecursion (IsStep m.steps.guard) m.steps.bands.items
  pub parts : length m.parts.items ≡ parts_of m.profile
  pub each : AllByRecursion (IsSpelled m.parts.items) words.segments
  pub coding : count_of 0xFF52 words.segments ≡ 1
  pub quantisation : count_of 0xFF5C words.segments ≡ 1
  pub progression : count_of 0xFF5F words.segments ≡ (if is_four_k m.profile then 1 else 0)
  pub lengths : count_of 0xFF55 words.segments ≡ 1

-- the bytes begin with a main header, after which the marker SOT stands
pub record HasMain (bytes : List ℕ) (read : MainRead) : Type 0 where
  pub words : MainWords
  pub fits : MainFits read.main words
  pub rest : List ℕ
  pub spelled : bytes ≡ main_words read.main words ++ 0xFF ∷ 0x90 ∷ rest
  pub places : read.parts_at.items ≡ places_upto read.main words words.segments
  pub length_is : read.bytes ≡ length (main_words read.main words)

-- each band has a magnitude bit-plane
abbrev pub HasPlanes : StepSizes → Type 0
HasPlanes steps = All (λ step. 1 ≤ planes_of steps.guard step.exponent) steps.bands.items

-- the words of the writer
abbrev pub written_segments : Profile → List MainSegment
written_segments TwoK = lengths 0 0x50 ∷ quantisation ∷ coding ∷ []
written_segments FourK = lengths 0 0x50 ∷ progression ∷ quantisation ∷ coding ∷ []

abbrev pub written_words : MainHeader → MainWords
written_words m = record {
  tile_width = m.width;
  tile_height = m.height;
  segments =
      written_segments m.profile;
}

-- what is read of a header as it is written
abbrev pub read_of : MainHeader → MainRead
read_of m = record {
  main = m;
  parts_at = record { items = places_upto m (written_words m) (written_segments m.profile) };
  bytes = length (main_words m (written_words m));
}
