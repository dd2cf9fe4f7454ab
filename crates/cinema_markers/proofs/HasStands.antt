-- The segments of a main header that is spelled stand: no row applies to any of them.
use Rattle.std.proofs.Common.{◌≡◌, ◌⊎◌, inl, inr, ℕ, ◌+◌, ◌<◌, ◌≤◌, false, not, ◌==◌, ◌||◌, List}
use Rattle.std.proofs.Common.{[], ◌∷◌, ◌++◌, map, drop, Some, None, arith, ◌∙◌, sym, ap, refl}
use Rattle.std.proofs.Common.{subst, length, length-append, append_assoc}
use Rattle.std.specs.List.{AllByRecursion}
use Rattle.std.proofs.lemmas.List.{drop_at}
use Rattle.cine_nums.specs.declared.profile.Profile.{Profile}
use Rattle.cine_nums.specs.declared.profile.Profile.TheVariants.{TwoK, FourK}
use Rattle.cine_nums.specs.Profile.{levels_of, parts_of}
use Rattle.dz_quantiser.specs.declared.band.BandStep.{BandStep}
use Rattle.cine_nums.specs.Bytes.{word_at}
use Rattle.cinema_markers.specs.Fields.{segment}
use Rattle.cinema_markers.specs.Fits.{AreFit, AreAt}
use Rattle.cinema_markers.specs.MainHeader.{soc, step_field}
use Rattle.cine_nums.specs.Faults.{first_fault}
use Rattle.cinema_markers.specs.Tables.{soc_rows, profile_at}
use Rattle.cinema_markers.specs.Reading.{StandsUpTo}
use Rattle.cinema_markers.specs.Words.{MainSegment, MainWords, coding, quantisation, progression}
use Rattle.cinema_markers.specs.Words.{lengths, comment, siz_with, tlm_with, spelled_segment}
use Rattle.cinema_markers.specs.Words.{spelled_upto, main_words, IsSpelled, IsStep, MainFits}
use Rattle.cinema_markers.specs.Words.{HasMain, marker_of}
use Rattle.cinema_markers.specs.declared.header.MainHeader.{MainHeader}
use Rattle.cinema_markers.specs.declared.header.MainRead.{MainRead}
use Rattle.cinema_markers.proofs.SegmentLaws.{none_is_first, at_least}
use Rattle.cinema_markers.proofs.Spelled.{are_at, tlm_fit, siz_spelled, cod_spelled, qcd_spelled}
use Rattle.cinema_markers.proofs.Spelled.{poc_spelled, tlm_spelled, com_spelled}
use Rattle.cinema_markers.proofs.Standing.{StandsAs, Chain, AreOnce, chain_stands}

-- the places of SIZ and of the segments after it, the last one first
abbrev pub places_of : MainHeader → MainWords → List MainSegment → List ℕ
places_of m words [] = 2 ∷ []
places_of m words (s ∷ segments) =
    length (spelled_upto m words segments) ∷ places_of m words segments

pub steps_fit : (guard : ℕ) (bands : List BandStep) → AllByRecursion (IsStep guard) bands →
    AreFit (map step_field bands)
steps_fit guard [] each = tt
steps_fit guard (step ∷ bands) (here, later) =
    let e = here.exponent in
    let u = here.mantissa in
    (omega arith, steps_fit guard bands later)

pub four : (stlm : ℕ) → (stlm ≡ 0x10) ⊎ (stlm ≡ 0x20) ⊎ (stlm ≡ 0x50) ⊎ (stlm ≡ 0x60) →
    (stlm < 256) × (not (stlm == 0x10 || stlm == 0x20 || stlm == 0x50 || stlm == 0x60) ≡ false)
four stlm (inl is) = (
  omega arith,
  ap
      (λ s. not (s == 0x10 || s == 0x20 || s == 0x50 || s == 0x60)) is,
)
four stlm (inr (inl is)) = (
  omega arith,
  ap
      (λ s. not (s == 0x10 || s == 0x20 || s == 0x50 || s == 0x60)) is,
)
four stlm (inr (inr (inl is))) =
    (omega arith, ap (λ s. not (s == 0x10 || s == 0x20 || s == 0x50 || s == 0x60)) is)
four stlm (inr (inr (inr is))) =
    (omega arith, ap (λ s. not (s == 0x10 || s == 0x20 || s == 0x50 || s == 0x60)) is)

pub few_levels : (p : Profile) (n : ℕ) → n ≤ levels_of p → n ≤ 6
few_levels TwoK n le = omega arith
few_levels FourK n le = le

few_parts : (p : Profile) (n : ℕ) → n ≡ parts_of p → n ≤ 6
few_parts TwoK n e = omega arith
few_parts FourK n e = omega arith

pub tlm_fields : (bytes more parts : List ℕ) (at ztlm stlm : ℕ) (profile : Profile) →
    length parts ≡ parts_of profile → IsSpelled parts (lengths ztlm stlm) →
    drop at bytes ≡ segment (tlm_with parts ztlm stlm) ++ more →
    AreAt bytes at 0 (tlm_with parts ztlm stlm)
tlm_fields bytes more parts at ztlm stlm profile count spelled is =
    are_at bytes more at (tlm_with parts ztlm stlm)
    (tlm_fit parts ztlm stlm (few_parts profile (length parts) count) spelled.0
    (four stlm spelled.1).0 spelled.2) is

-- one segment
segment_stands : (m : MainHeader) (words : MainWords) (bytes more : List ℕ) (at : ℕ)
    (s : MainSegment) → MainFits m words →
    IsSpelled m.parts.items s → at ≤ length bytes → drop at bytes ≡ spelled_segment m s ++ more →
    StandsAs m.profile bytes (marker_of s) at (at + length (spelled_segment m s))
segment_stands m words bytes more at coding fits spelled below is =
    cod_spelled bytes more at m.levels m.flag m.profile below is fits.enough_levels
    fits.few_levels fits.flag
segment_stands m words bytes more at quantisation fits spelled below is =
    qcd_spelled bytes more at m.levels m.steps m.profile below is
    (few_levels m.profile m.levels fits.few_levels) fits.guard fits.bands
    (steps_fit m.steps.guard m.steps.bands.items fits.steps)
segment_stands m words bytes more at progression fits spelled below is =
    (poc_spelled bytes more at m.levels m.profile below is
    (few_levels m.profile m.levels fits.few_levels)).0
segment_stands m words bytes more at (lengths ztlm stlm) fits spelled below is =
    let kind = four stlm spelled.1 in
    tlm_spelled bytes more m.parts.items at ztlm stlm m.profile below is spelled.0 kind.0 kind.1
    fits.parts spelled.2
segment_stands m words bytes more at (comment content) fits spelled below is =
    com_spelled bytes content more at m.profile below spelled is

-- all of them
pub chain_of : (m : MainHeader) (words : MainWords) (bytes : List ℕ) (segments : List MainSegment)
    (more : List ℕ) → MainFits m words →
    AllByRecursion (IsSpelled m.parts.items) segments →
    bytes ≡ spelled_upto m words segments ++ more →
    Chain m.profile bytes segments (places_of m words segments)
    (length (spelled_upto m words segments))
chain_of m words bytes [] more fits each is =
    let siz = segment (siz_with m.profile m.width m.height words.tile_width words.tile_height) in
    let here : drop 2 bytes ≡ siz ++ more = ap (drop 2) is in
    let long : length bytes ≡ length (spelled_upto m words []) + length more = ap length is
    ∙ length-append (spelled_upto m words []) more in (
      refl,
      siz_spelled bytes more 2 m.width m.height words.tile_width words.tile_height m.profile
          (omega arith) here fits.short_width fits.short_height
          fits.some_width fits.width fits.some_height fits.height fits.tile_width fits.tile_height,
      refl,
    )
chain_of m words bytes (s ∷ segments) more fits (here, later) is =
    let front = spelled_upto m words segments in
    let mine = spelled_segment m s in
    let split : bytes ≡ front ++ (mine ++ more) = is ∙ append_assoc front mine more in
    let long : length bytes ≡ length front + length (mine ++ more) = ap length split
    ∙ length-append front (mine ++ more) in
    let there : drop (length front) bytes ≡ mine ++ more = ap (drop (length front)) split
    ∙ drop_at front (mine ++ more) (length front) refl in (
      subst (StandsAs m.profile bytes (marker_of s) (length front)) (sym (length-append front mine))
          (segment_stands m words bytes more (length front) s fits here (omega arith) there),
      chain_of m words bytes segments (mine ++ more) fits later split,
    )

pub profile_is : (m : MainHeader) (words : MainWords) (bytes : List ℕ) (segments : List MainSegment)
    (more : List ℕ) →
    bytes ≡ spelled_upto m words segments ++ more →
    (first_fault (soc_rows bytes) ≡ None) × (profile_at bytes (Some 2) ≡ m.profile)
unfolding soc_rows
profile_is m words bytes [] more is =
    let long : length bytes ≡ length (spelled_upto m words []) + length more = ap length is
    ∙ length-append (spelled_upto m words []) more in (
      none_is_first (soc_rows bytes)
          (at_least (omega arith), (ap (λ l. not (word_at l 0 == 0xFF4F)) is, tt)),
      ap (λ l. profile_at l (Some 2)) is ∙ by_profile m.profile,
    )
  where
    by_profile : (p : Profile) → profile_at
        (segment soc ++ segment (siz_with p m.width m.height words.tile_width words.tile_height)
        ++ more) (Some 2) ≡ p
    by_profile TwoK = refl
    by_profile FourK = refl
profile_is m words bytes (s ∷ segments) more is =
    profile_is m words bytes segments (spelled_segment m s ++ more)
    (is ∙ append_assoc (spelled_upto m words segments) (spelled_segment m s) more)

are_once : (m : MainHeader) (words : MainWords) → MainFits m words →
    AreOnce m.profile words.segments
are_once m words fits =
    let a = fits.coding in
    let b = fits.quantisation in
    let c = fits.progression in
    let d = fits.lengths in
    record {
      coding = omega arith;
      quantisation = omega arith;
      progression = omega arith;
      lengths =
          omega arith;
    }

-- the segments of a main header stand up to its end
pub main_stands : (bytes : List ℕ) (read : MainRead) → (has : HasMain bytes read) →
    StandsUpTo bytes (places_of read.main has.words has.words.segments) read.bytes
main_stands bytes read has =
    let m = read.main in
    let words = has.words in
    let places = places_of m words words.segments in
    let more = 0xFF ∷ 0x90 ∷ has.rest in
    let start = profile_is m words bytes words.segments more has.spelled in
    subst (StandsUpTo bytes places) (sym has.length_is)
    (chain_stands m.profile bytes words.segments places (length (main_words m words)) start.0
    (chain_of m words bytes words.segments more has.fits has.fits.each has.spelled)
    (are_once m words has.fits) start.1)
