-- What the words of a codestream stand for: its main header, the one geometry of it, and its
-- tile-parts after it.
use Rattle.std.proofs.Common.{◌≡◌, ℕ, ◌+◌, ◌≤◌, ◌<◌, List, [], ◌∷◌, ◌++◌, length, drop, refl}
use Rattle.std.proofs.Common.{ap, sym, subst, ◌∙◌, arith, length-append}
use Rattle.std.specs.Prelude.{sum}
use Rattle.std.specs.List.{All}
use Rattle.std.proofs.lemmas.List.{drop-drop, drop_at}
use Rattle.std.proofs.lemmas.List.Elements.{All-from_recursion, All-weaker}
use Rattle.std.proofs.lemmas.List.FromFn.{length-map-range_with_len}
use Rattle.std.proofs.lemmas.List.Sums.{sum_by-cons}
use mathlib.Core.HLevel.{is_prop→PathP}
use native.Mathlib.Bridge.{le_prop}
use Rattle.cine_nums.specs.Profile.{levels_of, least_levels_of, max_width_of, max_height_of}
use Rattle.cine_nums.specs.Profile.{parts_of}
use Rattle.cine_nums.specs.declared.profile.Profile.{Profile}
use Rattle.cine_nums.specs.declared.profile.Profile.TheVariants.{TwoK, FourK}
use Rattle.band_geometry.specs.declared.geometry.Geometry.{Geometry}
use Rattle.cinema_markers.specs.Tables.{entry_place, index_size}
use Rattle.cinema_markers.specs.Words.{HasMain, IsStep, MainSegment, MainWords, count_of, main_words}
use Rattle.cinema_markers.specs.Words.{places_upto, spelled_upto}
use Rattle.cinema_markers.specs.Words.{coding, quantisation, progression, lengths, comment}
use Rattle.cinema_markers.specs.declared.header.MainHeader.{MainHeader}
use Rattle.cinema_markers.specs.declared.header.MainRead.{MainRead}
use Rattle.dz_quantiser.specs.Bands.{planes_of}
use Rattle.dz_quantiser.specs.declared.band.BandStep.{BandStep}
use Rattle.dz_quantiser.specs.declared.steps.StepSizes.{StepSizes}
use Rattle.profile_reader.specs.Reads.{Stream, StreamFits, stream_bytes, IsGeometryOfHeader}
use Rattle.profile_reader.specs.Words.{PartWhole, PartsFit, part_bytes, parts_bytes}
use Rattle.tile_parts.specs.Head.{eoc}
use Rattle.codestream_reader.specs.Spans.{AreReadable}
use Rattle.codestream_reader.specs.Standing.{PartsStand}
use Rattle.codestream_reader.proofs.PartsStanding.{part_length}

-- the geometry of a main header

geometry_once : (g h : Geometry) → g.profile ≡ h.profile → g.levels ≡ h.levels →
    g.width ≡ h.width → g.height ≡ h.height → g ≡ h
geometry_once g h p l w v = λ i. record {
  profile = p i;
  levels = l i;
  width = w i;
  height = v i;
  enough_levels = is_prop→PathP (λ j. least_levels_of (p j) ≤ l j)
      (λ j. le_prop) g.enough_levels h.enough_levels i;
  few_levels = is_prop→PathP (λ j. l j ≤ levels_of (p j))
      (λ j. le_prop) g.few_levels h.few_levels i;
  some_width = is_prop→PathP (λ j. 1 ≤ w j) (λ j. le_prop) g.some_width h.some_width i;
  width_in_profile = is_prop→PathP (λ j. w j ≤ max_width_of (p j))
      (λ j. le_prop) g.width_in_profile h.width_in_profile i;
  some_height = is_prop→PathP (λ j. 1 ≤ v j) (λ j. le_prop) g.some_height h.some_height i;
  height_in_profile = is_prop→PathP (λ j. v j ≤ max_height_of (p j))
      (λ j. le_prop) g.height_in_profile h.height_in_profile i;
}

pub header_once : (m n : MainHeader) (g h : Geometry) → IsGeometryOfHeader m g →
    IsGeometryOfHeader n h → m ≡ n → g ≡ h
header_once m n g h of_m of_n same = geometry_once g h
    (of_m.profile ∙ ap (λ (k : MainHeader). k.profile) same ∙ sym of_n.profile)
    (of_m.levels ∙ ap (λ (k : MainHeader). k.levels) same ∙ sym of_n.levels)
    (of_m.width ∙ ap (λ (k : MainHeader). k.width) same ∙ sym of_n.width)
    (of_m.height ∙ ap (λ (k : MainHeader). k.height) same ∙ sym of_n.height)

-- what is read of the main header of a codestream
unfoldable pub main_read : Stream → MainRead
main_read s = record {
  main = s.main;
  parts_at = record { items = places_upto s.main s.words s.words.segments };
  bytes = length (main_words s.main s.words);
}

-- the first tile-part begins with SOT
begins : (g : Geometry) (steps : StepSizes) (index count : ℕ) (sizes : List ℕ)
    (parts : List PartWhole) (tail : List ℕ) → 1 ≤ length sizes →
    PartsFit g steps index count sizes parts →
    (rest : List ℕ) × (parts_bytes index parts ++ tail ≡ 0xFF ∷ 0x90 ∷ rest)
unfolding PartsFit parts_bytes
begins g steps index count [] parts tail some fits = absurd (omega (arith, some))
begins g steps index count (size ∷ sizes) [] tail some fits = absurd fits
begins g steps index count (size ∷ sizes) (w ∷ ws) tail some fits =
    (drop 2 (parts_bytes index (w ∷ ws) ++ tail), refl)

some_parts : (profile : Profile) → 1 ≤ parts_of profile
some_parts TwoK = omega arith
some_parts FourK = omega arith

pub has_main : (bytes : List ℕ) (s : Stream) → StreamFits s → bytes ≡ stream_bytes s →
    HasMain bytes (main_read s)
unfolding main_read
has_main bytes s fits spelled =
    let sizes = s.main.parts.items in
    let some : 1 ≤ length sizes =
    subst (λ n. 1 ≤ n) (sym fits.main.parts) (some_parts s.main.profile) in
    let b = begins s.geometry s.main.steps 0 (length sizes) sizes s.parts eoc some fits.parts in
    record {
      words = s.words;
      fits = fits.main;
      rest = b.0;
      spelled = spelled ∙ ap (λ t. main_words s.main s.words ++ t) b.1;
      places = refl;
      length_is = refl;
    }

-- and its tile-parts stand after it

pub parts_length : (g : Geometry) (steps : StepSizes) (index count : ℕ) (sizes : List ℕ)
    (parts : List PartWhole) → PartsFit g steps index count sizes parts →
    length (parts_bytes index parts) ≡ sum sizes
unfolding PartsFit parts_bytes
parts_length g steps index count [] [] fits = refl
parts_length g steps index count [] (w ∷ ws) fits = absurd fits
parts_length g steps index count (size ∷ sizes) [] fits = absurd fits
parts_length g steps index count (size ∷ sizes) (w ∷ ws) fits =
    let first = part_length index w ∙ fits.0.size_is in
    let later = parts_length g steps (index + 1) count sizes ws fits.1 in
    let total = sum_by-cons (λ (n : ℕ). n) size sizes in
    length-append (part_bytes index w) (parts_bytes (index + 1) ws)
    ∙ omega (arith, first, later, total)

after_main : (bytes : List ℕ) (s : Stream) → bytes ≡ stream_bytes s →
    drop (length (main_words s.main s.words)) bytes ≡ parts_bytes 0 s.parts ++ eoc
after_main bytes s spelled =
    let head = main_words s.main s.words in
    ap (drop (length head)) spelled
    ∙ drop_at head (parts_bytes 0 s.parts ++ eoc) (length head) refl

parts_end : (bytes : List ℕ) (s : Stream) → StreamFits s → bytes ≡ stream_bytes s →
    drop (length (main_words s.main s.words) + sum s.main.parts.items) bytes ≡ eoc
parts_end bytes s fits spelled =
    let head = main_words s.main s.words in
    let sizes = s.main.parts.items in
    sym (drop-drop (sum sizes) (length head) bytes)
    ∙ ap (drop (sum sizes)) (after_main bytes s spelled)
    ∙ drop_at (parts_bytes 0 s.parts) eoc (sum sizes)
    (parts_length s.geometry s.main.steps 0 (length sizes) sizes s.parts fits.parts)

parts_stand : (bytes : List ℕ) (s : Stream) → StreamFits s → bytes ≡ stream_bytes s →
    PartsStand s.geometry s.main.steps bytes (length (main_words s.main s.words))
    (length (main_words s.main s.words) + sum s.main.parts.items) 0 (length s.main.parts.items)
    s.main.parts.items s.parts
parts_stand bytes s fits spelled = record {
  fits = fits.parts;
  bytes_are = after_main bytes s spelled
      ∙ ap (λ t. parts_bytes 0 s.parts ++ t) (sym (parts_end bytes s fits spelled));
  to_is = refl;
}

pub stream_stands : (bytes : List ℕ) (s : Stream) (read : MainRead) (g : Geometry) →
    StreamFits s → bytes ≡ stream_bytes s → read ≡ main_read s → g ≡ s.geometry →
    PartsStand g read.main.steps bytes read.bytes (read.bytes + sum read.main.parts.items) 0
    (length read.main.parts.items) read.main.parts.items s.parts
unfolding main_read
stream_stands bytes s read g fits spelled is is_geometry =
    subst (λ (h : Geometry). PartsStand h read.main.steps bytes read.bytes
    (read.bytes + sum read.main.parts.items) 0 (length read.main.parts.items)
    read.main.parts.items s.parts) (sym is_geometry)
    (subst (λ (r : MainRead). PartsStand s.geometry r.main.steps bytes r.bytes
    (r.bytes + sum r.main.parts.items) 0 (length r.main.parts.items) r.main.parts.items s.parts)
    (sym is) (parts_stand bytes s fits spelled))

pub stream_end : (bytes : List ℕ) (s : Stream) (read : MainRead) → StreamFits s →
    bytes ≡ stream_bytes s → read ≡ main_read s →
    drop (read.bytes + sum read.main.parts.items) bytes ≡ eoc
unfolding main_read
stream_end bytes s read fits spelled is =
    subst (λ (r : MainRead). drop (r.bytes + sum r.main.parts.items) bytes ≡ eoc) (sym is)
    (parts_end bytes s fits spelled)

-- what a main header gives

pub places_count : (m : MainHeader) (words : MainWords) (segments : List MainSegment) →
    1 ≤ count_of 0xFF55 segments → length (places_upto m words segments) ≡ length m.parts.items
places_count m words [] some = absurd (omega (arith, some))
places_count m words (coding ∷ before) some = places_count m words before some
places_count m words (quantisation ∷ before) some = places_count m words before some
places_count m words (progression ∷ before) some = places_count m words before some
places_count m words (lengths ztlm stlm ∷ before) some =
    length-map-range_with_len
    (λ i. entry_place (length (spelled_upto m words before)) stlm i + index_size stlm) 0
    (length m.parts.items)
places_count m words (comment content ∷ before) some = places_count m words before some

pub parts_at_count : (bytes : List ℕ) (read : MainRead) → HasMain bytes read →
    length read.parts_at.items ≡ parts_of read.main.profile
parts_at_count bytes read has =
    ap (λ (l : List ℕ). length l) has.places
    ∙ places_count read.main has.words has.words.segments
    (let once = has.fits.lengths in omega (arith, once))
    ∙ has.fits.parts

pub main_inside : (bytes : List ℕ) (read : MainRead) → HasMain bytes read →
    read.bytes ≤ length bytes
main_inside bytes read has =
    let whole = ap (λ (l : List ℕ). length l) has.spelled
    ∙ length-append (main_words read.main has.words) (0xFF ∷ 0x90 ∷ has.rest) in
    let at = has.length_is in
    omega (arith, whole, at)

pub exponents_fit : (bytes : List ℕ) (read : MainRead) → HasMain bytes read →
    All (λ (step : BandStep). step.exponent < 32) read.main.steps.bands.items
exponents_fit bytes read has =
    All-weaker (IsStep read.main.steps.guard) (λ step. step.exponent < 32)
    (λ step is. is.exponent) read.main.steps.bands.items
    (All-from_recursion (IsStep read.main.steps.guard) read.main.steps.bands.items
    has.fits.steps)

pub readable : (bytes : List ℕ) (read : MainRead) → HasMain bytes read →
    All (λ (step : BandStep). planes_of read.main.steps.guard step.exponent ≤ 31)
    read.main.steps.bands.items → AreReadable read.main.levels read.main.steps
readable bytes read has few = record {
  guard = has.fits.guard;
  count = has.fits.bands;
  each = All-from_recursion (IsStep read.main.steps.guard) read.main.steps.bands.items
      has.fits.steps;
  few = few;
}
