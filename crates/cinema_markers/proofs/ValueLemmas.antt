-- A main header that is spelled says what is read at the places of its segments.
use Rattle.std.proofs.Common.{◌≡◌, ℕ, zero, suc, ◌+◌, ◌*◌, ◌/◌, ◌%◌, ◌<◌, ◌≤◌, Bool, true, false}
use Rattle.std.proofs.Common.{◌==◌, ◌||◌, List, [], ◌∷◌, ◌++◌, map, drop, Some, arith, ◌∙◌, sym}
use Rattle.std.proofs.Common.{ap, refl, length, append_assoc, get_or, if◌then◌else◌}
use Rattle.std.specs.Prelude.{slice_index}
use Rattle.std.specs.Option.{unwrap_or}
use Rattle.std.specs.List.{AllByRecursion, flat_map, range_with_len}
use Rattle.std.proofs.lemmas.List.{drop_at}
use Rattle.std.proofs.lemmas.List.FromFn.{fill_by_all}
use Rattle.cine_nums.specs.declared.profile.Profile.{Profile}
use Rattle.cine_nums.specs.Bytes.{word_at, long_at}
use Rattle.cine_nums.specs.Profile.{parts_of}
use Rattle.dz_quantiser.specs.declared.band.BandStep.{BandStep}
use Rattle.dz_quantiser.specs.declared.steps.StepSizes.{StepSizes}
use Rattle.cinema_markers.specs.Fields.{segment}
use Rattle.cinema_markers.specs.Fits.{AreAt}
use Rattle.cinema_markers.specs.MainHeader.{cod, qcd, step_field}
use Rattle.cinema_markers.specs.Tables.{profile_at, entry_place, index_size}
use Rattle.cinema_markers.specs.Reading.{found_in}
use Rattle.cinema_markers.specs.Value.{step_with, band_step, part_place, part_length}
use Rattle.cinema_markers.specs.Value.{main_at}
use Rattle.cinema_markers.specs.Words.{MainSegment, MainWords, coding, quantisation, progression}
use Rattle.cinema_markers.specs.Words.{lengths, comment, siz_with, tlm_with, spelled_segment}
use Rattle.cinema_markers.specs.Words.{spelled_upto, main_words, places_upto, marker_of, count_of}
use Rattle.cinema_markers.specs.Words.{IsSpelled, IsStep, HasMain}
use Rattle.cinema_markers.specs.declared.found.Found.{Found}
use Rattle.cinema_markers.specs.declared.header.MainHeader.{MainHeader}
use Rattle.cinema_markers.specs.declared.header.MainRead.{MainRead}
use Rattle.cinema_markers.proofs.Spelled.{are_at, entry, size, after_entry, one_further}
use Rattle.cinema_markers.proofs.Spelled.{none_further}
use Rattle.cinema_markers.proofs.Spelled.{siz_fit}
use Rattle.cinema_markers.proofs.Standing.{AreMarked, keeps_cod, keeps_qcd, chain_marked, siz_found}
use Rattle.cinema_markers.proofs.HasStands.{places_of, steps_fit, few_levels, chain_of, profile_is}
use Rattle.cinema_markers.proofs.HasStands.{tlm_fields}
use Rattle.cinema_markers.proofs.HasEnd.{present, is_coding, is_quantisation, cod_fields}
use Rattle.cinema_markers.proofs.HasEnd.{qcd_fields}

-- The steps of QCD.

same_step : (n : ℕ) (step : BandStep) → n ≡ step.exponent * 2048 + step.mantissa →
    step.mantissa < 2048 → step ≡ step_with n
same_step n step is small =
    let mk : ℕ → ℕ → BandStep = λ e m. record { exponent = e; mantissa = m } in
    let exponent : step.exponent ≡ n / 2048 = omega arith in
    let mantissa : step.mantissa ≡ n % 2048 = omega arith in
    ap (λ e. mk e step.mantissa) exponent ∙ ap (λ m. mk (n / 2048) m) mantissa

steps_are : (bytes : List ℕ) (at off guard : ℕ) (bands : List BandStep) →
    AreAt bytes at off (map step_field bands) → AllByRecursion (IsStep guard) bands →
    (i : ℕ) (d : BandStep) → i < length bands →
    get_or bands i d ≡ step_with (word_at bytes (at + (off + 2 * i)))
steps_are bytes at off guard [] f each i d below = absurd (omega arith)
steps_are bytes at off guard (step ∷ bands) (here, f) (fit, each) zero d below =
    same_step (word_at bytes (at + (off + 2 * 0))) step
    (ap (λ o. word_at bytes (at + o)) (none_more off) ∙ here) fit.mantissa
  where
    none_more : (n : ℕ) → n + 2 * 0 ≡ n
    none_more n = omega arith
steps_are bytes at off guard (step ∷ bands) (here, f) (fit, each) (suc i) d below =
    steps_are bytes at (off + 2) guard bands f each i d (omega arith)
    ∙ ap (λ o. step_with (word_at bytes (at + o))) (further off i)
  where
    further : (n i : ℕ) → n + 2 + 2 * i ≡ n + 2 * suc i
    further n i = omega arith

bands_are : (bytes : List ℕ) (at levels : ℕ) (steps : StepSizes) →
    AreAt bytes at 0 (qcd levels steps) →
    length steps.bands.items ≡ 3 * levels + 1 →
    AllByRecursion (IsStep steps.guard) steps.bands.items →
    steps.bands.items ≡ map (band_step bytes at) (range_with_len 0 (3 * levels + 1))
bands_are bytes at levels steps f count each =
    let none : BandStep = record { exponent = 0; mantissa = 0 } in
    fill_by_all (band_step bytes at) steps.bands.items (3 * levels + 1) none count
    (λ k below. steps_are bytes at 5 steps.guard steps.bands.items f.1.1.1 each k none
    (omega arith))

-- The lengths of TLM.

abbrev length_here : Bool → Bool → List ℕ → ℕ → ℕ
length_here b c bytes place =
    if c then long_at bytes (place + (if b then 2 else 1)) else word_at bytes
    (place + (if b then 2 else 1))

first_length : (b c : Bool) (bytes : List ℕ) (at off n : ℕ) (rest : List ℕ) →
    AreAt bytes at off (flat_map (entry b c) (n ∷ rest)) → n ≡ length_here b c bytes (at + off)
first_length true true bytes at off n rest f = sym f.1.0 ∙ ap (long_at bytes) (omega arith)
first_length true false bytes at off n rest f = sym f.1.0 ∙ ap (word_at bytes) (omega arith)
first_length false true bytes at off n rest f = sym f.1.0 ∙ ap (long_at bytes) (omega arith)
first_length false false bytes at off n rest f = sym f.1.0 ∙ ap (word_at bytes) (omega arith)

lengths_are : (b c : Bool) (bytes : List ℕ) (at off : ℕ) (parts : List ℕ) →
    AreAt bytes at off (flat_map (entry b c) parts) → (i : ℕ) → i < length parts →
    get_or parts i 0 ≡ length_here b c bytes (at + (off + i * size b c))
lengths_are b c bytes at off [] f i below = absurd (omega arith)
lengths_are b c bytes at off (n ∷ parts) f zero below =
    first_length b c bytes at off n parts f
    ∙ ap (λ o. length_here b c bytes (at + o)) (sym (none_further off (size b c)))
lengths_are b c bytes at off (n ∷ parts) f (suc i) below =
    lengths_are b c bytes at (off + size b c) parts
    (after_entry b c bytes at off n (flat_map (entry b c) parts) f) i (omega arith)
    ∙ ap (λ o. length_here b c bytes (at + o)) (sym (one_further off i (size b c)))

parts_are : (bytes parts : List ℕ) (at ztlm stlm count : ℕ) →
    AreAt bytes at 0 (tlm_with parts ztlm stlm) →
    length parts ≡ count → parts ≡ map (part_length bytes at) (range_with_len 0 count)
parts_are bytes parts at ztlm stlm count f many =
    let b = stlm == 0x20 || stlm == 0x60 in
    let c = stlm == 0x50 || stlm == 0x60 in
    let kind : stlm ≡ slice_index bytes (at + 5) = sym f.1.1.1.0 in
    fill_by_all (part_length bytes at) parts count 0 many (λ k below.
    lengths_are b c bytes at 6 parts f.1.1.1.1 k (omega arith)
    ∙ ap (λ s. length_here (s == 0x20 || s == 0x60) (s == 0x50 || s == 0x60) bytes
    (entry_place at s k)) kind)

-- TLM is found, and has the places.
pub record PresentLengths (m : MainHeader) (words : MainWords) (bytes : List ℕ)
    (segments : List MainSegment) (found : Found) : Type 0 where
  pub place : ℕ
  pub ztlm : ℕ
  pub stlm : ℕ
  pub more : List ℕ
  pub found_is : found.tlm ≡ Some place
  pub is : drop place bytes ≡ segment (tlm_with m.parts.items ztlm stlm) ++ more
  pub spelled : IsSpelled m.parts.items (lengths ztlm stlm)
  pub places : places_upto m words segments
      ≡ map (λ i. entry_place place stlm i + index_size stlm)
      (range_with_len 0 (length m.parts.items))

later_lengths : (m : MainHeader) (words : MainWords) (bytes : List ℕ) (s : MainSegment)
    (segments : List MainSegment) → (marker_of s == 0xFF55) ≡ false →
    word_at bytes (length (spelled_upto m words segments)) ≡ marker_of s →
    places_upto m words (s ∷ segments) ≡ places_upto m words segments →
    PresentLengths m words bytes segments (found_in bytes (places_of m words segments)) →
    PresentLengths m words bytes (s ∷ segments) (found_in bytes (places_of m words (s ∷ segments)))
later_lengths m words bytes s segments other marker same p =
    let at = length (spelled_upto m words segments) in
    let found = found_in bytes (places_of m words segments) in
    record {
      place = p.place;
      ztlm = p.ztlm;
      stlm = p.stlm;
      more = p.more;
      found_is =
          ap (λ n. if n == 0xFF55 then Some at else found.tlm) marker
          ∙ ap (λ t. if t then Some at else found.tlm) other ∙ p.found_is;
      is = p.is;
      spelled = p.spelled;
      places = same ∙ p.places;
    }

present_lengths : (m : MainHeader) (words : MainWords) (bytes : List ℕ)
    (segments : List MainSegment)
    (more : List ℕ) → bytes ≡ spelled_upto m words segments ++ more →
    AreMarked bytes segments (places_of m words segments) →
    AllByRecursion (IsSpelled m.parts.items) segments → 1 ≤ count_of 0xFF55 segments →
    PresentLengths m words bytes segments (found_in bytes (places_of m words segments))
present_lengths m words bytes [] more is are each count = absurd (omega arith)
present_lengths m words bytes (lengths ztlm stlm ∷ segments) more is (marker, are)
    (here, each) count =
    let before = spelled_upto m words segments in
    let mine = segment (tlm_with m.parts.items ztlm stlm) in
    let at = length before in
    let found = found_in bytes (places_of m words segments) in
    record {
      place = at;
      ztlm = ztlm;
      stlm = stlm;
      more = more;
      found_is = ap (λ n. if n == 0xFF55 then Some at else found.tlm) marker;
      is = ap (drop at) (is ∙ append_assoc before mine more)
          ∙ drop_at before (mine ++ more) at refl;
      spelled = here;
      places = refl;
    }
present_lengths m words bytes (coding ∷ segments) more is (marker, are) (here, each) count =
    later_lengths m words bytes coding segments refl marker refl
    (present_lengths m words bytes segments (spelled_segment m coding ++ more)
    (is ∙ append_assoc (spelled_upto m words segments)
    (spelled_segment m coding) more) are each count)
present_lengths m words bytes (quantisation ∷ segments) more is (marker, are) (here, each) count =
    later_lengths m words bytes quantisation segments refl marker refl
    (present_lengths m words bytes segments (spelled_segment m quantisation ++ more)
    (is ∙ append_assoc (spelled_upto m words segments)
    (spelled_segment m quantisation) more) are each count)
present_lengths m words bytes (progression ∷ segments) more is (marker, are) (here, each) count =
    later_lengths m words bytes progression segments refl marker refl
    (present_lengths m words bytes segments (spelled_segment m progression ++ more)
    (is ∙ append_assoc (spelled_upto m words segments)
    (spelled_segment m progression) more) are each count)
present_lengths m words bytes (comment content ∷ segments) more is (marker, are)
    (here, each) count =
    later_lengths m words bytes (comment content) segments refl marker refl
    (present_lengths m words bytes segments (spelled_segment m (comment content) ++ more)
    (is ∙ append_assoc (spelled_upto m words segments) (spelled_segment m (comment content)) more)
    are each count)

-- SIZ is spelled at place 2.
siz_there : (m : MainHeader) (words : MainWords) (bytes : List ℕ) (segments : List MainSegment)
    (more : List ℕ) → bytes ≡ spelled_upto m words segments ++ more →
    (rest : List ℕ) × (drop 2 bytes
    ≡ segment (siz_with m.profile m.width m.height words.tile_width words.tile_height) ++ rest)
siz_there m words bytes [] more is = (more, ap (drop 2) is)
siz_there m words bytes (s ∷ segments) more is =
    siz_there m words bytes segments (spelled_segment m s ++ more)
    (is ∙ append_assoc (spelled_upto m words segments) (spelled_segment m s) more)

-- The whole value.
abbrev made : Profile → ℕ → ℕ → ℕ → ℕ → ℕ → List BandStep → List ℕ → List ℕ → ℕ → MainRead
made profile width height levels flag guard bands parts places at = record {
  main = record {
    profile = profile;
    width = width;
    height = height;
    levels = levels;
    flag = flag;
    steps = record { guard = guard; bands = record { items = bands } };
    parts = record { items = parts };
  };
  parts_at = record { items = places };
  bytes = at;
}

same_read : (a b : MainRead) → a.main.profile ≡ b.main.profile → a.main.width ≡ b.main.width →
    a.main.height ≡ b.main.height → a.main.levels ≡ b.main.levels → a.main.flag ≡ b.main.flag →
    a.main.steps.guard ≡ b.main.steps.guard → a.main.steps.bands.items ≡ b.main.steps.bands.items →
    a.main.parts.items ≡ b.main.parts.items → a.parts_at.items ≡ b.parts_at.items →
    a.bytes ≡ b.bytes →
    a ≡ b
same_read a b profile width height levels flag guard bands parts places at =
    let m = a.main in
    let n = b.main in
    let g = m.steps.guard in
    let s = m.steps.bands.items in
    let l = m.parts.items in
    let p = a.parts_at.items in
    ap (λ x. made x m.width m.height m.levels m.flag g s l p a.bytes) profile
    ∙ ap (λ x. made n.profile x m.height m.levels m.flag g s l p a.bytes) width
    ∙ ap (λ x. made n.profile n.width x m.levels m.flag g s l p a.bytes) height
    ∙ ap (λ x. made n.profile n.width n.height x m.flag g s l p a.bytes) levels
    ∙ ap (λ x. made n.profile n.width n.height n.levels x g s l p a.bytes) flag
    ∙ ap (λ x. made n.profile n.width n.height n.levels n.flag x s l p a.bytes) guard
    ∙ ap (λ x. made n.profile n.width n.height n.levels n.flag n.steps.guard x l p a.bytes) bands
    ∙ ap (λ x. made n.profile n.width n.height n.levels n.flag n.steps.guard n.steps.bands.items
    x p a.bytes) parts
    ∙ ap (λ x. made n.profile n.width n.height n.levels n.flag n.steps.guard n.steps.bands.items
    n.parts.items x a.bytes) places
    ∙ ap (λ x. made n.profile n.width n.height n.levels n.flag n.steps.guard n.steps.bands.items
    n.parts.items b.parts_at.items x) at

guard_is : (n guard : ℕ) → n ≡ guard * 32 + 2 → guard ≡ n / 32
guard_is n guard is = omega arith

-- what is read is what is found at the places of the segments
pub value_is : (bytes : List ℕ) (read : MainRead) → (has : HasMain bytes read) →
    read ≡ main_at bytes (found_in bytes
    (places_of read.main has.words has.words.segments)) read.bytes
value_is bytes read has =
    let m = read.main in
    let words = has.words in
    let fits = has.fits in
    let segments = words.segments in
    let places = places_of m words segments in
    let found = found_in bytes places in
    let more = 0xFF ∷ 0x90 ∷ has.rest in
    let is = has.spelled in
    let few = few_levels m.profile m.levels fits.few_levels in
    let count_c = fits.coding in
    let count_q = fits.quantisation in
    let count_t = fits.lengths in
    let are = chain_marked m.profile bytes segments places (length (main_words m words))
    (chain_of m words bytes segments more fits fits.each is) in
    let siz_is = siz_found bytes segments places are in
    let profile : profile_at bytes found.siz ≡ m.profile =
    ap (profile_at bytes) siz_is ∙ (profile_is m words bytes segments more is).1 in
    let siz = siz_there m words bytes segments more is in
    let sf = are_at bytes siz.0 2
    (siz_with m.profile m.width m.height words.tile_width words.tile_height)
    (siz_fit m.width m.height words.tile_width words.tile_height m.profile fits.width fits.height
    fits.short_width fits.short_height) siz.1 in
    let c = present (λ f. f.cod) 0xFF52 keeps_cod m words bytes segments more is are
    (omega arith) in
    let q = present (λ f. f.qcd) 0xFF5C keeps_qcd m words bytes segments more is are
    (omega arith) in
    let t = present_lengths m words bytes segments more is are fits.each (omega arith) in
    let cf : AreAt bytes c.place 0 (cod m.levels m.flag) =
    cod_fields bytes c.more c.place m.levels m.flag few fits.flag
    (c.is ∙ ap (λ s. spelled_segment m s ++ c.more) (is_coding c.s c.kind)) in
    let qf : AreAt bytes q.place 0 (qcd m.levels m.steps) =
    qcd_fields bytes q.more q.place m.levels m.steps few fits.guard
    (steps_fit m.steps.guard m.steps.bands.items fits.steps)
    (q.is ∙ ap (λ s. spelled_segment m s ++ q.more) (is_quantisation q.s q.kind)) in
    let tf : AreAt bytes t.place 0 (tlm_with m.parts.items t.ztlm t.stlm) =
    tlm_fields bytes t.more m.parts.items t.place t.ztlm t.stlm m.profile fits.parts
    t.spelled t.is in
    let levels : m.levels ≡ slice_index bytes (unwrap_or found.cod 0 + 9) =
    sym (ap (λ o. slice_index bytes (unwrap_or o 0 + 9)) c.found_is ∙ cf.1.1.1.1.1.1.0) in
    let bands : m.steps.bands.items
    ≡ map (band_step bytes (unwrap_or found.qcd 0))
    (range_with_len 0 (3 * slice_index bytes (unwrap_or found.cod 0 + 9) + 1)) =
    bands_are bytes q.place m.levels m.steps qf fits.bands fits.steps
    ∙ ap (λ o. map (band_step bytes (unwrap_or o 0)) (range_with_len 0 (3 * m.levels + 1)))
    (sym q.found_is)
    ∙ ap (λ l. map (band_step bytes (unwrap_or found.qcd 0))
    (range_with_len 0 (3 * l + 1))) levels in
    let count : parts_of m.profile ≡ parts_of (profile_at bytes found.siz) =
    ap parts_of (sym profile) in
    let parts : m.parts.items ≡ map (part_length bytes (unwrap_or found.tlm 0))
    (range_with_len 0 (parts_of (profile_at bytes found.siz))) =
    parts_are bytes m.parts.items t.place t.ztlm t.stlm (parts_of (profile_at bytes found.siz)) tf
    (fits.parts ∙ count)
    ∙ ap (λ o. map (part_length bytes (unwrap_or o 0))
    (range_with_len 0 (parts_of (profile_at bytes found.siz)))) (sym t.found_is) in
    let kind : t.stlm ≡ slice_index bytes (t.place + 5) = sym tf.1.1.1.0 in
    let there : read.parts_at.items ≡ map (part_place bytes (unwrap_or found.tlm 0))
    (range_with_len 0 (parts_of (profile_at bytes found.siz))) =
    has.places ∙ t.places
    ∙ ap (λ s. map (λ i. entry_place t.place s i + index_size s)
    (range_with_len 0 (length m.parts.items))) kind
    ∙ ap (λ n. map (part_place bytes t.place) (range_with_len 0 n)) (fits.parts ∙ count)
    ∙ ap (λ o. map (part_place bytes (unwrap_or o 0))
    (range_with_len 0 (parts_of (profile_at bytes found.siz)))) (sym t.found_is) in
    same_read read (main_at bytes found read.bytes) (sym profile)
    (sym (ap (λ o. long_at bytes (unwrap_or o 0 + 6)) siz_is ∙ sf.1.1.1.0))
    (sym (ap (λ o. long_at bytes (unwrap_or o 0 + 10)) siz_is ∙ sf.1.1.1.1.0))
    levels
    (sym (ap (λ o. slice_index bytes (unwrap_or o 0 + 8)) c.found_is ∙ cf.1.1.1.1.1.0))
    (guard_is (slice_index bytes (q.place + 4)) m.steps.guard qf.1.1.0
    ∙ ap (λ o. slice_index bytes (unwrap_or o 0 + 4) / 32) (sym q.found_is))
    bands parts there refl
