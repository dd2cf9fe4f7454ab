-- Where a main header that is spelled ends, no row applies either.
use Rattle.std.proofs.Common.{◌≡◌, ℕ, zero, suc, ◌+◌, ◌*◌, ◌/◌, ◌<◌, ◌≤◌, Bool, true, false, not}
use Rattle.std.proofs.Common.{◌==◌, ◌&&◌, List, [], ◌∷◌, ◌++◌, map, drop, Option, Some, None}
use Rattle.std.proofs.Common.{is_none, arith, ◌∙◌, sym, ap, refl, subst, length, length-append}
use Rattle.std.proofs.Common.{append_assoc, add-zero, if◌then◌else◌}
use Rattle.std.specs.Prelude.{slice_index}
use Rattle.std.specs.Option.{unwrap_or}
use Rattle.std.specs.List.{AllByRecursion, range_with_len}
use Rattle.std.proofs.lemmas.List.{drop_at}
use Rattle.std.proofs.lemmas.Bool.Decides.{nat_tests}
use Rattle.cine_nums.specs.declared.profile.Profile.{Profile}
use Rattle.cine_nums.specs.declared.profile.Profile.TheVariants.{TwoK, FourK}
use Rattle.dz_quantiser.specs.Bands.{planes_of}
use Rattle.dz_quantiser.specs.declared.band.BandStep.{BandStep}
use Rattle.dz_quantiser.specs.declared.steps.StepSizes.{StepSizes}
use Rattle.cine_nums.specs.Bytes.{word_at}
use Rattle.cinema_markers.specs.Fields.{segment}
use Rattle.cinema_markers.specs.Fits.{AreAt, AreFit}
use Rattle.cinema_markers.specs.MainHeader.{cod, qcd, poc, step_field}
use Rattle.cine_nums.specs.Faults.{first_fault}
use Rattle.cine_nums.specs.Profile.{is_four_k}
use Rattle.cinema_markers.specs.Tables.{marker_rows, missing_rows, band_row, bands_rows, is_change}
use Rattle.cinema_markers.specs.Tables.{change_rows, end_rows, next_rows, room_rows, field_rows}
use Rattle.cinema_markers.specs.Tables.{profile_at, noted}
use Rattle.cinema_markers.specs.Reading.{found_in, EndsAt}
use Rattle.cinema_markers.specs.Words.{MainSegment, MainWords, coding, quantisation, progression}
use Rattle.cinema_markers.specs.Words.{lengths, comment, spelled_segment, spelled_upto, main_words}
use Rattle.cinema_markers.specs.Words.{IsStep, MainFits, HasMain, marker_of, count_of}
use Rattle.cinema_markers.specs.declared.fields.Field.TheVariants.{Short}
use Rattle.cinema_markers.specs.declared.found.Found.{Found}
use Rattle.cinema_markers.specs.declared.header.MainHeader.{MainHeader}
use Rattle.cinema_markers.specs.declared.header.MainRead.{MainRead}
use Rattle.cine_nums.proofs.FaultLemmas.{passed_on}
use Rattle.cinema_markers.proofs.SegmentLaws.{none_is_first, passes, joined, rows_pass}
use Rattle.cinema_markers.proofs.Spelled.{are_at, cod_fit, poc_fit}
use Rattle.cinema_markers.proofs.Standing.{AreMarked, Keeps, keeps_cod, keeps_qcd, keeps_poc}
use Rattle.cinema_markers.proofs.Standing.{keeps_tlm, chain_marked, siz_found, MayStand}
use Rattle.cinema_markers.proofs.Standing.{marker_none}
use Rattle.cinema_markers.proofs.HasStands.{places_of, steps_fit, few_levels, chain_of, profile_is}
use Rattle.cinema_markers.proofs.HasStands.{main_stands}

-- a segment of a kind that is there is found, and spelled where it is found
pub record Present (pick : Found → Option ℕ) (marker : ℕ) (m : MainHeader) (bytes : List ℕ)
    (found : Found) : Type 0 where
  pub place : ℕ
  pub s : MainSegment
  pub more : List ℕ
  pub found_is : pick found ≡ Some place
  pub kind : marker_of s ≡ marker
  pub is : drop place bytes ≡ spelled_segment m s ++ more

count_on : (b : Bool) (n : ℕ) → b ≡ false → 1 ≤ (if b then 1 + n else n) → 1 ≤ n
count_on true n e le = cc
count_on false n e le = le

when_same : (n v : ℕ) → (n == v) ≡ true → n ≡ v
when_same n v e = grind (arith, nat_tests)

pub present : (pick : Found → Option ℕ) (marker : ℕ) → Keeps pick marker →
    (m : MainHeader) (words : MainWords) (bytes : List ℕ)
    (segments : List MainSegment) (more : List ℕ) → bytes ≡ spelled_upto m words segments ++ more →
    AreMarked bytes segments (places_of m words segments) → 1 ≤ count_of marker segments →
    Present pick marker m bytes (found_in bytes (places_of m words segments))
present pick marker keeps m words bytes [] more is are count = absurd (omega arith)
present pick marker keeps m words bytes (s ∷ segments) more is (told, are) count =
    by_test (marker_of s == marker) refl
    (λ some. present pick marker keeps m words bytes segments (spelled_segment m s ++ more)
    (is ∙ append_assoc (spelled_upto m words segments) (spelled_segment m s) more) are some)
  where
    split : bytes ≡ spelled_upto m words segments ++ (spelled_segment m s ++ more)
    split = is ∙ append_assoc (spelled_upto m words segments) (spelled_segment m s) more

    step : (b : Bool) → (marker_of s == marker) ≡ b →
        pick (noted (found_in bytes (places_of m words segments))
        (word_at bytes (length (spelled_upto m words segments)))
        (length (spelled_upto m words segments)))
        ≡ (if b then Some (length (spelled_upto m words segments)) else pick
        (found_in bytes (places_of m words segments)))
    step b e =
        keeps.step (found_in bytes (places_of m words segments))
        (word_at bytes (length (spelled_upto m words segments)))
        (length (spelled_upto m words segments))
        ∙ ap (λ n. if n == marker then Some (length (spelled_upto m words segments)) else pick
        (found_in bytes (places_of m words segments))) told
        ∙ ap (λ t. if t then Some (length (spelled_upto m words segments)) else pick
        (found_in bytes (places_of m words segments))) e

    by_test : (b : Bool) → (marker_of s == marker) ≡ b →
        (1 ≤ count_of marker segments →
        Present pick marker m bytes (found_in bytes (places_of m words segments))) →
        Present pick marker m bytes (found_in bytes (places_of m words (s ∷ segments)))
    by_test true e later =
        record {
          place = length (spelled_upto m words segments);
          s = s;
          more = more;
          found_is = step true e;
          kind = when_same (marker_of s) marker e;
          is = ap (drop (length (spelled_upto m words segments))) split
              ∙ drop_at (spelled_upto m words segments) (spelled_segment m s ++ more)
              (length (spelled_upto m words segments)) refl;
        }
    by_test false e later =
        let p = later (count_on (marker_of s == marker) (count_of marker segments) e count) in
        record {
          place = p.place;
          s = p.s;
          more = p.more;
          found_is = step false e
              ∙ p.found_is;
          kind = p.kind;
          is = p.is;
        }

pub is_coding : (s : MainSegment) → marker_of s ≡ 0xFF52 → s ≡ coding
is_coding coding e = refl
is_coding quantisation e = absurd (omega arith)
is_coding progression e = absurd (omega arith)
is_coding (lengths ztlm stlm) e = absurd (omega arith)
is_coding (comment content) e = absurd (omega arith)

pub is_quantisation : (s : MainSegment) → marker_of s ≡ 0xFF5C → s ≡ quantisation
is_quantisation quantisation e = refl
is_quantisation coding e = absurd (omega arith)
is_quantisation progression e = absurd (omega arith)
is_quantisation (lengths ztlm stlm) e = absurd (omega arith)
is_quantisation (comment content) e = absurd (omega arith)

pub is_progression : (s : MainSegment) → marker_of s ≡ 0xFF5F → s ≡ progression
is_progression progression e = refl
is_progression coding e = absurd (omega arith)
is_progression quantisation e = absurd (omega arith)
is_progression (lengths ztlm stlm) e = absurd (omega arith)
is_progression (comment content) e = absurd (omega arith)

-- the bands of QCD
band_stands : (bytes : List ℕ) (at off guard : ℕ) (bands : List BandStep) →
    AreAt bytes at off (map step_field bands) →
    AllByRecursion (IsStep guard) bands → (i : ℕ) → i < length bands →
    1 ≤ planes_of guard (word_at bytes (at + (off + 2 * i)) / 2048)
band_stands bytes at off guard [] f each i below = absurd (omega arith)
band_stands bytes at off guard (step ∷ bands) (here, f) (fit, each) zero below =
    let p = fit.planes in
    let u = fit.mantissa in
    let told : word_at bytes (at + (off + 2 * 0)) ≡ step.exponent * 2048 + step.mantissa =
    ap (λ o. word_at bytes (at + o)) (none_more off) ∙ here in
    let e : word_at bytes (at + (off + 2 * 0)) / 2048 ≡ step.exponent = omega arith in
    subst (λ n. 1 ≤ planes_of guard n) (sym e) p
  where
    none_more : (n : ℕ) → n + 2 * 0 ≡ n
    none_more n = omega arith
band_stands bytes at off guard (step ∷ bands) (here, f) (fit, each) (suc i) below =
    subst (λ o. 1 ≤ planes_of guard (word_at bytes (at + o) / 2048)) (further off i)
    (band_stands bytes at (off + 2) guard bands f each i (omega arith))
  where
    further : (n i : ℕ) → n + 2 + 2 * i ≡ n + 2 * suc i
    further n i = omega arith

no_zero : (n : ℕ) → 1 ≤ n → (n == 0) ≡ false
no_zero n le = grind (arith, nat_tests)

bands_stand : (bytes : List ℕ) (at levels : ℕ) (steps : StepSizes) →
    AreAt bytes at 0 (qcd levels steps) → steps.guard ≤ 7 →
    length steps.bands.items ≡ 3 * levels + 1 →
    AllByRecursion (IsStep steps.guard) steps.bands.items →
    first_fault (bands_rows bytes levels at) ≡ None
unfolding bands_rows
bands_stand bytes at levels steps f guard count each =
    let style : slice_index bytes (at + 4) ≡ steps.guard * 32 + 2 = f.1.1.0 in
    let bits : slice_index bytes (at + 4) / 32 ≡ steps.guard = omega arith in
    joined (not (word_at bytes (at + 2) == 5 + 6 * levels)) (band_row bytes at 0).fault
    (first_fault (map (band_row bytes at) (range_with_len 0 (3 * levels + 1)))) (passes f.1.0)
    (rows_pass (band_row bytes at) 0 (3 * levels + 1)
    (λ k below. ap (λ g. planes_of g (word_at bytes (at + (5 + 2 * (0 + k))) / 2048) == 0) bits
    ∙ ap (λ j. planes_of steps.guard (word_at bytes (at + (5 + 2 * j)) / 2048) == 0) (zero_plus k)
    ∙ no_zero (planes_of steps.guard (word_at bytes (at + (5 + 2 * k)) / 2048))
    (band_stands bytes at 5 steps.guard steps.bands.items f.1.1.1 each k (omega arith))))
  where
    zero_plus : (k : ℕ) → 0 + k ≡ k
    zero_plus k = omega arith

-- the changes of POC
change_there : (bytes : List ℕ) (p from to : ℕ) → slice_index bytes p ≡ from →
    slice_index bytes (p + 1) ≡ 0 → word_at bytes (p + 2) ≡ 1 →
    slice_index bytes (p + 4) ≡ to → slice_index bytes (p + 5) ≡ 3 → slice_index bytes (p + 6) ≡ 4 →
    not (is_change bytes p from to) ≡ false
change_there bytes p from to a b c d e f =
    ap not (both (both (both (both (both (passed a) (passed b)) (passed c)) (passed d)) (passed e))
    (passed f))
  where
    passed : {n v : ℕ} → n ≡ v → (n == v) ≡ true
    passed {n} {v} is = grind (arith, nat_tests)

    both : {x y : Bool} → x ≡ true → y ≡ true → (x && y) ≡ true
    both {x} {y} a b = ap (λ t. t && y) a ∙ b

first_change : (bytes : List ℕ) (at levels : ℕ) → AreAt bytes at 0 (poc FourK levels) →
    first_fault (change_rows bytes levels at) ≡ None
unfolding change_rows
first_change bytes at levels f =
    let g = f.1.1 in
    let h = g.1.1.1.1.1.1 in
    let b : (j k : ℕ) → j ≡ k → slice_index bytes j ≡ slice_index bytes k =
    λ j k e. ap (slice_index bytes) e in
    let w : (j k : ℕ) → j ≡ k → word_at bytes j ≡ word_at bytes k = λ j k e. ap (word_at bytes) e in
    none_is_first (change_rows bytes levels at) (
      change_there bytes (at + 4) 0 levels g.0 (b (at + 4 + 1) (at + 5) (omega arith) ∙ g.1.0)
          (w (at + 4 + 2) (at + 6) (omega arith) ∙ g.1.1.0)
          (b (at + 4 + 4) (at + 8) (omega arith) ∙ g.1.1.1.0)
          (b (at + 4 + 5) (at + 9) (omega arith) ∙ g.1.1.1.1.0)
          (b (at + 4 + 6) (at + 10) (omega arith) ∙ g.1.1.1.1.1.0),
      (
        change_there bytes (at + 11) levels (levels + 1) h.0
            (b (at + 11 + 1) (at + 12) (omega arith) ∙ h.1.0)
            (w (at + 11 + 2) (at + 13) (omega arith) ∙ h.1.1.0)
            (b (at + 11 + 4) (at + 15) (omega arith) ∙ h.1.1.1.0)
            (b (at + 11 + 5) (at + 16) (omega arith) ∙ h.1.1.1.1.0)
            (b (at + 11 + 6) (at + 17) (omega arith) ∙ h.1.1.1.1.1.0),
        tt,
      ),
    )

pub cod_fields : (bytes more : List ℕ) (at levels flag : ℕ) → levels ≤ 6 → flag ≤ 1 →
    drop at bytes ≡ segment (cod levels flag) ++ more → AreAt bytes at 0 (cod levels flag)
cod_fields bytes more at levels flag few bit is =
    are_at bytes more at (cod levels flag) (cod_fit levels flag few bit) is

pub qcd_fields : (bytes more : List ℕ) (at levels : ℕ) (steps : StepSizes) → levels ≤ 6 →
    steps.guard ≤ 7 → AreFit (map step_field steps.bands.items) →
    drop at bytes ≡ segment (qcd levels steps) ++ more → AreAt bytes at 0 (qcd levels steps)
qcd_fields bytes more at levels steps few guard fit is =
    are_at bytes more at (qcd levels steps) (omega arith, (omega arith, (omega arith, fit))) is

poc_fields : (bytes more : List ℕ) (at levels : ℕ) → levels ≤ 6 →
    drop at bytes ≡ segment (poc FourK levels) ++ more → AreAt bytes at 0 (poc FourK levels)
poc_fields bytes more at levels few is =
    are_at bytes more at (poc FourK levels) (poc_fit levels few) is

-- what is judged at SOT
end_none : (m : MainHeader) (words : MainWords) (bytes more : List ℕ) (at : ℕ) → MainFits m words →
    bytes ≡ main_words m words ++ more →
    AreMarked bytes words.segments (places_of m words words.segments) →
    profile_at bytes (found_in bytes (places_of m words words.segments)).siz ≡ m.profile →
    first_fault (end_rows bytes (found_in bytes (places_of m words words.segments)) at) ≡ None
unfolding end_rows missing_rows
end_none m words bytes more at fits is are told =
    let found = found_in bytes (places_of m words words.segments) in
    let count_c = fits.coding in
    let count_q = fits.quantisation in
    let count_t = fits.lengths in
    let few = few_levels m.profile m.levels fits.few_levels in
    let c = present (λ f. f.cod) 0xFF52 keeps_cod m words bytes words.segments more is are
    (omega arith) in
    let q = present (λ f. f.qcd) 0xFF5C keeps_qcd m words bytes words.segments more is are
    (omega arith) in
    let t = present (λ f. f.tlm) 0xFF55 keeps_tlm m words bytes words.segments more is are
    (omega arith) in
    let cf : AreAt bytes c.place 0 (cod m.levels m.flag) =
    cod_fields bytes c.more c.place m.levels m.flag few fits.flag
    (c.is ∙ ap (λ s. spelled_segment m s ++ c.more) (is_coding c.s c.kind)) in
    let qf : AreAt bytes q.place 0 (qcd m.levels m.steps) =
    qcd_fields bytes q.more q.place m.levels m.steps few fits.guard
    (steps_fit m.steps.guard m.steps.bands.items fits.steps)
    (q.is ∙ ap (λ s. spelled_segment m s ++ q.more) (is_quantisation q.s q.kind)) in
    let levels_are : slice_index bytes (unwrap_or found.cod 0 + 9) ≡ m.levels =
    ap (λ o. slice_index bytes (unwrap_or o 0 + 9)) c.found_is ∙ cf.1.1.1.1.1.1.0 in
    let levels = slice_index bytes (unwrap_or found.cod 0 + 9) in
    let bands : first_fault (bands_rows bytes levels (unwrap_or found.qcd 0)) ≡ None =
    ap (λ o. first_fault (bands_rows bytes levels (unwrap_or o 0))) q.found_is
    ∙ ap (λ l. first_fault (bands_rows bytes l q.place)) levels_are
    ∙ bands_stand bytes q.place m.levels m.steps qf fits.guard fits.bands fits.steps in
    let changes : (p : Profile) → count_of 0xFF5F words.segments ≡ (if is_four_k p then 1 else 0) →
    ((is_four_k p && is_none found.poc) ≡ false)
    × (first_fault (if is_four_k p then change_rows bytes levels (unwrap_or found.poc 0) else [])
    ≡ None) =
    λ p count. by_profile m words bytes more is are few levels levels_are p count in
    let last = changes m.profile fits.progression in
    passed_on (missing_rows bytes found at) (bands_rows bytes levels (unwrap_or found.qcd 0)
    ++ (if is_four_k (profile_at bytes found.siz) then change_rows bytes levels
    (unwrap_or found.poc 0) else []))
    (none_is_first (missing_rows bytes found at) (
      ap is_none c.found_is,
      (
        ap is_none q.found_is,
        (ap (λ p. is_four_k p && is_none found.poc) told ∙ last.0, (ap is_none t.found_is, tt)),
      ),
    ))
    ∙ passed_on (bands_rows bytes levels (unwrap_or found.qcd 0))
    (if is_four_k (profile_at bytes found.siz) then change_rows bytes levels
    (unwrap_or found.poc 0) else []) bands
    ∙ ap (λ p. first_fault (if is_four_k p then change_rows bytes levels
    (unwrap_or found.poc 0) else [])) told ∙ last.1
  where
    by_profile : (m : MainHeader) (words : MainWords) (bytes more : List ℕ) →
        bytes ≡ main_words m words ++ more →
        AreMarked bytes words.segments (places_of m words words.segments) → m.levels ≤ 6 →
        (levels : ℕ) → levels ≡ m.levels →
        (p : Profile) → count_of 0xFF5F words.segments ≡ (if is_four_k p then 1 else 0) →
        ((is_four_k p && is_none (found_in bytes (places_of m words words.segments)).poc) ≡ false)
        × (first_fault (if is_four_k p then change_rows bytes levels
        (unwrap_or (found_in bytes (places_of m words words.segments)).poc 0) else []) ≡ None)
    by_profile m words bytes more is are few levels same TwoK count = (refl, refl)
    by_profile m words bytes more is are few levels same FourK count =
        let p = present (λ f. f.poc) 0xFF5F keeps_poc m words bytes words.segments more is are
        (omega arith) in
        let pf : AreAt bytes p.place 0 (poc FourK m.levels) =
        poc_fields bytes p.more p.place m.levels few
        (p.is ∙ ap (λ s. spelled_segment m s ++ p.more) (is_progression p.s p.kind)) in (
          ap is_none p.found_is,
          ap (λ o. first_fault (change_rows bytes levels (unwrap_or o 0))) p.found_is
              ∙ ap (λ l. first_fault (change_rows bytes l p.place)) same
              ∙ first_change bytes p.place m.levels pf,
        )

-- the marker SOT
sot_stands : (bytes : List ℕ) (segments : List MainSegment) (places : List ℕ) →
    AreMarked bytes segments places →
    MayStand bytes (found_in bytes places) 0xFF90
sot_stands bytes segments places are =
    record {
      first = ap (λ o. is_none o && true) (siz_found bytes segments places are);
      feature = refl;
      allowed = refl;
      profile = refl;
      siz = refl;
      cod = refl;
      qcd = refl;
      poc = refl;
      tlm = refl;
    }

sot_test : (n : ℕ) → n ≡ 0xFF90 → (n == 0xFF90) ≡ true
sot_test n is = ap (λ k. k == 0xFF90) is

-- a main header that is spelled ends where its words do
pub main_ends : (bytes : List ℕ) (read : MainRead) → (has : HasMain bytes read) →
    EndsAt bytes (found_in bytes (places_of read.main has.words has.words.segments)) read.bytes
unfolding next_rows
main_ends bytes read has =
    let m = read.main in
    let to = read.bytes in
    let words = has.words in
    let places = places_of m words words.segments in
    let found = found_in bytes places in
    let more = 0xFF ∷ 0x90 ∷ has.rest in
    let start = profile_is m words bytes words.segments more has.spelled in
    let are = chain_marked m.profile bytes words.segments places (length (main_words m words))
    (chain_of m words bytes words.segments more has.fits has.fits.each has.spelled) in
    let told : profile_at bytes found.siz ≡ m.profile =
    ap (profile_at bytes) (siz_found bytes words.segments places are) ∙ start.1 in
    let there : drop to bytes ≡ more =
    ap (λ n. drop n bytes) has.length_is ∙ ap (drop (length (main_words m words))) has.spelled
    ∙ drop_at (main_words m words) more (length (main_words m words)) refl in
    let f = are_at bytes has.rest to (Short 0xFF90 ∷ []) (omega arith, tt) there in
    let sot : word_at bytes to ≡ 0xFF90 = ap (word_at bytes) (sym (add-zero to)) ∙ f.0 in
    let long : length bytes ≡ length (main_words m words) + (2 + length has.rest) =
    omega (arith, ap length has.spelled, length-append (main_words m words) more) in
    let inside : to + 2 ≤ length bytes = let t = has.length_is in omega arith in
    let other = room_rows bytes to ++ field_rows (profile_at bytes found.siz) bytes to in
    record {
      before = places;
      stands = main_stands bytes read has;
      found_is = refl;
      end = record {
        sot = sot;
        none =
            passed_on (marker_rows bytes found to)
            (if word_at bytes to == 0xFF90 then end_rows bytes found to else other)
            (marker_none bytes found 0xFF90 to inside sot
            (sot_stands bytes words.segments places are))
            ∙ ap (λ b. first_fault (if b then end_rows bytes found to else other))
            (sot_test (word_at bytes to) sot)
            ∙ end_none m words bytes more to has.fits has.spelled are told;
      };
    }
