-- A header to whose segments no row applies is spelled by what is read at their places.
use Rattle.std.proofs.Common.{◌≡◌, ◌⊎◌, inl, inr, ℕ, zero, suc, ◌+◌, ◌-◌, ◌*◌, ◌^◌, ◌<◌, ◌≤◌, Bool}
use Rattle.std.proofs.Common.{true}
use Rattle.std.proofs.Common.{false, not, ◌==◌, ◌&&◌, ◌||◌, is_some, None, List, ◌∷◌, ◌++◌, map}
use Rattle.std.proofs.Common.{take, drop, length}
use Rattle.std.proofs.Common.{Some, arith, ◌∙◌, sym, ap, refl, subst}
use Rattle.std.proofs.Common.{length-drop, if◌then◌else◌}
use Rattle.std.specs.Prelude.{slice_index}
use Rattle.std.specs.Option.{unwrap_or}
use Rattle.std.specs.List.{AllByRecursion, range_with_len}
use Rattle.std.proofs.lemmas.Bool.Decides.{nat_tests}
use Rattle.std.proofs.lemmas.List.{length-map, length-take-le}
use Rattle.std.proofs.lemmas.List.FromFn.{length-range_with_len}
use Rattle.cine_nums.specs.declared.profile.Profile.{Profile}
use Rattle.cine_nums.specs.declared.profile.Profile.TheVariants.{TwoK, FourK}
use Rattle.cine_nums.specs.Bytes.{word_at, long_at}
use Rattle.cine_nums.specs.Faults.{first_fault}
use Rattle.cine_nums.specs.Profile.{is_four_k, parts_of}
use Rattle.cinema_markers.specs.Fields.{segment}
use Rattle.cinema_markers.specs.Fits.{AreAt, widths}
use Rattle.cinema_markers.specs.MainHeader.{cod, qcd, poc, step_field}
use Rattle.cinema_markers.specs.Tables.{is_allowed, profile_at, entry_size}
use Rattle.cinema_markers.specs.Tables.{length_size, is_change, change_rows, poc_rows, tlm_rows}
use Rattle.cinema_markers.specs.Reading.{found_in, StandsUpTo}
use Rattle.cinema_markers.specs.Value.{band_step, steps_at, part_length, part_place, main_at}
use Rattle.cinema_markers.specs.Words.{MainSegment, coding, quantisation, progression}
use Rattle.cinema_markers.specs.Words.{lengths, comment, com_head, tlm_with, spelled_segment}
use Rattle.cinema_markers.specs.Words.{IsSpelled}
use Rattle.cinema_markers.specs.declared.fields.Field.{Field}
use Rattle.cinema_markers.specs.declared.found.Found.{Found}
use Rattle.cinema_markers.specs.declared.header.MainHeader.{MainHeader}
use Rattle.cinema_markers.proofs.FieldLaws.{AreBytes, at_are_spelled}
use Rattle.cinema_markers.proofs.SegmentLaws.{none_apply, same, cod_is_read}
use Rattle.cinema_markers.proofs.Spelled.{step_widths, entry_widths, same_widths}
use Rattle.cinema_markers.proofs.Standing.{keeps_cod, keeps_qcd, keeps_poc, keeps_tlm}
use Rattle.cinema_markers.proofs.ReadBack.{qcd_is_read, change_is, poc_is_read, com_is_read}
use Rattle.cinema_markers.proofs.ReadBack.{tlm_is_read, lengths_at}
use Rattle.cinema_markers.proofs.FoundLemmas.{PassedAs, passed_as, siz_is_found, IsKept}
use Rattle.cinema_markers.proofs.FoundLemmas.{earlier_kept}
use Rattle.cinema_markers.proofs.FoundLemmas.{here_kept, kind_cod, kind_qcd, kind_poc, kind_tlm}
use Rattle.cinema_markers.proofs.FoundLemmas.{StandsAt}
use Rattle.cinema_markers.proofs.EndLemmas.{profile_of, cod_here, qcd_here, poc_here, tlm_here}
use Rattle.cinema_markers.proofs.EndLemmas.{AtEnd}

-- the words of the segment at a place
abbrev pub segment_with : List ℕ → ℕ → ℕ → MainSegment
segment_with bytes at marker =
    if marker == 0xFF52 then coding
    else if marker == 0xFF5C then quantisation
    else if marker == 0xFF5F then progression
    else if marker == 0xFF55 then lengths (slice_index bytes (at + 4)) (slice_index bytes (at + 5))
    else comment (take (word_at bytes (at + 2) - 2) (drop (at + 4) bytes))

abbrev pub word_of : List ℕ → ℕ → MainSegment
word_of bytes at = segment_with bytes at (word_at bytes at)

-- the kinds of segments after SIZ
abbrev pub IsKind : ℕ → Type 0
IsKind n = (n ≡ 0xFF52) ⊎ (n ≡ 0xFF5C) ⊎ (n ≡ 0xFF5F) ⊎ (n ≡ 0xFF55) ⊎ (n ≡ 0xFF64)

which : (n : ℕ) → not (is_allowed n) ≡ false → (n ≡ 0xFF51 → ⊥) → (n ≡ 0xFF90 → ⊥) → IsKind n
which n allowed siz sot = grind (arith, nat_tests)

pub kind_of : (bytes : List ℕ) (at next : ℕ) (before : List ℕ) (to : ℕ) →
    StandsUpTo bytes (at ∷ next ∷ before) to → IsKind (word_at bytes at)
kind_of bytes at next before to (stands, passed) =
    let p = passed_as bytes (found_in bytes (next ∷ before)) at to passed in
    which (word_at bytes at) p.allowed
    (no_siz (word_at bytes at) (siz_is_found bytes next before at stands) p.siz) p.further
  where
    no_siz : (n : ℕ) → (found_in bytes (next ∷ before)).siz ≡ Some 2 →
        (n == 0xFF51 && is_some (found_in bytes (next ∷ before)).siz) ≡ false → n ≡ 0xFF51 → ⊥
    no_siz n found twice is =
        let test : (n == 0xFF51 && is_some (found_in bytes (next ∷ before)).siz) ≡ true =
        ap (λ k. k == 0xFF51 && is_some (found_in bytes (next ∷ before)).siz) is
        ∙ ap is_some found in
        cc

-- Fields that are read spell the bytes up to the end of their segment.
fields_back : (bytes : List ℕ) (at to : ℕ) (fields : List Field) → AreBytes bytes →
    AreAt bytes at 0 fields →
    to ≡ at + widths fields → to ≤ length bytes → drop at bytes ≡ segment fields ++ drop to bytes
fields_back bytes at to fields small are end inside =
    let start : at ≡ at + 0 = omega arith in
    let stop : at + 0 + widths fields ≡ to = omega arith in
    ap (λ k. drop k bytes) start
    ∙ at_are_spelled bytes at 0 fields small are (omega arith)
    ∙ ap (λ k. segment fields ++ drop k bytes) stop

-- What is known of a header, for its segments.
pub record Known (bytes : List ℕ) (found : Found) : Type 0 where
  pub small : AreBytes bytes
  pub end : AtEnd bytes found

-- what was found among segments is found among all
pub record AreKept (found before : Found) : Type 0 where
  pub cod : IsKept (λ f. f.cod) found before
  pub qcd : IsKept (λ f. f.qcd) found before
  pub poc : IsKept (λ f. f.poc) found before
  pub tlm : IsKept (λ f. f.tlm) found before

pub earlier_all : (bytes : List ℕ) (found : Found) (at : ℕ) (before : List ℕ) (to : ℕ) →
    StandsUpTo bytes (at ∷ before) to → AreKept found (found_in bytes (at ∷ before)) →
    AreKept found (found_in bytes before)
earlier_all bytes found at before to (stands, passed) kept = record {
  cod = earlier_kept (λ f. f.cod) 0xFF52
      (kind_cod keeps_cod) bytes found at before to passed kept.cod;
  qcd = earlier_kept (λ f. f.qcd) 0xFF5C
      (kind_qcd keeps_qcd) bytes found at before to passed kept.qcd;
  poc = earlier_kept (λ f. f.poc) 0xFF5F
      (kind_poc keeps_poc) bytes found at before to passed kept.poc;
  tlm = earlier_kept (λ f. f.tlm) 0xFF55
      (kind_tlm keeps_tlm) bytes found at before to passed kept.tlm;
}

-- a header's segment is spelled at a place, up to another one
pub record IsBack (m : MainHeader) (bytes : List ℕ) (at to : ℕ) (s : MainSegment) : Type 0 where
  pub spelled : drop at bytes ≡ spelled_segment m s ++ drop to bytes
  pub fits : IsSpelled m.parts.items s

-- COD
cod_widths : (levels flag : ℕ) → widths (cod levels flag) ≡ 15 + levels
cod_widths levels flag = omega (arith, same_widths levels 0x88)

cod_back : (bytes : List ℕ) (found : Found) (end at to : ℕ) → Known bytes found →
    (s : StandsAt bytes 0xFF52 at) → PassedAs bytes (found_in bytes s.before) at to →
    found.cod ≡ Some at → IsBack (main_at bytes found end).main bytes at to coding
cod_back bytes found end at to known s p is =
    let levels = slice_index bytes (at + 9) in
    let flag = slice_index bytes (at + 8) in
    let here = cod_here bytes at s in
    let are = cod_is_read (profile_of bytes) bytes at s.is here.0 here.1 in
    let long : word_at bytes (at + 2) ≡ 13 + levels = are.1.0 in
    let to_is = p.to_is in
    let back : drop at bytes ≡ segment (cod levels flag) ++ drop to bytes =
    fields_back bytes at to (cod levels flag) known.small are
    (omega (arith, cod_widths levels flag)) p.inside in
    record {
      spelled = back ∙ ap (λ o. segment (cod (slice_index bytes (unwrap_or o 0 + 9))
          (slice_index bytes (unwrap_or o 0 + 8))) ++ drop to bytes) (sym is);
      fits = tt;
    }

-- QCD
step_widths_of : (bytes : List ℕ) (at count : ℕ) →
    widths (map step_field (steps_at bytes at count).bands.items) ≡ 2 * count
step_widths_of bytes at count =
    step_widths (steps_at bytes at count).bands.items
    ∙ ap (λ n. 2 * n) (length-map (range_with_len 0 count) (band_step bytes at)
    ∙ length-range_with_len 0 count)

qcd_back : (bytes : List ℕ) (found : Found) (end at to : ℕ) → Known bytes found →
    (s : StandsAt bytes 0xFF5C at) → PassedAs bytes (found_in bytes s.before) at to →
    found.qcd ≡ Some at → IsBack (main_at bytes found end).main bytes at to quantisation
qcd_back bytes found end at to known s p is =
    let levels = slice_index bytes (unwrap_or found.cod 0 + 9) in
    let count = 3 * levels + 1 in
    let long : word_at bytes (at + 2) ≡ 5 + 6 * levels =
    ap (λ o. word_at bytes (unwrap_or o 0 + 2)) (sym is) ∙ known.end.long in
    let are = qcd_is_read bytes at levels s.is (qcd_here bytes at s) long in
    let to_is = p.to_is in
    let back : drop at bytes ≡ segment (qcd levels (steps_at bytes at count)) ++ drop to bytes =
    fields_back bytes at to (qcd levels (steps_at bytes at count)) known.small are
    (omega (arith, step_widths_of bytes at count)) p.inside in
    record {
      spelled = back ∙ ap (λ o. segment (qcd levels (steps_at bytes (unwrap_or o 0) count))
          ++ drop to bytes)
          (sym is);
      fits = tt;
    }

-- POC
is_four : (p : Profile) (n : ℕ) → n ≡ 0xFF5F → (n == 0xFF5F && not (is_four_k p)) ≡ false →
    is_four_k p ≡ true
is_four TwoK n is none = absurd (let e = ap (λ k. k == 0xFF5F && true) is in cc)
is_four FourK n is none = refl

poc_back : (bytes : List ℕ) (found : Found) (end at to : ℕ) → Known bytes found →
    (s : StandsAt bytes 0xFF5F at) → PassedAs bytes (found_in bytes s.before) at to →
    (found_in bytes s.before).siz ≡ Some 2 →
    found.poc ≡ Some at → IsBack (main_at bytes found end).main bytes at to progression
unfolding change_rows poc_rows
poc_back bytes found end at to known s p siz is =
    let levels = slice_index bytes (unwrap_or found.cod 0 + 9) in
    let four = is_four (profile_of bytes) (word_at bytes at) s.is
    (ap (λ o. word_at bytes at == 0xFF5F && not (is_four_k (profile_at bytes o))) (sym siz)
    ∙ p.profile) in
    let changes : first_fault (change_rows bytes levels at) ≡ None =
    ap (λ o. first_fault (change_rows bytes levels (unwrap_or o 0))) (sym is)
    ∙ known.end.changes four in
    let r = none_apply (change_rows bytes levels at) changes in
    let long : word_at bytes (at + 2) ≡ 16 =
    same (none_apply (poc_rows bytes at) (poc_here bytes at s)).0 in
    let are = poc_is_read bytes at levels s.is long
    (change_is bytes (at + 4) 0 levels (not_not (is_change bytes (at + 4) 0 levels) r.0))
    (change_is bytes (at + 11) levels (levels + 1)
    (not_not (is_change bytes (at + 11) levels (levels + 1)) r.1.0)) in
    let to_is = p.to_is in
    record {
      spelled = fields_back bytes at to (poc FourK levels) known.small are (omega arith) p.inside;
      fits = tt;
    }
  where
    not_not : (b : Bool) → not b ≡ false → b ≡ true
    not_not true is = refl
    not_not false is = absurd cc

-- TLM
short_here : (c : Bool) (bytes : List ℕ) (place : ℕ) → AreBytes bytes →
    (if c then long_at bytes place else word_at bytes place) < 256 ^ (if c then 4 else 2)
short_here true bytes place small =
    omega (arith, small place, small (place + 1), small (place + 2), small (place + 2 + 1))
short_here false bytes place small = omega (arith, small place, small (place + 1))

all_short : (f : ℕ → ℕ) (bound i n : ℕ) → ((k : ℕ) → f k < bound) →
    AllByRecursion (λ x. x < bound) (map f (range_with_len i n))
all_short f bound i zero each = tt
all_short f bound i (suc n) each = (each i, all_short f bound (i + 1) n each)

is_style : (n : ℕ) → not (n == 0x10 || n == 0x20 || n == 0x50 || n == 0x60) ≡ false →
    (n ≡ 0x10) ⊎ (n ≡ 0x20) ⊎ (n ≡ 0x50) ⊎ (n ≡ 0x60)
is_style n is = grind (arith, nat_tests)

few_parts : (p : Profile) → parts_of p ≤ 6
few_parts TwoK = omega arith
few_parts FourK = omega arith

tlm_back : (bytes : List ℕ) (found : Found) (end at to : ℕ) → Known bytes found →
    (s : StandsAt bytes 0xFF55 at) → PassedAs bytes (found_in bytes s.before) at to →
    found.tlm ≡ Some at → IsBack (main_at bytes found end).main bytes at to
    (lengths (slice_index bytes (at + 4)) (slice_index bytes (at + 5)))
unfolding tlm_rows
tlm_back bytes found end at to known s p is =
    let ztlm = slice_index bytes (at + 4) in
    let stlm = slice_index bytes (at + 5) in
    let b = stlm == 0x20 || stlm == 0x60 in
    let c = stlm == 0x50 || stlm == 0x60 in
    let count = parts_of (profile_of bytes) in
    let parts = lengths_at bytes at count in
    let here = tlm_here bytes at s in
    let are = tlm_is_read (profile_of bytes) bytes at s.is here.0 here.1 in
    let many : length parts ≡ count =
    length-map (range_with_len 0 count) (part_length bytes at) ∙ length-range_with_len 0 count in
    let long : word_at bytes (at + 2) ≡ 4 + entry_size stlm * length parts = are.1.0 in
    let to_is = p.to_is in
    let r = none_apply (tlm_rows (profile_of bytes) bytes at) here.0 in
    let back : drop at bytes ≡ segment (tlm_with parts ztlm stlm) ++ drop to bytes =
    fields_back bytes at to (tlm_with parts ztlm stlm) known.small are
    (omega (arith, entry_widths b c parts)) p.inside in
    let same_parts : lengths_at bytes at count
    ≡ map (part_length bytes (unwrap_or found.tlm 0))
    (range_with_len 0 (parts_of (profile_at bytes found.siz))) =
    ap (λ o. map (part_length bytes (unwrap_or o 0)) (range_with_len 0 count)) (sym is)
    ∙ ap (λ o. map (part_length bytes (unwrap_or found.tlm 0))
    (range_with_len 0 (parts_of (profile_at bytes o)))) (sym known.end.siz) in
    let short : AllByRecursion (λ n. n < 256 ^ length_size stlm) parts =
    all_short (part_length bytes at) (256 ^ length_size stlm) 0 count
    (λ k. short_here c bytes (part_place bytes at k) known.small) in
    record {
      spelled = back ∙ ap (λ l. segment (tlm_with l ztlm stlm) ++ drop to bytes) same_parts;
      fits = (
        known.small (at + 4),
        is_style stlm r.1.0,
        subst (λ l. AllByRecursion (λ n. n < 256 ^ length_size stlm) l) same_parts short,
      );
    }

-- COM
com_back : (bytes : List ℕ) (m : MainHeader) (at to : ℕ) → AreBytes bytes →
    (s : StandsAt bytes 0xFF64 at) →
    PassedAs bytes (found_in bytes s.before) at to →
    IsBack m bytes at to (comment (take (word_at bytes (at + 2) - 2) (drop (at + 4) bytes)))
com_back bytes m at to small s p =
    let n = word_at bytes (at + 2) - 2 in
    let content = take n (drop (at + 4) bytes) in
    let to_is = p.to_is in
    let inside = p.inside in
    let some = p.some in
    let left : length (drop (at + 4) bytes) ≡ length bytes - (at + 4) =
    length-drop (at + 4) bytes in
    let many : length content ≡ n = length-take-le n (drop (at + 4) bytes) (omega arith) in
    let back = com_is_read bytes at small s.is some (omega arith) in
    record {
      spelled = back ∙ ap (λ k. (segment (com_head content) ++ content) ++ drop k bytes)
          (sym to_is);
      fits = omega (arith, small (at + 2), small (at + 2 + 1));
    }

-- The segment at a place, by its kind.
pub segment_back : (bytes : List ℕ) (found : Found) (end at next : ℕ) (before : List ℕ) (to : ℕ) →
    Known bytes found → StandsUpTo bytes (at ∷ next ∷ before) to →
    AreKept found (found_in bytes (at ∷ next ∷ before)) →
    IsBack (main_at bytes found end).main bytes at to (word_of bytes at)
segment_back bytes found end at next before to known stands kept =
    by_kind (kind_of bytes at next before to stands)
  where
    passed : PassedAs bytes (found_in bytes (next ∷ before)) at to
    passed = passed_as bytes (found_in bytes (next ∷ before)) at to stands.1

    there : (marker : ℕ) → word_at bytes at ≡ marker → StandsAt bytes marker at
    there marker is = record { before = next ∷ before; to = to; stands = stands; is = is }

    turn : (marker : ℕ) → word_at bytes at ≡ marker →
        IsBack (main_at bytes found end).main bytes at to (segment_with bytes at marker) →
        IsBack (main_at bytes found end).main bytes at to (word_of bytes at)
    turn marker is back =
        subst (λ n. IsBack (main_at bytes found end).main bytes at to (segment_with bytes at n))
        (sym is) back

    by_kind : IsKind (word_at bytes at) →
        IsBack (main_at bytes found end).main bytes at to (word_of bytes at)
    by_kind (inl is) =
        turn 0xFF52 is (cod_back bytes found end at to known (there 0xFF52 is) passed
        (here_kept (λ f. f.cod) 0xFF52 (kind_cod keeps_cod) bytes found at
        (next ∷ before) is kept.cod))
    by_kind (inr (inl is)) =
        turn 0xFF5C is (qcd_back bytes found end at to known (there 0xFF5C is) passed
        (here_kept (λ f. f.qcd) 0xFF5C (kind_qcd keeps_qcd) bytes found at
        (next ∷ before) is kept.qcd))
    by_kind (inr (inr (inl is))) =
        turn 0xFF5F is (poc_back bytes found end at to known (there 0xFF5F is) passed
        (siz_is_found bytes next before at stands.0)
        (here_kept (λ f. f.poc) 0xFF5F (kind_poc keeps_poc) bytes found at
        (next ∷ before) is kept.poc))
    by_kind (inr (inr (inr (inl is)))) =
        turn 0xFF55 is (tlm_back bytes found end at to known (there 0xFF55 is) passed
        (here_kept (λ f. f.tlm) 0xFF55 (kind_tlm keeps_tlm) bytes found at
        (next ∷ before) is kept.tlm))
    by_kind (inr (inr (inr (inr is)))) =
        turn 0xFF64 is (com_back bytes (main_at bytes found end).main at to known.small
        (there 0xFF64 is) passed)
