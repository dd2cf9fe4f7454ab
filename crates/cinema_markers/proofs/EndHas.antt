-- Bytes to which no row applies up to SOT begin with a main header: what is read at the places of
-- its segments, in the words that are read there.
use Rattle.std.proofs.Common.{◌≡◌, ◌⊎◌, inl, inr, ℕ, zero, suc, ◌+◌, ◌-◌, ◌*◌, ◌/◌, ◌<◌, ◌≤◌, Bool}
use Rattle.std.proofs.Common.{true}
use Rattle.std.proofs.Common.{false, not, ◌==◌, ◌&&◌, List, [], ◌∷◌, ◌++◌, map, drop, length}
use Rattle.std.proofs.Common.{Option, Some}
use Rattle.std.proofs.Common.{None, is_some, arith, ◌∙◌, sym, ap, refl, subst, append_assoc}
use Rattle.std.proofs.Common.{length-append, length-drop, if◌then◌else◌}
use Rattle.std.specs.Prelude.{slice_index}
use Rattle.std.specs.Option.{unwrap_or}
use Rattle.std.specs.List.{AllByRecursion, range_with_len}
use Rattle.std.proofs.lemmas.Bool.Decides.{nat_tests}
use Rattle.std.proofs.lemmas.List.{length-map}
use Rattle.std.proofs.lemmas.List.FromFn.{length-range_with_len}
use Rattle.cine_nums.specs.declared.profile.Profile.{Profile}
use Rattle.cine_nums.specs.Bytes.{word_at, long_at}
use Rattle.cine_nums.specs.Faults.{first_fault}
use Rattle.cine_nums.specs.Profile.{is_four_k, parts_of, max_width_of, max_height_of}
use Rattle.cine_nums.specs.Profile.{levels_of, least_levels_of}
use Rattle.cine_nums.proofs.FaultLemmas.{none_of_both}
use Rattle.cinema_markers.specs.Tables.{marker_rows, next_rows, end_rows, room_rows, field_rows}
use Rattle.dz_quantiser.specs.Bands.{planes_of}
use Rattle.cinema_markers.specs.Fields.{segment}
use Rattle.cinema_markers.specs.MainHeader.{soc}
use Rattle.cinema_markers.specs.Tables.{profile_at, profile_with, entry_place, index_size, siz_rows}
use Rattle.cinema_markers.specs.Tables.{siz_size_rows, siz_place_rows, soc_rows}
use Rattle.cinema_markers.specs.Reading.{found_in, StandsUpTo, EndsAt}
use Rattle.cinema_markers.specs.Value.{band_step, part_length, part_place, main_at}
use Rattle.cinema_markers.specs.Words.{MainSegment, MainWords}
use Rattle.cinema_markers.specs.Words.{siz_with, spelled_segment, spelled_upto}
use Rattle.cinema_markers.specs.Words.{main_words, places_upto, marker_of, count_of, IsSpelled}
use Rattle.cinema_markers.specs.Words.{IsStep}
use Rattle.cinema_markers.specs.Words.{MainFits, HasMain}
use Rattle.cinema_markers.specs.declared.fields.Field.TheVariants.{Short}
use Rattle.cinema_markers.specs.declared.found.Found.{Found}
use Rattle.cinema_markers.specs.declared.header.MainHeader.{MainHeader}
use Rattle.cinema_markers.proofs.FieldLaws.{AreBytes, at_are_spelled}
use Rattle.cinema_markers.proofs.SegmentLaws.{none_apply, same, not_below, siz_is_read}
use Rattle.cinema_markers.proofs.Standing.{keeps_cod, keeps_qcd, keeps_poc, keeps_tlm}
use Rattle.cinema_markers.proofs.ReadBack.{words_of}
use Rattle.cinema_markers.proofs.FoundLemmas.{passed_as, siz_is_found, first_is_siz, Kind}
use Rattle.cinema_markers.proofs.FoundLemmas.{kind_cod, kind_qcd, kind_poc, kind_tlm}
use Rattle.cinema_markers.proofs.EndLemmas.{profile_of, SizHere, siz_here, AtEnd, HasSegments}
use Rattle.cinema_markers.proofs.EndLemmas.{has_segments, at_end, cod_of, cod_fits}
use Rattle.cinema_markers.proofs.BackLemmas.{segment_with, word_of, kind_of, Known, AreKept}
use Rattle.cinema_markers.proofs.BackLemmas.{earlier_all, segment_back, IsKind}

-- the words that are read: the sides of the tile, and the segments after SIZ
abbrev words_at : List ℕ → List ℕ → MainWords
words_at bytes before = record {
  tile_width = long_at bytes (2 + 22);
  tile_height = long_at bytes (2 + 26);
  segments = words_of (word_of bytes) before;
}

-- Counts: each kind is there as often as it is found.

marker_is : (bytes : List ℕ) (at next : ℕ) (before : List ℕ) (to : ℕ) →
    StandsUpTo bytes (at ∷ next ∷ before) to → marker_of (word_of bytes at) ≡ word_at bytes at
marker_is bytes at next before to stands = by_kind (kind_of bytes at next before to stands)
  where
    turn : (marker : ℕ) → word_at bytes at ≡ marker →
        marker_of (segment_with bytes at marker) ≡ marker →
        marker_of (word_of bytes at) ≡ word_at bytes at
    turn marker is same = ap (λ n. marker_of (segment_with bytes at n)) is ∙ same ∙ sym is

    by_kind : IsKind (word_at bytes at) → marker_of (word_of bytes at) ≡ word_at bytes at
    by_kind (inl is) = turn 0xFF52 is refl
    by_kind (inr (inl is)) = turn 0xFF5C is refl
    by_kind (inr (inr (inl is))) = turn 0xFF5F is refl
    by_kind (inr (inr (inr (inl is)))) = turn 0xFF55 is refl
    by_kind (inr (inr (inr (inr is)))) = turn 0xFF64 is refl

one_or_none : Option ℕ → ℕ
one_or_none o = if is_some o then 1 else 0

counted_step : (t : Bool) (n at : ℕ) (o : Option ℕ) → n ≡ (if is_some o then 1 else 0) →
    (t && is_some o) ≡ false →
    (if t then 1 + n else n) ≡ (if is_some (if t then Some at else o) then 1 else 0)
counted_step true n at o is once = ap (λ k. 1 + k) (is ∙ ap (λ b. if b then 1 else 0) once)
counted_step false n at o is once = is

counted : (pick : Found → Option ℕ) (marker : ℕ) → Kind pick marker → (bytes : List ℕ) (at : ℕ)
    (before : List ℕ) (to : ℕ) → StandsUpTo bytes (at ∷ before) to →
    count_of marker (words_of (word_of bytes) (at ∷ before))
    ≡ (if is_some (pick (found_in bytes (at ∷ before))) then 1 else 0)
counted pick marker kind bytes at [] to stands =
    let siz = (first_is_siz bytes at to stands).1 in
    let none : pick (found_in bytes (at ∷ [])) ≡ None =
    kind.keeps.step (found_in bytes []) (word_at bytes at) at
    ∙ ap (λ n. if n == marker then Some at else pick (found_in bytes [])) siz
    ∙ ap (λ b. if b then Some at else pick (found_in bytes [])) kind.keeps.not_siz
    ∙ kind.keeps.none in
    ap (λ o. if is_some o then 1 else 0) (sym none)
counted pick marker kind bytes at (next ∷ before) to (stands, passed) =
    let found = found_in bytes (next ∷ before) in
    let rest = words_of (word_of bytes) (next ∷ before) in
    let once = kind.once bytes found at to (passed_as bytes found at to passed) in
    ap (λ n. if n == marker then 1 + count_of marker rest else count_of marker rest)
    (marker_is bytes at next before to (stands, passed))
    ∙ counted_step (word_at bytes at == marker) (count_of marker rest) at (pick found)
    (counted pick marker kind bytes next before at stands) once
    ∙ ap (λ o. if is_some o then 1 else 0) (sym (kind.keeps.step found (word_at bytes at) at))

one_of_kind : (n place : ℕ) (o : Option ℕ) → n ≡ (if is_some o then 1 else 0) → o ≡ Some place →
    n ≡ 1
one_of_kind n place o is there = is ∙ ap (λ p. if is_some p then 1 else 0) there

-- POC is found in headers of the 4K profile alone.
no_poc : (bytes : List ℕ) (at : ℕ) (before : List ℕ) (to : ℕ) → StandsUpTo bytes (at ∷ before) to →
    is_four_k (profile_of bytes) ≡ false → (found_in bytes (at ∷ before)).poc ≡ None
no_poc bytes at [] to stands two =
    ap (λ n. if n == 0xFF5F then Some at else None) (first_is_siz bytes at to stands).1
no_poc bytes at (next ∷ before) to (stands, passed) two =
    let found = found_in bytes (next ∷ before) in
    let p = passed_as bytes found at to passed in
    let siz = siz_is_found bytes next before at stands in
    let other : (word_at bytes at == 0xFF5F) ≡ false =
    by_test (word_at bytes at == 0xFF5F)
    (ap (λ o. word_at bytes at == 0xFF5F && not (is_four_k (profile_at bytes o))) (sym siz)
    ∙ p.profile) in
    ap (λ b. if b then Some at else found.poc) other ∙ no_poc bytes next before at stands two
  where
    by_test : (t : Bool) → (t && not (is_four_k (profile_of bytes))) ≡ false → t ≡ false
    by_test true is = absurd (let e = ap not two in cc)
    by_test false is = refl

-- Bytes up to the end of the segments.

pub record AreBack (m : MainHeader) (words : MainWords) (bytes before : List ℕ)
    (to : ℕ) : Type 0 where
  pub spelled : bytes ≡ spelled_upto m words (words_of (word_of bytes) before) ++ drop to bytes
  pub fits : AllByRecursion (IsSpelled m.parts.items) (words_of (word_of bytes) before)
  pub places : (place : ℕ) → (found_in bytes before).tlm ≡ Some place →
      places_upto m words (words_of (word_of bytes) before)
      ≡ map (part_place bytes place) (range_with_len 0 (length m.parts.items))

-- SOC and SIZ
soc_back : (bytes : List ℕ) → AreBytes bytes → first_fault (soc_rows bytes) ≡ None →
    bytes ≡ segment soc ++ drop 2 bytes
unfolding soc_rows
soc_back bytes small none =
    let r = none_apply (soc_rows bytes) none in
    let two : 2 ≤ length bytes = not_below r.0 in
    at_are_spelled bytes 0 0 soc small (same r.1.0, tt) two

siz_back : (bytes all : List ℕ) (found : Found) (end at to : ℕ) → Known bytes found →
    StandsUpTo bytes (at ∷ []) to →
    bytes ≡ spelled_upto (main_at bytes found end).main (words_at bytes all) [] ++ drop to bytes
unfolding siz_rows siz_size_rows
siz_back bytes all found end at to known stands =
    let s = siz_here bytes at [] to stands in
    let first = first_is_siz bytes at to stands in
    let p = passed_as bytes (found_in bytes []) at to stands.1 in
    let is = known.end.siz in
    let siz = siz_with (profile_with (word_at bytes (2 + 4))) (long_at bytes (2 + 6))
    (long_at bytes (2 + 10))
    (long_at bytes (2 + 22)) (long_at bytes (2 + 26)) in
    let are = siz_is_read bytes 2 s.is s.fields in
    let long : word_at bytes (2 + 2) ≡ 47 = same (none_apply (siz_rows bytes 2) s.fields).0 in
    let to_is : to ≡ 51 = p.to_is ∙ ap (λ n. n + 2 + word_at bytes (n + 2)) first.0
    ∙ ap (λ n. 4 + n) long in
    let inside : 51 ≤ length bytes = let i = p.inside in omega arith in
    let here : drop 2 bytes ≡ segment siz ++ drop to bytes =
    at_are_spelled bytes 2 0 siz known.small are inside
    ∙ ap (λ k. segment siz ++ drop k bytes) (sym to_is) in
    let whole : bytes ≡ segment soc ++ (segment siz ++ drop to bytes) =
    soc_back bytes known.small stands.0.0 ∙ ap (λ t. segment soc ++ t) here in
    whole
    ∙ ap (λ o. segment soc ++ (segment
    (siz_with (profile_at bytes o) (long_at bytes (unwrap_or o 0 + 6))
    (long_at bytes (unwrap_or o 0 + 10)) (long_at bytes (2 + 22)) (long_at bytes (2 + 26)))
    ++ drop to bytes)) (sym is)

-- a segment more
place_is : (bytes front : List ℕ) (at : ℕ) → at ≤ length bytes → bytes ≡ front ++ drop at bytes →
    length front ≡ at
place_is bytes front at inside is =
    let whole : length bytes ≡ length front + length (drop at bytes) =
    ap length is ∙ length-append front (drop at bytes) in
    let left : length (drop at bytes) ≡ length bytes - at = length-drop at bytes in
    omega arith

-- the places of the lengths, in words whose last segment is this one
abbrev ArePlaces : MainHeader → MainWords → List ℕ → ℕ → List MainSegment → MainSegment → Type 0
ArePlaces m words bytes place rest s =
    places_upto m words (s ∷ rest)
    ≡ map (part_place bytes place) (range_with_len 0 (length m.parts.items))

places_more : (m : MainHeader) (words : MainWords) (bytes : List ℕ) (at next : ℕ) (before : List ℕ)
    (to place : ℕ) → StandsUpTo bytes (at ∷ next ∷ before) to →
    length (spelled_upto m words (words_of (word_of bytes) (next ∷ before))) ≡ at →
    ((found_in bytes (next ∷ before)).tlm ≡ Some place →
    places_upto m words (words_of (word_of bytes) (next ∷ before))
    ≡ map (part_place bytes place) (range_with_len 0 (length m.parts.items))) →
    (found_in bytes (at ∷ next ∷ before)).tlm ≡ Some place →
    ArePlaces m words bytes place (words_of (word_of bytes) (next ∷ before)) (word_of bytes at)
places_more m words bytes at next before to place stands here later is =
    by_kind (kind_of bytes at next before to stands)
  where
    turn : (marker : ℕ) → word_at bytes at ≡ marker →
        ArePlaces m words bytes place (words_of (word_of bytes) (next ∷ before))
        (segment_with bytes at marker) →
        ArePlaces m words bytes place (words_of (word_of bytes) (next ∷ before)) (word_of bytes at)
    turn marker e there =
        subst (λ n. ArePlaces m words bytes place (words_of (word_of bytes) (next ∷ before))
        (segment_with bytes at n)) (sym e) there

    step : (marker : ℕ) → word_at bytes at ≡ marker →
        (if marker == 0xFF55 then Some at else (found_in bytes (next ∷ before)).tlm) ≡ Some place
    step marker e =
        sym (ap (λ n. if n == 0xFF55 then Some at else (found_in bytes (next ∷ before)).tlm) e) ∙ is

    unwrapped : Some at ≡ Some place → at ≡ place
    unwrapped e = cc

    by_kind : IsKind (word_at bytes at) →
        ArePlaces m words bytes place (words_of (word_of bytes) (next ∷ before)) (word_of bytes at)
    by_kind (inl e) = turn 0xFF52 e (later (step 0xFF52 e))
    by_kind (inr (inl e)) = turn 0xFF5C e (later (step 0xFF5C e))
    by_kind (inr (inr (inl e))) = turn 0xFF5F e (later (step 0xFF5F e))
    by_kind (inr (inr (inr (inl e)))) =
        turn 0xFF55 e
        (ap (λ p. map (λ i. entry_place p (slice_index bytes (at + 5)) i + index_size
        (slice_index bytes (at + 5)))
        (range_with_len 0 (length m.parts.items))) here
        ∙ ap (λ p. map (part_place bytes p) (range_with_len 0 (length m.parts.items)))
        (unwrapped (step 0xFF55 e)))
    by_kind (inr (inr (inr (inr e)))) = turn 0xFF64 e (later (step 0xFF64 e))

no_tlm : (bytes : List ℕ) (at place : ℕ) → word_at bytes at ≡ 0xFF51 →
    (found_in bytes (at ∷ [])).tlm ≡ Some place → ⊥
no_tlm bytes at place siz is =
    let none : (found_in bytes (at ∷ [])).tlm ≡ None =
    ap (λ n. if n == 0xFF55 then Some at else None) siz in
    cc

-- all segments, in any words with these sides

are_back : (bytes all : List ℕ) (found : Found) (end at : ℕ) (before : List ℕ) (to : ℕ) →
    Known bytes found →
    StandsUpTo bytes (at ∷ before) to → AreKept found (found_in bytes (at ∷ before)) →
    AreBack (main_at bytes found end).main (words_at bytes all) bytes (at ∷ before) to
are_back bytes all found end at [] to known stands kept = record {
  spelled = siz_back bytes all found end at to known stands;
  fits = tt;
  places = λ place is. absurd (no_tlm bytes at place (first_is_siz bytes at to stands).1 is);
}
are_back bytes all found end at (next ∷ before) to known stands kept =
    let m = (main_at bytes found end).main in
    let words = words_at bytes all in
    let front = spelled_upto m words (words_of (word_of bytes) (next ∷ before)) in
    let earlier = are_back bytes all found end next before at known stands.0
    (earlier_all bytes found at (next ∷ before) to stands kept) in
    let last = segment_back bytes found end at next before to known stands kept in
    let p = passed_as bytes (found_in bytes (next ∷ before)) at to stands.1 in
    let to_is = p.to_is in
    let inside = p.inside in
    let here : length front ≡ at = place_is bytes front at (omega arith) earlier.spelled in
    record {
      spelled = earlier.spelled ∙ ap (λ t. front ++ t) last.spelled
          ∙ sym (append_assoc front (spelled_segment m (word_of bytes at)) (drop to bytes));
      fits = (last.fits, earlier.fits);
      places = λ place is. places_more m words bytes at next before to place stands here
          (earlier.places place) is;
    }

-- What the header says is in range.

record SizFits (bytes : List ℕ) : Type 0 where
  some_width : 1 ≤ long_at bytes 8
  width : long_at bytes 8 ≤ max_width_of (profile_of bytes)
  some_height : 1 ≤ long_at bytes 12
  height : long_at bytes 12 ≤ max_height_of (profile_of bytes)
  tile_width : long_at bytes 8 ≤ long_at bytes 24
  tile_height : long_at bytes 12 ≤ long_at bytes 28

siz_fits : (bytes : List ℕ) → SizHere bytes → SizFits bytes
unfolding siz_rows siz_size_rows siz_place_rows
siz_fits bytes s =
    let r = none_apply (siz_rows bytes 2) s.fields in
    let r2 = r.1.1 in
    let r8 = r2.1.1.1.1.1.1 in
    record {
      some_width = some (long_at bytes 8) r2.0;
      width = not_below r2.1.0;
      some_height = some (long_at bytes 12) r2.1.1.0;
      height = not_below r2.1.1.1.0;
      tile_width = not_below r8.0;
      tile_height = not_below r8.1.0;
    }
  where
    some : (n : ℕ) → (n == 0) ≡ false → 1 ≤ n
    some n is = grind (arith, nat_tests)

short_long : (bytes : List ℕ) (at : ℕ) → AreBytes bytes → long_at bytes at < 4294967296
short_long bytes at small = omega
    (arith, small at, small (at + 1), small (at + 2), small (at + 2 + 1))

small_word : (bytes : List ℕ) (at : ℕ) → AreBytes bytes → word_at bytes at < 65536
small_word bytes at small = omega (arith, small at, small (at + 1))

steps_fit_from : (bytes : List ℕ) (qcd guard i n : ℕ) → AreBytes bytes →
    ((k : ℕ) → k < i + n → 1 ≤ planes_of guard (word_at bytes (qcd + (5 + 2 * k)) / 2048)) →
    AllByRecursion (IsStep guard) (map (band_step bytes qcd) (range_with_len i n))
steps_fit_from bytes qcd guard i zero small planes = tt
steps_fit_from bytes qcd guard i (suc n) small planes = (
  record {
    exponent = omega (arith, small_word bytes (qcd + (5 + 2 * i)) small);
    mantissa = omega arith;
    planes = planes i (omega arith);
  },
  steps_fit_from bytes qcd guard (i + 1) n small (λ k below. planes k (omega arith)),
)

four_or_two : (b : Bool) → (b ≡ true) ⊎ (b ≡ false)
four_or_two true = inl refl
four_or_two false = inr refl

progressions : (bytes : List ℕ) (found : Found) (last : ℕ) (before : List ℕ) (at n : ℕ) →
    AtEnd bytes found →
    StandsUpTo bytes (last ∷ before) at → found ≡ found_in bytes (last ∷ before) →
    n ≡ (if is_some (found_in bytes (last ∷ before)).poc then 1 else 0) →
    n ≡ (if is_four_k (profile_of bytes) then 1 else 0)
progressions bytes found last before at n known stands found_is count =
    by_profile (four_or_two (is_four_k (profile_of bytes)))
  where
    by_profile : (is_four_k (profile_of bytes) ≡ true) ⊎ (is_four_k (profile_of bytes) ≡ false) →
        n ≡ (if is_four_k (profile_of bytes) then 1 else 0)
    by_profile (inl four) =
        count ∙ ap (λ f. if is_some f.poc then 1 else 0) (sym found_is)
        ∙ ap (λ o. if is_some o then 1 else 0) (known.poc four)
        ∙ ap (λ b. if b then 1 else 0) (sym four)
    by_profile (inr two) =
        count ∙ ap (λ o. if is_some o then 1 else 0) (no_poc bytes last before at stands two)
        ∙ ap (λ b. if b then 1 else 0) (sym two)

main_fits : (bytes : List ℕ) (found : Found) (at : ℕ) → EndsAt bytes found at →
    (known : Known bytes found) →
    (h : HasSegments bytes found at) →
    AllByRecursion (IsSpelled (main_at bytes found at).main.parts.items)
    (words_of (word_of bytes) (h.last ∷ h.before)) →
    MainFits (main_at bytes found at).main (words_at bytes (h.last ∷ h.before))
main_fits bytes found at ends known h each =
    let end = known.end in
    let siz = siz_fits bytes (siz_here bytes h.last h.before at h.stands) in
    let cod = cod_fits bytes (unwrap_or found.cod 0) (cod_of bytes found at ends end) in
    let levels = slice_index bytes (unwrap_or found.cod 0 + 9) in
    let guard = slice_index bytes (unwrap_or found.qcd 0 + 4) / 32 in
    let byte = known.small (unwrap_or found.qcd 0 + 4) in
    let same_siz : (P : ℕ → Profile → Type 0) → P 2 (profile_of bytes) →
    P (unwrap_or found.siz 0) (profile_at bytes found.siz) =
    λ P there. subst (λ o. P (unwrap_or o 0) (profile_at bytes o)) (sym end.siz) there in
    record {
      some_width = same_siz (λ s p. 1 ≤ long_at bytes (s + 6)) siz.some_width;
      width = same_siz (λ s p. long_at bytes (s + 6) ≤ max_width_of p) siz.width;
      some_height = same_siz (λ s p. 1 ≤ long_at bytes (s + 10)) siz.some_height;
      height = same_siz (λ s p. long_at bytes (s + 10) ≤ max_height_of p) siz.height;
      tile_width = same_siz (λ s p. long_at bytes (s + 6) ≤ long_at bytes 24) siz.tile_width;
      tile_height = same_siz (λ s p. long_at bytes (s + 10) ≤ long_at bytes 28) siz.tile_height;
      short_width = short_long bytes 24 known.small;
      short_height = short_long bytes 28 known.small;
      enough_levels = same_siz (λ s p. least_levels_of p ≤ levels) cod.enough;
      few_levels = same_siz (λ s p. levels ≤ levels_of p) cod.few;
      flag = cod.flag;
      guard = omega arith;
      bands =
          length-map (range_with_len 0 (3 * levels + 1)) (band_step bytes (unwrap_or found.qcd 0))
          ∙ length-range_with_len 0 (3 * levels + 1);
      steps = steps_fit_from bytes (unwrap_or found.qcd 0) guard 0 (3 * levels + 1) known.small
          (λ k below. end.planes k (omega arith));
      parts =
          length-map (range_with_len 0 (parts_of (profile_at bytes found.siz)))
          (part_length bytes (unwrap_or found.tlm 0))
          ∙ length-range_with_len 0 (parts_of (profile_at bytes found.siz));
      each = each;
      coding =
          one_of_kind _ (unwrap_or found.cod 0) (found_in bytes (h.last ∷ h.before)).cod
          (counted (λ f. f.cod) 0xFF52 (kind_cod keeps_cod) bytes h.last h.before at h.stands)
          (ap (λ f. f.cod) (sym h.found_is) ∙ end.cod);
      quantisation =
          one_of_kind _ (unwrap_or found.qcd 0) (found_in bytes (h.last ∷ h.before)).qcd
          (counted (λ f. f.qcd) 0xFF5C (kind_qcd keeps_qcd) bytes h.last h.before at h.stands)
          (ap (λ f. f.qcd) (sym h.found_is) ∙ end.qcd);
      progression =
          progressions bytes found h.last h.before at _ end h.stands h.found_is
          (counted (λ f. f.poc) 0xFF5F (kind_poc keeps_poc) bytes h.last h.before at h.stands)
          ∙ ap (λ o. if is_four_k (profile_at bytes o) then 1 else 0) (sym end.siz);
      lengths =
          one_of_kind _ (unwrap_or found.tlm 0) (found_in bytes (h.last ∷ h.before)).tlm
          (counted (λ f. f.tlm) 0xFF55 (kind_tlm keeps_tlm) bytes h.last h.before at h.stands)
          (ap (λ f. f.tlm) (sym h.found_is) ∙ end.tlm);
    }

-- SOT stands where the segments end
sot_back : (bytes : List ℕ) (at : ℕ) → AreBytes bytes → word_at bytes at ≡ 0xFF90 →
    at + 2 ≤ length bytes →
    drop at bytes ≡ 0xFF ∷ 0x90 ∷ drop (at + 2) bytes
sot_back bytes at small is inside =
    let start : at ≡ at + 0 = omega arith in
    ap (λ k. drop k bytes) start
    ∙ at_are_spelled bytes at 0 (Short 0xFF90 ∷ []) small (ap (word_at bytes) (sym start) ∙ is, tt)
    (omega arith)
    ∙ ap (λ k. 0xFF ∷ 0x90 ∷ drop k bytes) (omega arith)

all_kept : (bytes : List ℕ) (found before : Found) → found ≡ before → AreKept found before
all_kept bytes found before same = record {
  cod = λ p is. ap (λ f. f.cod) same ∙ is;
  qcd = λ p is. ap (λ f. f.qcd) same ∙ is;
  poc = λ p is. ap (λ f. f.poc) same ∙ is;
  tlm = λ p is. ap (λ f. f.tlm) same ∙ is;
}

-- a header that ends is what is read at the places of its segments
pub end_has : (bytes : List ℕ) (found : Found) (at : ℕ) → AreBytes bytes → EndsAt bytes found at →
    HasMain bytes (main_at bytes found at)
unfolding next_rows marker_rows
end_has bytes found at small ends =
    let known : Known bytes found = record { small = small; end = at_end bytes found at ends } in
    let h = has_segments bytes found at ends in
    let m = (main_at bytes found at).main in
    let segments = h.last ∷ h.before in
    let words = words_at bytes segments in
    let back = are_back bytes segments found at h.last h.before at known h.stands
    (all_kept bytes found (found_in bytes segments) h.found_is) in
    let both = none_of_both (marker_rows bytes found at)
    (if word_at bytes at == 0xFF90 then end_rows bytes found at
    else room_rows bytes at ++ field_rows (profile_at bytes found.siz) bytes at) ends.end.none in
    let inside : at + 2 ≤ length bytes =
    not_below (none_apply (marker_rows bytes found at) both.0).0 in
    let there : (found_in bytes segments).tlm ≡ Some (unwrap_or found.tlm 0) =
    ap (λ f. f.tlm) (sym h.found_is) ∙ known.end.tlm in
    let count : length m.parts.items ≡ parts_of (profile_at bytes found.siz) =
    length-map (range_with_len 0 (parts_of (profile_at bytes found.siz)))
    (part_length bytes (unwrap_or found.tlm 0))
    ∙ length-range_with_len 0 (parts_of (profile_at bytes found.siz)) in
    record {
      words = words;
      fits = main_fits bytes found at ends known h back.fits;
      rest = drop (at + 2) bytes;
      spelled = back.spelled ∙ ap (λ t. main_words m words ++ t)
          (sot_back bytes at small ends.end.sot inside);
      places =
          ap (λ n. map (part_place bytes (unwrap_or found.tlm 0)) (range_with_len 0 n)) (sym count)
          ∙ sym (back.places (unwrap_or found.tlm 0) there);
      length_is = sym (place_is bytes (main_words m words) at (omega arith) back.spelled);
    }
