-- What is known of the segments of a header to which no row applies, where it ends.
use Rattle.std.proofs.Common.{◌≡◌, ℕ, ◌+◌, ◌*◌, ◌/◌, ◌<◌, ◌≤◌, Bool, true, false, not, ◌==◌, ◌&&◌}
use Rattle.std.proofs.Common.{List}
use Rattle.std.proofs.Common.{[], ◌∷◌, ◌++◌, map, length, Option, Some, None, is_none, arith, ◌∙◌}
use Rattle.std.proofs.Common.{sym, ap}
use Rattle.std.proofs.Common.{refl, subst, if◌then◌else◌, ◌||◌, nat_lt}
use Rattle.std.proofs.Common.{Result, Ok, Err, IfOk, MatchResult}
use Rattle.std.specs.Prelude.{slice_index}
use Rattle.std.specs.Option.{unwrap_or}
use Rattle.std.specs.List.{range_with_len}
use Rattle.std.proofs.lemmas.Bool.Decides.{nat_tests}
use Rattle.cine_nums.specs.declared.profile.Profile.{Profile}
use Rattle.cine_nums.specs.declared.profile.Profile.TheVariants.{TwoK, FourK}
use Rattle.cine_nums.specs.Bytes.{word_at}
use Rattle.cine_nums.specs.Faults.{Row, row, first_fault}
use Rattle.cine_nums.specs.Profile.{is_four_k, levels_of, least_levels_of, parts_of}
use Rattle.cine_nums.proofs.FaultLemmas.{none_of_both}
use Rattle.dz_quantiser.specs.Bands.{planes_of}
use Rattle.cinema_markers.specs.Tables.{siz_rows, siz_size_rows, cod_rows, cod_style_rows}
use Rattle.cinema_markers.specs.Tables.{cod_order_rows}
use Rattle.cinema_markers.specs.Tables.{cod_block_rows, precinct_rows, qcd_rows, poc_rows, tlm_rows}
use Rattle.cinema_markers.specs.Tables.{tile_rows, field_rows, rows_for, marker_rows, missing_rows}
use Rattle.cinema_markers.specs.Tables.{band_row, bands_rows, change_rows, end_rows, next_rows}
use Rattle.cinema_markers.specs.Tables.{room_rows}
use Rattle.cinema_markers.specs.Tables.{profile_at, entry_size}
use Rattle.cinema_markers.specs.Reading.{found_in, StandsUpTo, EndsAt, HasFault, IsReadable}
use Rattle.cinema_markers.specs.declared.found.Found.{Found}
use Rattle.cinema_markers.specs.declared.refusal.MarkerRefusal.{MarkerRefusal}
use Rattle.cinema_markers.specs.declared.refusal.MarkerRefusal.TheVariants.{BadQcd}
use Rattle.cinema_markers.proofs.SegmentLaws.{none_apply, same, not_below, each_row}
use Rattle.cinema_markers.proofs.Standing.{keeps_cod, keeps_qcd, keeps_tlm}
use Rattle.cinema_markers.proofs.FoundLemmas.{passed_as, siz_is_found, first_is_siz, StandsAt}
use Rattle.cinema_markers.proofs.FoundLemmas.{found_stands, stood_as, stood_after_siz}

-- the profile that SIZ gives
abbrev pub profile_of : List ℕ → Profile
profile_of bytes = profile_at bytes (Some 2)

-- The fields of the segments.

pub cod_here : (bytes : List ℕ) (at : ℕ) → StandsAt bytes 0xFF52 at →
    (first_fault (cod_rows (profile_of bytes) bytes at) ≡ None) ×
    (first_fault (precinct_rows bytes at) ≡ None)
unfolding field_rows
cod_here bytes at s =
    none_of_both (cod_rows (profile_of bytes) bytes at) (precinct_rows bytes at)
    (ap (λ n. first_fault (rows_for (profile_of bytes) bytes at n)) (sym s.is)
    ∙ stood_after_siz bytes 0xFF52 at s refl)

pub qcd_here : (bytes : List ℕ) (at : ℕ) → StandsAt bytes 0xFF5C at →
    first_fault (qcd_rows bytes at) ≡ None
unfolding field_rows
qcd_here bytes at s =
    ap (λ n. first_fault (rows_for (profile_of bytes) bytes at n)) (sym s.is)
    ∙ stood_after_siz bytes 0xFF5C at s refl

pub poc_here : (bytes : List ℕ) (at : ℕ) → StandsAt bytes 0xFF5F at →
    first_fault (poc_rows bytes at) ≡ None
unfolding field_rows
poc_here bytes at s =
    ap (λ n. first_fault (rows_for (profile_of bytes) bytes at n)) (sym s.is)
    ∙ stood_after_siz bytes 0xFF5F at s refl

pub tlm_here : (bytes : List ℕ) (at : ℕ) → StandsAt bytes 0xFF55 at →
    (first_fault (tlm_rows (profile_of bytes) bytes at) ≡ None)
    × (first_fault (tile_rows (profile_of bytes) bytes at) ≡ None)
unfolding field_rows
tlm_here bytes at s =
    none_of_both (tlm_rows (profile_of bytes) bytes at) (tile_rows (profile_of bytes) bytes at)
    (ap (λ n. first_fault (rows_for (profile_of bytes) bytes at n)) (sym s.is)
    ∙ stood_after_siz bytes 0xFF55 at s refl)

-- SIZ at place 2
pub record SizHere (bytes : List ℕ) : Type 0 where
  pub is : word_at bytes 2 ≡ 0xFF51
  pub fields : first_fault (siz_rows bytes 2) ≡ None
  pub inside : 2 + 2 + word_at bytes (2 + 2) ≤ length bytes

pub siz_of_first : (bytes : List ℕ) (at to : ℕ) → StandsUpTo bytes (at ∷ []) to → SizHere bytes
unfolding field_rows
siz_of_first bytes at to stands =
    let first = first_is_siz bytes at to stands in
    let p = passed_as bytes (found_in bytes []) at to stands.1 in
    let is : word_at bytes 2 ≡ 0xFF51 = subst (λ n. word_at bytes n ≡ 0xFF51) first.0 first.1 in
    let fields : first_fault (field_rows TwoK bytes 2) ≡ None =
    subst (λ n. first_fault (field_rows TwoK bytes n) ≡ None) first.0 p.fields in
    let within : at + 2 + word_at bytes (at + 2) ≤ length bytes =
    let e = p.to_is in let i = p.inside in omega arith in
    record {
      is = is;
      fields = ap (λ n. first_fault (rows_for TwoK bytes 2 n)) (sym is) ∙ fields;
      inside = subst (λ n. n + 2 + word_at bytes (n + 2) ≤ length bytes) first.0 within;
    }

pub siz_here : (bytes : List ℕ) (at : ℕ) (before : List ℕ) (to : ℕ) →
    StandsUpTo bytes (at ∷ before) to →
    SizHere bytes
siz_here bytes at [] to stands = siz_of_first bytes at to stands
siz_here bytes at (next ∷ before) to stands = siz_here bytes next before at stands.0

-- What is judged where the header ends.

is_there : (o : Option ℕ) → is_none o ≡ false → o ≡ Some (unwrap_or o 0)
is_there None is = absurd cc
is_there (Some n) is = refl

pub record AtEnd (bytes : List ℕ) (found : Found) : Type 0 where
  pub siz : found.siz ≡ Some 2
  pub cod : found.cod ≡ Some (unwrap_or found.cod 0)
  pub qcd : found.qcd ≡ Some (unwrap_or found.qcd 0)
  pub tlm : found.tlm ≡ Some (unwrap_or found.tlm 0)
  pub poc : is_four_k (profile_of bytes) ≡ true → found.poc ≡ Some (unwrap_or found.poc 0)
  pub long : word_at bytes (unwrap_or found.qcd 0 + 2)
      ≡ 5 + 6 * slice_index bytes (unwrap_or found.cod 0 + 9)
  pub planes : (i : ℕ) → i < 3 * slice_index bytes (unwrap_or found.cod 0 + 9) + 1 →
      1 ≤ planes_of (slice_index bytes (unwrap_or found.qcd 0 + 4) / 32)
      (word_at bytes (unwrap_or found.qcd 0 + (5 + 2 * i)) / 2048)
  pub changes : is_four_k (profile_of bytes) ≡ true → first_fault
      (change_rows bytes (slice_index bytes (unwrap_or found.cod 0 + 9)) (unwrap_or found.poc 0))
      ≡ None

some_planes : (n : ℕ) → (n == 0) ≡ false → 1 ≤ n
some_planes n is = grind (arith, nat_tests)

when_true : (b : Bool) (o : Option ℕ) → (b && is_none o) ≡ false → b ≡ true → is_none o ≡ false
when_true true o is four = is
when_true false o is four = absurd cc

ends_as : (bytes : List ℕ) (found : Found) → found.siz ≡ Some 2 →
    (at : ℕ) → first_fault (end_rows bytes found at) ≡ None → AtEnd bytes found
unfolding end_rows missing_rows bands_rows
ends_as bytes found siz at none =
    let levels = slice_index bytes (unwrap_or found.cod 0 + 9) in
    let qcd = unwrap_or found.qcd 0 in
    let poc = unwrap_or found.poc 0 in
    let last = if is_four_k
    (profile_at bytes found.siz) then change_rows bytes levels poc else [] in
    let a = none_of_both (missing_rows bytes found at) (bands_rows bytes levels qcd ++ last) none in
    let b = none_of_both (bands_rows bytes levels qcd) last a.1 in
    let m = none_apply (missing_rows bytes found at) a.0 in
    let bands = map (band_row bytes qcd) (range_with_len 0 (3 * levels + 1)) in
    let r = none_apply (bands_rows bytes levels qcd) b.0 in
    let rows = none_of_both
    (row (not (word_at bytes (qcd + 2) == 5 + 6 * levels)) (BadQcd qcd) ∷ []) bands b.0 in
    let profile : profile_at bytes found.siz ≡ profile_of bytes = ap (profile_at bytes) siz in
    record {
      siz = siz;
      cod = is_there found.cod m.0;
      qcd = is_there found.qcd m.1.0;
      tlm = is_there found.tlm m.1.1.1.0;
      poc = λ four. is_there found.poc (when_true (is_four_k (profile_of bytes)) found.poc
          (ap (λ p. is_four_k p && is_none found.poc) (sym profile) ∙ m.1.1.0) four);
      long = same r.0;
      planes = λ i below. some_planes
          (planes_of (slice_index bytes (qcd + 4) / 32) (word_at bytes (qcd + (5 + 2 * i)) / 2048))
          (ap (λ j. (band_row bytes qcd j).applies) (plus_zero i)
          ∙ each_row (band_row bytes qcd) 0 (3 * levels + 1) rows.1 i below);
      changes = λ four.
          ap (λ t. first_fault (if t then change_rows bytes levels poc else [])) (sym four)
          ∙ ap (λ p. first_fault (if is_four_k p then change_rows bytes levels poc else []))
          (sym profile)
          ∙ b.1;
    }
  where
    plus_zero : (i : ℕ) → i ≡ 0 + i
    plus_zero i = omega arith

not_sot : (n : ℕ) → n ≡ 0xFF90 → not (n == 0xFF51) ≡ false → ⊥
not_sot n is other = grind (arith, nat_tests)

-- segments stand before the end
pub record HasSegments (bytes : List ℕ) (found : Found) (at : ℕ) : Type 0 where
  pub last : ℕ
  pub before : List ℕ
  pub stands : StandsUpTo bytes (last ∷ before) at
  pub found_is : found ≡ found_in bytes (last ∷ before)

pub has_segments : (bytes : List ℕ) (found : Found) (at : ℕ) → EndsAt bytes found at →
    HasSegments bytes found at
unfolding next_rows marker_rows
has_segments bytes found at ends = by_list ends.before ends.stands ends.found_is
  where
    other : Found → List (Row MarkerRefusal)
    other f =
        if word_at bytes at == 0xFF90 then end_rows bytes f at
        else room_rows bytes at ++ field_rows (profile_at bytes f.siz) bytes at

    by_list : (before : List ℕ) → StandsUpTo bytes before at → found ≡ found_in bytes before →
        HasSegments bytes found at
    by_list [] stands is =
        let none : first_fault (next_rows bytes (found_in bytes []) at) ≡ None =
        ap (λ f. first_fault (next_rows bytes f at)) (sym is) ∙ ends.end.none in
        let both = none_of_both (marker_rows bytes (found_in bytes []) at)
        (other (found_in bytes [])) none in
        let m = none_apply (marker_rows bytes (found_in bytes []) at) both.0 in
        absurd (not_sot (word_at bytes at) ends.end.sot m.1.0)
    by_list (last ∷ before) stands is =
        record { last = last; before = before; stands = stands; found_is = is }

pub at_end : (bytes : List ℕ) (found : Found) (at : ℕ) → EndsAt bytes found at → AtEnd bytes found
unfolding next_rows
at_end bytes found at ends =
    let h = has_segments bytes found at ends in
    let siz : found.siz ≡ Some 2 =
    ap (λ f. f.siz) h.found_is ∙ siz_is_found bytes h.last h.before at h.stands in
    let other = room_rows bytes at ++ field_rows (profile_at bytes found.siz) bytes at in
    let both = none_of_both (marker_rows bytes found at)
    (if word_at bytes at == 0xFF90 then end_rows bytes found at else other) ends.end.none in
    let sot : (word_at bytes at == 0xFF90) ≡ true = ap (λ n. n == 0xFF90) ends.end.sot in
    ends_as bytes found siz at
    (ap (λ b. first_fault (if b then end_rows bytes found at else other)) (sym sot) ∙ both.1)

-- where the segments that are found stand
pub cod_of : (bytes : List ℕ) (found : Found) (at : ℕ) → EndsAt bytes found at → AtEnd bytes found →
    StandsAt bytes 0xFF52 (unwrap_or found.cod 0)
cod_of bytes found at ends known =
    found_stands (λ f. f.cod) 0xFF52 keeps_cod bytes ends.before at
    (unwrap_or found.cod 0) ends.stands
    (ap (λ f. f.cod) (sym ends.found_is) ∙ known.cod)

pub qcd_of : (bytes : List ℕ) (found : Found) (at : ℕ) → EndsAt bytes found at → AtEnd bytes found →
    StandsAt bytes 0xFF5C (unwrap_or found.qcd 0)
qcd_of bytes found at ends known =
    found_stands (λ f. f.qcd) 0xFF5C keeps_qcd bytes ends.before at
    (unwrap_or found.qcd 0) ends.stands
    (ap (λ f. f.qcd) (sym ends.found_is) ∙ known.qcd)

pub tlm_of : (bytes : List ℕ) (found : Found) (at : ℕ) → EndsAt bytes found at → AtEnd bytes found →
    StandsAt bytes 0xFF55 (unwrap_or found.tlm 0)
tlm_of bytes found at ends known =
    found_stands (λ f. f.tlm) 0xFF55 keeps_tlm bytes ends.before at
    (unwrap_or found.tlm 0) ends.stands
    (ap (λ f. f.tlm) (sym ends.found_is) ∙ known.tlm)

-- What COD says is in range.
pub record CodFits (bytes : List ℕ) (at : ℕ) : Type 0 where
  pub long : word_at bytes (at + 2) ≡ 13 + slice_index bytes (at + 9)
  pub flag : slice_index bytes (at + 8) ≤ 1
  pub enough : least_levels_of (profile_of bytes) ≤ slice_index bytes (at + 9)
  pub few : slice_index bytes (at + 9) ≤ levels_of (profile_of bytes)
  pub six : slice_index bytes (at + 9) ≤ 6
  pub inside : at + 2 + word_at bytes (at + 2) ≤ length bytes

neither : (a b : Bool) → (a || b) ≡ false → (a ≡ false) × (b ≡ false)
neither true b is = absurd cc
neither false b is = (refl, is)

at_most_six : (p : Profile) (n : ℕ) → n ≤ levels_of p → n ≤ 6
at_most_six TwoK n le = omega arith
at_most_six FourK n le = le

pub cod_fits : (bytes : List ℕ) (at : ℕ) → StandsAt bytes 0xFF52 at → CodFits bytes at
unfolding cod_rows cod_style_rows cod_order_rows cod_block_rows
cod_fits bytes at s =
    let levels = slice_index bytes (at + 9) in
    let p = stood_as bytes 0xFF52 at s in
    let end = p.to_is in
    let within = p.inside in
    let r = none_apply (cod_rows (profile_of bytes) bytes at) (cod_here bytes at s).0 in
    let r8 = r.1.1.1.1.1.1.1.1 in
    let range = neither (nat_lt levels (least_levels_of (profile_of bytes)))
    (nat_lt (levels_of (profile_of bytes)) levels) r8.1.0 in
    let few : levels ≤ levels_of (profile_of bytes) = not_below range.1 in
    record {
      long = same r8.1.1.1.1.1.1.1.0;
      flag = not_below r8.0;
      enough = not_below range.0;
      few = few;
      six = at_most_six (profile_of bytes) levels few;
      inside = omega arith;
    }

-- What TLM says of its entries.
pub record TlmFits (bytes : List ℕ) (at : ℕ) : Type 0 where
  pub long : word_at bytes (at + 2)
      ≡ 4 + parts_of (profile_of bytes) * entry_size (slice_index bytes (at + 5))
  pub inside : at + 2 + word_at bytes (at + 2) ≤ length bytes

pub tlm_fits : (bytes : List ℕ) (at : ℕ) → StandsAt bytes 0xFF55 at → TlmFits bytes at
unfolding tlm_rows
tlm_fits bytes at s =
    let p = stood_as bytes 0xFF55 at s in
    let end = p.to_is in
    let within = p.inside in
    let r = none_apply (tlm_rows (profile_of bytes) bytes at) (tlm_here bytes at s).0 in
    record { long = same r.1.1.0; inside = omega arith }

-- The places that are read lie in the bytes.
pub is_readable : (bytes : List ℕ) (found : Found) (at : ℕ) → EndsAt bytes found at →
    IsReadable bytes found
unfolding siz_rows siz_size_rows
is_readable bytes found at ends =
    let known = at_end bytes found at ends in
    let h = has_segments bytes found at ends in
    let s = siz_here bytes h.last h.before at h.stands in
    let long : word_at bytes (2 + 2) ≡ 47 = same (none_apply (siz_rows bytes 2) s.fields).0 in
    let c = cod_fits bytes (unwrap_or found.cod 0) (cod_of bytes found at ends known) in
    let q = stood_as bytes 0xFF5C (unwrap_or found.qcd 0) (qcd_of bytes found at ends known) in
    let t = tlm_fits bytes (unwrap_or found.tlm 0) (tlm_of bytes found at ends known) in
    let siz_at : unwrap_or found.siz 0 ≡ 2 = ap (λ o. unwrap_or o 0) known.siz in
    let parts : parts_of (profile_at bytes found.siz) ≡ parts_of (profile_of bytes) =
    ap (λ o. parts_of (profile_at bytes o)) known.siz in
    let within = s.inside in
    let c_long = c.long in
    let c_within = c.inside in
    let q_long = known.long in
    let q_within = q.inside in
    let q_end = q.to_is in
    let t_long : word_at bytes (unwrap_or found.tlm 0 + 2)
    ≡ 4 + parts_of (profile_at bytes found.siz)
    * entry_size (slice_index bytes (unwrap_or found.tlm 0 + 5)) =
    t.long ∙ ap (λ n. 4 + n * entry_size (slice_index bytes (unwrap_or found.tlm 0 + 5)))
    (sym parts) in
    let t_within = t.inside in
    record {
      siz = omega arith;
      cod = omega arith;
      levels = c.six;
      qcd = omega arith;
      tlm = omega arith;
    }

pub readable_read : (bytes : List ℕ) (r : Result (Found × ℕ) MarkerRefusal) →
    MatchResult r (λ x. EndsAt bytes x.0 x.1) (HasFault bytes) → IfOk r (λ x. IsReadable bytes x.0)
readable_read bytes (Ok x) is = is_readable bytes x.0 x.1 is
readable_read bytes (Err e) is = tt
