-- What is judged of a main header that may be any bytes, segment by segment, and in which order
-- (ISO/IEC 15444-1, A.2, A.5 to A.7). A row is one line: whether it applies, and what is refused
-- then. The first row that applies gives the fault. Places count from the first byte of the whole.
use Rattle.std.specs.Prelude.{ℕ, ◌+◌, ◌*◌, ◌/◌, ◌%◌, Bool, not, ◌&&◌, ◌||◌, ◌==◌, nat_lt, List, []}
use Rattle.std.specs.Prelude.{◌∷◌, ◌++◌, length, map, slice_index, Option, Some, None, is_none}
use Rattle.std.specs.Prelude.{is_some, if◌then◌else◌}
use Rattle.std.specs.Option.{unwrap_or}
use Rattle.std.specs.List.{range_with_len}
use Rattle.cine_nums.specs.declared.profile.Profile.{Profile}
use Rattle.cine_nums.specs.declared.profile.Profile.TheVariants.{TwoK, FourK}
use Rattle.cine_nums.specs.Coding.{block_exponent, precinct_byte, progression}
use Rattle.cine_nums.specs.Faults.{Row, row}
use Rattle.cine_nums.specs.Profile.{levels_of, parts_of, max_width_of, max_height_of}
use Rattle.cine_nums.specs.Profile.{least_levels_of, is_four_k}
use Rattle.dz_quantiser.specs.Bands.{planes_of}
use Rattle.cine_nums.specs.Bytes.{word_at, long_at}
use Rattle.cinema_markers.specs.declared.found.Found.{Found}
use Rattle.cinema_markers.specs.declared.refusal.MarkerRefusal.{MarkerRefusal}
use Rattle.cinema_markers.specs.declared.refusal.MarkerRefusal.TheVariants.{NotSoc}
use Rattle.cinema_markers.specs.declared.refusal.MarkerRefusal.TheVariants.{SegmentTruncated}
use Rattle.cinema_markers.specs.declared.refusal.MarkerRefusal.TheVariants.{UnexpectedMarker}
use Rattle.cinema_markers.specs.declared.refusal.MarkerRefusal.TheVariants.{Repeated, Missing}
use Rattle.cinema_markers.specs.declared.refusal.MarkerRefusal.TheVariants.{BadSiz, BadCod, BadQcd}
use Rattle.cinema_markers.specs.declared.refusal.MarkerRefusal.TheVariants.{BadPoc, BadTlm}
use Rattle.cinema_markers.specs.declared.refusal.MarkerRefusal.TheVariants.{NotCinema, TooLarge}
use Rattle.cinema_markers.specs.declared.refusal.MarkerRefusal.TheVariants.{OutsideProfile}

-- the profile of Rsiz, which is 3 or 4
abbrev pub profile_with : ℕ → Profile
profile_with rsiz = if rsiz == 3 then TwoK else FourK

-- the start
unfoldable pub soc_rows : List ℕ → List (Row MarkerRefusal)
soc_rows bytes =
    row (nat_lt (length bytes) 2) (SegmentTruncated (length bytes))
    ∷ row (not (word_at bytes 0 == 0xFF4F)) (NotSoc 0)
    ∷ []

-- SIZ at a place: Lsiz, Rsiz, Xsiz, Ysiz
unfoldable pub siz_size_rows : List ℕ → ℕ → List (Row MarkerRefusal)
siz_size_rows bytes at =
    let profile = profile_with (word_at bytes (at + 4)) in
    row (not (word_at bytes (at + 2) == 47)) (BadSiz (at + 2))
    ∷ row (not (word_at bytes (at + 4) == 3 || word_at bytes (at + 4) == 4)) (NotCinema (at + 4))
    ∷ row (long_at bytes (at + 6) == 0) (BadSiz (at + 6))
    ∷ row (nat_lt (max_width_of profile) (long_at bytes (at + 6))) (TooLarge (at + 6))
    ∷ row (long_at bytes (at + 10) == 0) (BadSiz (at + 10))
    ∷ row (nat_lt (max_height_of profile) (long_at bytes (at + 10))) (TooLarge (at + 10))
    ∷ []

-- XOsiz, YOsiz, XTsiz, YTsiz, XTOsiz, YTOsiz
unfoldable pub siz_place_rows : List ℕ → ℕ → List (Row MarkerRefusal)
siz_place_rows bytes at =
    row (not (long_at bytes (at + 14) == 0)) (BadSiz (at + 14))
    ∷ row (not (long_at bytes (at + 18) == 0)) (BadSiz (at + 18))
    ∷ row (nat_lt (long_at bytes (at + 22)) (long_at bytes (at + 6))) (BadSiz (at + 22))
    ∷ row (nat_lt (long_at bytes (at + 26)) (long_at bytes (at + 10))) (BadSiz (at + 26))
    ∷ row (not (long_at bytes (at + 30) == 0)) (BadSiz (at + 30))
    ∷ row (not (long_at bytes (at + 34) == 0)) (BadSiz (at + 34))
    ∷ []

-- Csiz, and Ssiz, XRsiz, YRsiz of each component
unfoldable pub siz_component_rows : List ℕ → ℕ → List (Row MarkerRefusal)
siz_component_rows bytes at =
    row (not (word_at bytes (at + 38) == 3)) (BadSiz (at + 38))
    ∷ row (not (slice_index bytes (at + 40) == 11)) (BadSiz (at + 40))
    ∷ row (not (slice_index bytes (at + 41) == 1)) (BadSiz (at + 41))
    ∷ row (not (slice_index bytes (at + 42) == 1)) (BadSiz (at + 42))
    ∷ row (not (slice_index bytes (at + 43) == 11)) (BadSiz (at + 43))
    ∷ row (not (slice_index bytes (at + 44) == 1)) (BadSiz (at + 44))
    ∷ row (not (slice_index bytes (at + 45) == 1)) (BadSiz (at + 45))
    ∷ row (not (slice_index bytes (at + 46) == 11)) (BadSiz (at + 46))
    ∷ row (not (slice_index bytes (at + 47) == 1)) (BadSiz (at + 47))
    ∷ row (not (slice_index bytes (at + 48) == 1)) (BadSiz (at + 48))
    ∷ []

unfoldable pub siz_rows : List ℕ → ℕ → List (Row MarkerRefusal)
siz_rows bytes at =
    siz_size_rows bytes at ++ (siz_place_rows bytes at ++ siz_component_rows bytes at)

-- COD at a place: Lcod, and Scod, which says that there is no SOP and no EPH and that the sizes of
-- precincts are given
unfoldable pub cod_style_rows : List ℕ → ℕ → List (Row MarkerRefusal)
cod_style_rows bytes at =
    row (nat_lt (word_at bytes (at + 2)) 12) (BadCod (at + 2))
    ∷ row (slice_index bytes (at + 4) / 2 % 2 == 1) (OutsideProfile (at + 4) 7)
    ∷ row (slice_index bytes (at + 4) / 4 % 2 == 1) (OutsideProfile (at + 4) 8)
    ∷ row (slice_index bytes (at + 4) % 2 == 0) (OutsideProfile (at + 4) 9)
    ∷ row (not (slice_index bytes (at + 4) == 1)) (BadCod (at + 4))
    ∷ []

-- the progression order, the layers, the component transform, the levels
unfoldable pub cod_order_rows : Profile → List ℕ → ℕ → List (Row MarkerRefusal)
cod_order_rows profile bytes at =
    let levels = slice_index bytes (at + 9) in
    row (not (slice_index bytes (at + 5) == progression)) (BadCod (at + 5))
    ∷ row (word_at bytes (at + 6) == 0) (BadCod (at + 6))
    ∷ row (nat_lt 1 (word_at bytes (at + 6))) (OutsideProfile (at + 6) 10)
    ∷ row (nat_lt 1 (slice_index bytes (at + 8))) (BadCod (at + 8))
    ∷ row (nat_lt levels (least_levels_of profile) || nat_lt (levels_of profile) levels)
    (BadCod (at + 9))
    ∷ []

-- width, height and style of code blocks; the wavelet; Lcod against the levels
unfoldable pub cod_block_rows : List ℕ → ℕ → List (Row MarkerRefusal)
cod_block_rows bytes at =
    row (not (slice_index bytes (at + 10) == block_exponent)) (OutsideProfile (at + 10) 11)
    ∷ row (not (slice_index bytes (at + 11) == block_exponent)) (OutsideProfile (at + 11) 11)
    ∷ row (not (slice_index bytes (at + 12) == 0)) (OutsideProfile (at + 12) 12)
    ∷ row (slice_index bytes (at + 13) == 1) (OutsideProfile (at + 13) 13)
    ∷ row (nat_lt 1 (slice_index bytes (at + 13))) (BadCod (at + 13))
    ∷ row (not (word_at bytes (at + 2) == 13 + slice_index bytes (at + 9))) (BadCod (at + 2))
    ∷ []

unfoldable pub cod_rows : Profile → List ℕ → ℕ → List (Row MarkerRefusal)
cod_rows profile bytes at =
    cod_style_rows bytes at ++ (cod_order_rows profile bytes at ++ cod_block_rows bytes at)

-- the sizes of precincts of COD
abbrev pub precinct_row : List ℕ → ℕ → ℕ → Row MarkerRefusal
precinct_row bytes at r =
    row (not (slice_index bytes (at + (14 + r)) == precinct_byte r))
    (OutsideProfile (at + (14 + r)) 9)

unfoldable pub precinct_rows : List ℕ → ℕ → List (Row MarkerRefusal)
precinct_rows bytes at = map (precinct_row bytes at)
    (range_with_len 0 (slice_index bytes (at + 9) + 1))

-- QCD at a place: Lqcd, and the style in Sqcd
unfoldable pub qcd_rows : List ℕ → ℕ → List (Row MarkerRefusal)
qcd_rows bytes at =
    row (nat_lt (word_at bytes (at + 2)) 5 || word_at bytes (at + 2) % 2 == 0) (BadQcd (at + 2))
    ∷ row (nat_lt 2 (slice_index bytes (at + 4) % 32)) (BadQcd (at + 4))
    ∷ row (nat_lt (slice_index bytes (at + 4) % 32) 2) (OutsideProfile (at + 4) 14)
    ∷ []

-- POC at a place
unfoldable pub poc_rows : List ℕ → ℕ → List (Row MarkerRefusal)
poc_rows bytes at = row (not (word_at bytes (at + 2) == 16)) (BadPoc (at + 2)) ∷ []

-- the bytes of an entry of TLM, by Stlm: of its tile's index, and of its length
abbrev pub index_size : ℕ → ℕ
index_size stlm = if stlm == 0x20 || stlm == 0x60 then 2 else 1

abbrev pub length_size : ℕ → ℕ
length_size stlm = if stlm == 0x50 || stlm == 0x60 then 4 else 2

abbrev pub entry_size : ℕ → ℕ
entry_size stlm = index_size stlm + length_size stlm

-- the index of a tile at a place
abbrev pub index_at : ℕ → List ℕ → ℕ → ℕ
index_at stlm bytes at =
    if stlm == 0x20 || stlm == 0x60 then word_at bytes at else slice_index bytes at

-- a length at a place
abbrev pub length_at : ℕ → List ℕ → ℕ → ℕ
length_at stlm bytes at =
    if stlm == 0x50 || stlm == 0x60 then long_at bytes at else word_at bytes at

-- TLM at a place
unfoldable pub tlm_rows : Profile → List ℕ → ℕ → List (Row MarkerRefusal)
tlm_rows profile bytes at =
    let stlm = slice_index bytes (at + 5) in
    -- Ltlm too short for Stlm; Stlm; Ltlm
    row (nat_lt (word_at bytes (at + 2)) 4) (BadTlm (at + 2))
    ∷ row (not (stlm == 0x10 || stlm == 0x20 || stlm == 0x50 || stlm == 0x60)) (BadTlm (at + 5))
    ∷ row (not (word_at bytes (at + 2) == 4 + parts_of profile * entry_size stlm)) (BadTlm (at + 2))
    ∷ []

-- the place of one entry of TLM
abbrev pub entry_place : ℕ → ℕ → ℕ → ℕ
entry_place at stlm i = at + (6 + i * entry_size stlm)

-- its Ttlm
abbrev pub tile_row : List ℕ → ℕ → ℕ → Row MarkerRefusal
tile_row bytes at i =
    let stlm = slice_index bytes (at + 5) in
    row (not (index_at stlm bytes (entry_place at stlm i) == 0)) (BadTlm (entry_place at stlm i))

unfoldable pub tile_rows : Profile → List ℕ → ℕ → List (Row MarkerRefusal)
tile_rows profile bytes at = map (tile_row bytes at) (range_with_len 0 (parts_of profile))

-- the fields of the segment at a place, by its marker; COM has none that is judged
abbrev pub rows_for : Profile → List ℕ → ℕ → ℕ → List (Row MarkerRefusal)
rows_for profile bytes at marker =
    if marker == 0xFF51 then siz_rows bytes at
    else if marker == 0xFF52 then cod_rows profile bytes at ++ precinct_rows bytes at
    else if marker == 0xFF5C then qcd_rows bytes at
    else if marker == 0xFF5F then poc_rows bytes at
    else if marker == 0xFF55 then tlm_rows profile bytes at ++ tile_rows profile bytes at
    else []

unfoldable pub field_rows : Profile → List ℕ → ℕ → List (Row MarkerRefusal)
field_rows profile bytes at = rows_for profile bytes at (word_at bytes at)

-- the room of the segment at a place
unfoldable pub room_rows : List ℕ → ℕ → List (Row MarkerRefusal)
room_rows bytes at =
    row (nat_lt (length bytes) (at + 4)) (SegmentTruncated (length bytes))
    ∷ row (nat_lt (word_at bytes (at + 2)) 2) (SegmentTruncated (at + 2))
    ∷ row (nat_lt (length bytes) (at + 2 + word_at bytes (at + 2)))
    (SegmentTruncated (length bytes))
    ∷ []

-- the profile that SIZ gives; before SIZ it decides nothing
abbrev pub profile_at : List ℕ → Option ℕ → Profile
profile_at bytes None = TwoK
profile_at bytes (Some siz) = profile_with (word_at bytes (siz + 4))

-- COC, QCC, RGN, PPM, PLM, CRG; 0 for any other marker
abbrev pub feature_of : ℕ → ℕ
feature_of marker =
    if marker == 0xFF53 then 1 else if marker == 0xFF5D then 2 else if marker == 0xFF5E then 3
    else if marker == 0xFF60 then 4 else if marker == 0xFF57 then 5 else if marker == 0xFF63 then 6
    else 0

-- SIZ, COD, QCD, POC, TLM, COM, SOT
abbrev pub is_allowed : ℕ → Bool
is_allowed marker =
    marker == 0xFF51 || marker == 0xFF52 || marker == 0xFF5C || marker == 0xFF5F || marker == 0xFF55
    || marker == 0xFF64 || marker == 0xFF90

-- the marker at a place, after the segments that were found
unfoldable pub marker_rows : List ℕ → Found → ℕ → List (Row MarkerRefusal)
marker_rows bytes found at =
    let marker = word_at bytes at in
    row (nat_lt (length bytes) (at + 2)) (SegmentTruncated (length bytes))
    -- SIZ comes first
    ∷ row (is_none found.siz && not (marker == 0xFF51)) (UnexpectedMarker at)
    ∷ row (not (feature_of marker == 0)) (OutsideProfile at (feature_of marker))
    ∷ row (not (is_allowed marker)) (UnexpectedMarker at)
    ∷ row (marker == 0xFF5F && not (is_four_k (profile_at bytes found.siz))) (UnexpectedMarker at)
    -- COM alone may stand more than once
    ∷ row (marker == 0xFF51 && is_some found.siz) (Repeated at)
    ∷ row (marker == 0xFF52 && is_some found.cod) (Repeated at)
    ∷ row (marker == 0xFF5C && is_some found.qcd) (Repeated at)
    ∷ row (marker == 0xFF5F && is_some found.poc) (Repeated at)
    ∷ row (marker == 0xFF55 && is_some found.tlm) (Repeated at)
    ∷ []

-- what is missing where the header ends
unfoldable pub missing_rows : List ℕ → Found → ℕ → List (Row MarkerRefusal)
missing_rows bytes found at =
    row (is_none found.cod) (Missing at 0xFF52)
    ∷ row (is_none found.qcd) (Missing at 0xFF5C)
    ∷ row (is_four_k (profile_at bytes found.siz) && is_none found.poc) (Missing at 0xFF5F)
    ∷ row (is_none found.tlm) (Missing at 0xFF55)
    ∷ []

-- QCD against the levels: Lqcd; and each band has a plane
abbrev pub band_row : List ℕ → ℕ → ℕ → Row MarkerRefusal
band_row bytes qcd i =
    row (planes_of (slice_index bytes (qcd + 4) / 32)
    (word_at bytes (qcd + (5 + 2 * i)) / 2048) == 0) (BadQcd qcd)

unfoldable pub bands_rows : List ℕ → ℕ → ℕ → List (Row MarkerRefusal)
bands_rows bytes levels qcd =
    row (not (word_at bytes (qcd + 2) == 5 + 6 * levels)) (BadQcd qcd)
    ∷ map (band_row bytes qcd) (range_with_len 0 (3 * levels + 1))

-- POC against the levels: RSpoc, CSpoc, LYEpoc, REpoc, CEpoc and Ppoc of a change at a place
abbrev pub is_change : List ℕ → ℕ → ℕ → ℕ → Bool
is_change bytes at from to =
    slice_index bytes at == from && slice_index bytes (at + 1) == 0 && word_at bytes (at + 2) == 1
    && slice_index bytes (at + 4) == to && slice_index bytes (at + 5) == 3
    && slice_index bytes (at + 6) == progression

unfoldable pub change_rows : List ℕ → ℕ → ℕ → List (Row MarkerRefusal)
change_rows bytes levels poc =
    row (not (is_change bytes (poc + 4) 0 levels)) (BadPoc poc)
    ∷ row (not (is_change bytes (poc + 11) levels (levels + 1))) (BadPoc poc)
    ∷ []

-- at SOT
unfoldable pub end_rows : List ℕ → Found → ℕ → List (Row MarkerRefusal)
end_rows bytes found at =
    let levels = slice_index bytes (unwrap_or found.cod 0 + 9) in
    missing_rows bytes found at
    ++ (bands_rows bytes levels (unwrap_or found.qcd 0)
    ++ (if is_four_k (profile_at bytes found.siz) then change_rows bytes levels
    (unwrap_or found.poc 0) else []))

-- what stands at a place after the segments that were found
unfoldable pub next_rows : List ℕ → Found → ℕ → List (Row MarkerRefusal)
next_rows bytes found at =
    marker_rows bytes found at
    ++ (if word_at bytes at == 0xFF90 then end_rows bytes found at
    else room_rows bytes at ++ field_rows (profile_at bytes found.siz) bytes at)

-- the places with that of one segment more
abbrev pub noted : Found → ℕ → ℕ → Found
noted found marker at =
    record {
      siz = if marker == 0xFF51 then Some at else found.siz;
      cod = if marker == 0xFF52 then Some at else found.cod;
      qcd = if marker == 0xFF5C then Some at else found.qcd;
      poc = if marker == 0xFF5F then Some at else found.poc;
      tlm = if marker == 0xFF55 then Some at else found.tlm;
    }
