-- A segment that is spelled at a place stands there.
use Rattle.std.proofs.Common.{◌≡◌, ℕ, zero, suc, ◌+◌, ◌*◌, ◌^◌, ◌%◌, ◌<◌, ◌≤◌, Bool, true, false}
use Rattle.std.proofs.Common.{not, ◌==◌, ◌||◌, nat_lt, List, [], ◌∷◌, ◌++◌, map, replicate, drop}
use Rattle.std.proofs.Common.{arith, ◌∙◌, sym, ap, refl, subst, length, length-append, length-drop}
use Rattle.std.proofs.Common.{add-zero, suc-mul, append_assoc, if◌then◌else◌}
use Rattle.std.specs.Prelude.{slice_index}
use Rattle.std.specs.List.{flat_map, AllByRecursion}
use Rattle.std.proofs.lemmas.Bool.Decides.{nat_tests}
use Rattle.cine_nums.specs.declared.profile.Profile.{Profile}
use Rattle.cine_nums.specs.declared.profile.Profile.TheVariants.{TwoK, FourK}
use Rattle.cine_nums.specs.Profile.{levels_of, parts_of, max_width_of, max_height_of}
use Rattle.dz_quantiser.specs.declared.band.BandStep.{BandStep}
use Rattle.dz_quantiser.specs.declared.steps.StepSizes.{StepSizes}
use Rattle.cine_nums.specs.Bytes.{word_at}
use Rattle.cinema_markers.specs.Fields.{field_bytes, segment}
use Rattle.cinema_markers.specs.Fits.{width, widths, AreFit, AreAt}
use Rattle.cinema_markers.specs.MainHeader.{cod, qcd, poc, rsiz, step_field}
use Rattle.cine_nums.specs.Faults.{first_fault}
use Rattle.cine_nums.specs.Profile.{least_levels_of}
use Rattle.cinema_markers.specs.Tables.{field_rows, rows_for, cod_rows, precinct_rows, qcd_rows}
use Rattle.cinema_markers.specs.Tables.{poc_rows, tlm_rows, tile_row, tile_rows, index_at}
use Rattle.cinema_markers.specs.Tables.{length_size, entry_size, entry_place}
use Rattle.cinema_markers.specs.Words.{siz_with, tlm_with, com_head}
use Rattle.cinema_markers.specs.declared.fields.Field.{Field}
use Rattle.cinema_markers.specs.declared.fields.Field.TheVariants.{Byte, Short, Long}
use Rattle.cinema_markers.proofs.FieldLaws.{spelled_are_at}
use Rattle.cine_nums.proofs.FaultLemmas.{passed_on}
use Rattle.cinema_markers.proofs.SegmentLaws.{none_is_first, passes, at_least, rows_pass}
use Rattle.cinema_markers.proofs.SegmentLaws.{siz_stands, cod_stands}
use Rattle.cinema_markers.proofs.Standing.{StandsAs}

-- how long fields are
width_is : (field : Field) → length (field_bytes field) ≡ width field
width_is (Byte n) = refl
width_is (Short n) = refl
width_is (Long n) = refl

pub widths_are : (fields : List Field) → length (segment fields) ≡ widths fields
widths_are [] = refl
widths_are (field ∷ fields) = omega
    (arith, length-append (field_bytes field) (segment fields), width_is field, widths_are fields)

pub same_widths : (n v : ℕ) → widths (replicate n (Byte v)) ≡ n
same_widths zero v = refl
same_widths (suc n) v = omega (arith, same_widths n v)

pub same_fit : (n v : ℕ) → v < 256 → AreFit (replicate n (Byte v))
same_fit zero v small = tt
same_fit (suc n) v small = (small, same_fit n v small)

pub ends_inside : (bytes front more : List ℕ) (at : ℕ) → at ≤ length bytes →
    drop at bytes ≡ front ++ more → at + length front ≤ length bytes
ends_inside bytes front more at below is =
    omega (arith, length-drop at bytes, ap length is, length-append front more)

pub are_at : (bytes more : List ℕ) (at : ℕ) (fields : List Field) → AreFit fields →
    drop at bytes ≡ segment fields ++ more → AreAt bytes at 0 fields
are_at bytes more at fields fit is =
    spelled_are_at bytes more at 0 fields fit (ap (λ n. drop n bytes) (add-zero at) ∙ is)

-- the fields have room for what they say
pub siz_fit : (w h tw th : ℕ) (profile : Profile) → w ≤ max_width_of profile →
    h ≤ max_height_of profile →
    tw < 4294967296 → th < 4294967296 → AreFit (siz_with profile w h tw th)
siz_fit w h tw th profile w2 h2 sw sh =
    let z : 0 < 4294967296 = omega arith in
    let rs : rsiz profile < 65536 = small_rsiz profile in
    let o : 1 < 256 = omega arith in
    let e : 11 < 256 = omega arith in
    let wide : w < 4294967296 = omega (arith, small_width profile) in
    let high : h < 4294967296 = omega (arith, small_height profile) in (
      omega arith,
      (
        omega arith,
        (
          rs,
          (
            omega arith,
            (
              omega arith,
              (
                z,
                (
                  z,
                  (
                    sw,
                    (
                      sh,
                      (
                        z,
                        (
                          z,
                          (
                            omega arith,
                            (e, (o, (o, (e, (o, (o, (e, (o, (o, tt))))))))),
                          ),
                        ),
                      ),
                    ),
                  ),
                ),
              ),
            ),
          ),
        ),
      ),
    )
  where
    small_rsiz : (p : Profile) → rsiz p < 65536
    small_rsiz TwoK = omega arith
    small_rsiz FourK = omega arith

    small_width : (p : Profile) → max_width_of p ≤ 4096
    small_width TwoK = omega arith
    small_width FourK = omega arith

    small_height : (p : Profile) → max_height_of p ≤ 4096
    small_height TwoK = omega arith
    small_height FourK = omega arith

pub cod_fit : (levels flag : ℕ) → levels ≤ 6 → flag ≤ 1 → AreFit (cod levels flag)
cod_fit levels flag few bit = (
  omega arith,
  (
    omega arith,
    (
      omega arith,
      (
        omega arith,
        (
          omega arith,
          (
            omega arith,
            (
              omega arith,
              (
                omega arith,
                (
                  omega arith,
                  (
                    omega arith,
                    (
                      omega arith,
                      (omega arith, same_fit levels 0x88 (omega arith)),
                    ),
                  ),
                ),
              ),
            ),
          ),
        ),
      ),
    ),
  ),
)

pub poc_fit : (levels : ℕ) → levels ≤ 6 → AreFit (poc FourK levels)
poc_fit levels few = (
  omega arith,
  (
    omega arith,
    (
      omega arith,
      (
        omega arith,
        (
          omega arith,
          (
            omega arith,
            (
              omega arith,
              (
                omega arith,
                (
                  omega arith,
                  (
                    omega arith,
                    (
                      omega arith,
                      (omega arith, (omega arith, (omega arith, tt))),
                    ),
                  ),
                ),
              ),
            ),
          ),
        ),
      ),
    ),
  ),
)

pub siz_spelled : (bytes more : List ℕ) (at w h tw th : ℕ) (profile : Profile) → at ≤ length bytes →
    drop at bytes ≡ segment (siz_with profile w h tw th) ++ more → tw < 4294967296 →
    th < 4294967296 →
    1 ≤ w → w ≤ max_width_of profile → 1 ≤ h → h ≤ max_height_of profile → w ≤ tw → h ≤ th →
    StandsAs TwoK bytes 0xFF51 at (at + 49)
unfolding field_rows
siz_spelled bytes more at w h tw th profile below is sw sh w1 w2 h1 h2 tw1 th1 =
    let z : 0 < 4294967296 = omega arith in
    let rs : rsiz profile < 65536 = small_rsiz profile in
    let o : 1 < 256 = omega arith in
    let e : 11 < 256 = omega arith in
    let f = are_at bytes more at (siz_with profile w h tw th)
    (siz_fit w h tw th profile w2 h2 sw sh) is in
    let told : word_at bytes at ≡ 0xFF51 = ap (word_at bytes) (sym (add-zero at)) ∙ f.0 in
    let size : word_at bytes (at + 2) ≡ 47 = f.1.0 in
    record {
      told = told;
      some = omega arith;
      to_is = omega arith;
      inside = ends_inside bytes (segment (siz_with profile w h tw th)) more at below is;
      fields = ap (λ n. first_fault (rows_for TwoK bytes at n)) told
          ∙ siz_stands bytes at w h tw th profile f w1 w2 h1 h2 tw1 th1;
    }
  where
    small_rsiz : (p : Profile) → rsiz p < 65536
    small_rsiz TwoK = omega arith
    small_rsiz FourK = omega arith

pub cod_spelled : (bytes more : List ℕ) (at levels flag : ℕ) (profile : Profile) →
    at ≤ length bytes →
    drop at bytes ≡ segment (cod levels flag) ++ more → least_levels_of profile ≤ levels →
    levels ≤ levels_of profile → flag ≤ 1 →
    StandsAs profile bytes 0xFF52 at (at + length (segment (cod levels flag)))
unfolding field_rows
cod_spelled bytes more at levels flag profile below is low high bit =
    let few : levels ≤ 6 = few_levels profile levels high in
    let f = are_at bytes more at (cod levels flag) (cod_fit levels flag few bit) is in
    let told : word_at bytes at ≡ 0xFF52 = ap (word_at bytes) (sym (add-zero at)) ∙ f.0 in
    let size : word_at bytes (at + 2) ≡ 13 + levels = f.1.0 in
    let stands = cod_stands profile bytes at levels flag f low high bit in
    let long : length (segment (cod levels flag)) ≡ 15 + levels = widths_are (cod levels flag)
    ∙ omega (arith, same_widths levels 0x88) in
    record {
      told = told;
      some = omega arith;
      to_is = omega arith;
      inside = ends_inside bytes (segment (cod levels flag)) more at below is;
      fields =
          ap (λ n. first_fault (rows_for profile bytes at n)) told
          ∙ passed_on (cod_rows profile bytes at) (precinct_rows bytes at) stands.0 ∙ stands.1;
    }
  where
    few_levels : (p : Profile) (n : ℕ) → n ≤ levels_of p → n ≤ 6
    few_levels TwoK n le = omega arith
    few_levels FourK n le = le

-- a comment
pub com_spelled : (bytes content more : List ℕ) (at : ℕ) (profile : Profile) → at ≤ length bytes →
    2 + length content < 65536 →
    drop at bytes ≡ (segment (com_head content) ++ content) ++ more →
    StandsAs profile bytes 0xFF64 at (at + length (segment (com_head content) ++ content))
unfolding field_rows
com_spelled bytes content more at profile below short is =
    let f = are_at bytes (content ++ more) at (com_head content) (omega arith, (short, tt))
    (is ∙ append_assoc (segment (com_head content)) content more) in
    let told : word_at bytes at ≡ 0xFF64 = ap (word_at bytes) (sym (add-zero at)) ∙ f.0 in
    let size : word_at bytes (at + 2) ≡ 2 + length content = f.1.0 in
    let long : length (segment (com_head content) ++ content) ≡ 4 + length content =
    length-append (segment (com_head content)) content in
    record {
      told = told;
      some = omega arith;
      to_is = omega arith;
      inside = ends_inside bytes (segment (com_head content) ++ content) more at below is;
      fields = ap (λ n. first_fault (rows_for profile bytes at n)) told;
    }

-- QCD
pub step_widths : (bands : List BandStep) → widths (map step_field bands) ≡ 2 * length bands
step_widths [] = refl
step_widths (step ∷ bands) = omega (arith, step_widths bands)

pub qcd_spelled : (bytes more : List ℕ) (at levels : ℕ) (steps : StepSizes) (profile : Profile) →
    at ≤ length bytes →
    drop at bytes ≡ segment (qcd levels steps) ++ more → levels ≤ 6 → steps.guard ≤ 7 →
    length steps.bands.items ≡ 3 * levels + 1 →
    AreFit (map step_field steps.bands.items) →
    StandsAs profile bytes 0xFF5C at (at + length (segment (qcd levels steps)))
unfolding field_rows qcd_rows
qcd_spelled bytes more at levels steps profile below is few guard bands fit =
    let f = are_at bytes more at (qcd levels steps)
    (omega arith, (omega arith, (omega arith, fit))) is in
    let told : word_at bytes at ≡ 0xFF5C = ap (word_at bytes) (sym (add-zero at)) ∙ f.0 in
    let size : word_at bytes (at + 2) ≡ 5 + 6 * levels = f.1.0 in
    let style : slice_index bytes (at + 4) ≡ steps.guard * 32 + 2 = f.1.1.0 in
    let two : slice_index bytes (at + 4) % 32 ≡ 2 = omega arith in
    let long : length (segment (qcd levels steps)) ≡ 7 + 6 * levels =
    widths_are (qcd levels steps) ∙ omega (arith, step_widths steps.bands.items) in
    record {
      told = told;
      some = omega arith;
      to_is = omega arith;
      inside = ends_inside bytes (segment (qcd levels steps)) more at below is;
      fields =
          ap (λ n. first_fault (rows_for profile bytes at n)) told
          ∙ none_is_first (qcd_rows bytes at) (
            odd (word_at bytes (at + 2)) levels size,
            (at_least (omega arith), (at_least (omega arith), tt)),
          );
    }
  where
    odd : (n l : ℕ) → n ≡ 5 + 6 * l → (nat_lt n 5 || n % 2 == 0) ≡ false
    odd n l is = let one : n % 2 ≡ 1 = omega arith in grind (arith, nat_tests)

-- POC
pub poc_spelled : (bytes more : List ℕ) (at levels : ℕ) (profile : Profile) → at ≤ length bytes →
    drop at bytes ≡ segment (poc FourK levels) ++ more → levels ≤ 6 →
    StandsAs profile bytes 0xFF5F at (at + 18) × AreAt bytes at 0 (poc FourK levels)
unfolding field_rows poc_rows
poc_spelled bytes more at levels profile below is few =
    let f = are_at bytes more at (poc FourK levels) (poc_fit levels few) is in
    let told : word_at bytes at ≡ 0xFF5F = ap (word_at bytes) (sym (add-zero at)) ∙ f.0 in
    let size : word_at bytes (at + 2) ≡ 16 = f.1.0 in (
      record {
        told = told;
        some = omega arith;
        to_is = omega arith;
        inside = ends_inside bytes (segment (poc FourK levels)) more at below is;
        fields = ap (λ n. first_fault (rows_for profile bytes at n)) told
            ∙ none_is_first (poc_rows bytes at) (passes size, tt);
      },
      f,
    )

-- TLM: entries by whether the index of the tile has 16 bits, and whether the length has 32
abbrev pub entry : Bool → Bool → ℕ → List Field
entry b c size = (if b then Short 0 else Byte 0) ∷ (if c then Long size else Short size) ∷ []

abbrev pub size : Bool → Bool → ℕ
size b c = (if b then 2 else 1) + (if c then 4 else 2)

abbrev pub index : Bool → List ℕ → ℕ → ℕ
index b bytes at = if b then word_at bytes at else slice_index bytes at

pub entries_fit : (b c : Bool) (parts : List ℕ) →
    AllByRecursion (λ n. n < 256 ^ (if c then 4 else 2)) parts → AreFit (flat_map (entry b c) parts)
entries_fit b c [] each = tt
entries_fit true true (n ∷ parts) (here, later) =
    (omega arith, (here, entries_fit true true parts later))
entries_fit true false (n ∷ parts) (here, later) =
    (omega arith, (here, entries_fit true false parts later))
entries_fit false true (n ∷ parts) (here, later) =
    (omega arith, (here, entries_fit false true parts later))
entries_fit false false (n ∷ parts) (here, later) =
    (omega arith, (here, entries_fit false false parts later))

pub entry_widths : (b c : Bool) (parts : List ℕ) →
    widths (flat_map (entry b c) parts) ≡ size b c * length parts
entry_widths b c [] = by_size (size b c)
  where
    by_size : (n : ℕ) → 0 ≡ n * 0
    by_size n = omega arith
entry_widths true true (n ∷ parts) = omega (arith, entry_widths true true parts)
entry_widths true false (n ∷ parts) = omega (arith, entry_widths true false parts)
entry_widths false true (n ∷ parts) = omega (arith, entry_widths false true parts)
entry_widths false false (n ∷ parts) = omega (arith, entry_widths false false parts)

pub turned : (b c : Bool) (n : ℕ) → n ≤ 6 → (size b c * n ≡ n * size b c) × (size b c * n ≤ 36)
turned true true n le = (omega arith, omega arith)
turned true false n le = (omega arith, omega arith)
turned false true n le = (omega arith, omega arith)
turned false false n le = (omega arith, omega arith)

index_zero : (b : Bool) (bytes : List ℕ) (at off : ℕ) (rest : List Field) →
    AreAt bytes at off ((if b then Short 0 else Byte 0) ∷ rest) →
    index b bytes (at + off) ≡ 0
index_zero true bytes at off rest f = f.0
index_zero false bytes at off rest f = f.0

pub after_entry : (b c : Bool) (bytes : List ℕ) (at off n : ℕ) (rest : List Field) →
    AreAt bytes at off (entry b c n ++ rest) →
    AreAt bytes at (off + size b c) rest
after_entry true true bytes at off n rest f = subst (λ o. AreAt bytes at o rest) (omega arith) f.1.1
after_entry true false bytes at off n rest f =
    subst (λ o. AreAt bytes at o rest) (omega arith) f.1.1
after_entry false true bytes at off n rest f =
    subst (λ o. AreAt bytes at o rest) (omega arith) f.1.1
after_entry false false bytes at off n rest f =
    subst (λ o. AreAt bytes at o rest) (omega arith) f.1.1

pub one_further : (off i n : ℕ) → off + suc i * n ≡ off + n + i * n
one_further off i n = omega (arith, suc-mul i n)

pub none_further : (off n : ℕ) → off + 0 * n ≡ off
none_further off n = omega arith

all_zero : (b c : Bool) (bytes : List ℕ) (at off : ℕ) (parts : List ℕ) →
    AreAt bytes at off (flat_map (entry b c) parts) →
    (i : ℕ) → i < length parts → index b bytes (at + (off + i * size b c)) ≡ 0
all_zero b c bytes at off [] f i below = absurd (omega arith)
all_zero b c bytes at off (n ∷ parts) f zero below =
    ap (λ o. index b bytes (at + o)) (none_further off (size b c))
    ∙ index_zero b bytes at off ((if c then Long n else Short n) ∷ flat_map (entry b c) parts) f
all_zero b c bytes at off (n ∷ parts) f (suc i) below =
    ap (λ o. index b bytes (at + o)) (one_further off i (size b c))
    ∙ all_zero b c bytes at (off + size b c) parts
    (after_entry b c bytes at off n (flat_map (entry b c) parts) f) i (omega arith)

pub tlm_fit : (parts : List ℕ) (ztlm stlm : ℕ) → length parts ≤ 6 → ztlm < 256 → stlm < 256 →
    AllByRecursion (λ n. n < 256 ^ length_size stlm) parts → AreFit (tlm_with parts ztlm stlm)
tlm_fit parts ztlm stlm few small byte each =
    let b = stlm == 0x20 || stlm == 0x60 in
    let c = stlm == 0x50 || stlm == 0x60 in
    let swap = turned b c (length parts) few in
    (omega arith, (omega (arith, swap.1), (small, (byte, entries_fit b c parts each))))

pub tlm_spelled : (bytes more parts : List ℕ) (at ztlm stlm : ℕ) (profile : Profile) →
    at ≤ length bytes →
    drop at bytes ≡ segment (tlm_with parts ztlm stlm) ++ more → ztlm < 256 → stlm < 256 →
    not (stlm == 0x10 || stlm == 0x20 || stlm == 0x50 || stlm == 0x60) ≡ false →
    length parts ≡ parts_of profile → AllByRecursion (λ n. n < 256 ^ length_size stlm) parts →
    StandsAs profile bytes 0xFF55 at (at + length (segment (tlm_with parts ztlm stlm)))
unfolding field_rows tlm_rows tile_rows
tlm_spelled bytes more parts at ztlm stlm profile below is small byte four count each =
    let b = stlm == 0x20 || stlm == 0x60 in
    let c = stlm == 0x50 || stlm == 0x60 in
    let few : length parts ≤ 6 = few_parts profile (length parts) count in
    let swap = turned b c (length parts) few in
    let f = are_at bytes more at (tlm_with parts ztlm stlm)
    (tlm_fit parts ztlm stlm few small byte each) is in
    let told : word_at bytes at ≡ 0xFF55 = ap (word_at bytes) (sym (add-zero at)) ∙ f.0 in
    let length_is : word_at bytes (at + 2) ≡ 4 + entry_size stlm * length parts = f.1.0 in
    let kind : slice_index bytes (at + 5) ≡ stlm = f.1.1.1.0 in
    let long : length (segment (tlm_with parts ztlm stlm)) ≡ 6 + entry_size stlm * length parts =
    widths_are (tlm_with parts ztlm stlm) ∙ omega (arith, entry_widths b c parts) in
    record {
      told = told;
      some = omega arith;
      to_is = omega arith;
      inside = ends_inside bytes (segment (tlm_with parts ztlm stlm)) more at below is;
      fields =
          ap (λ n. first_fault (rows_for profile bytes at n)) told
          ∙ passed_on (tlm_rows profile bytes at) (tile_rows profile bytes at)
          (none_is_first (tlm_rows profile bytes at) (
            at_least (omega arith),
            (
              ap (λ s. not (s == 0x10 || s == 0x20 || s == 0x50 || s == 0x60)) kind ∙ four,
              (
                passes (length_is ∙ ap (λ n. 4 + n) (swap.0 ∙ ap (λ n. n * entry_size stlm) count)
                    ∙ ap (λ s. 4 + parts_of profile * entry_size s) (sym kind)),
                tt,
              ),
            ),
          ))
          ∙ rows_pass (tile_row bytes at) 0 (parts_of profile)
          (λ k less. passes (ap (λ s. index_at s bytes (entry_place at s (0 + k))) kind
          ∙ ap (λ j. index_at stlm bytes (entry_place at stlm j)) (zero_plus k)
          ∙ all_zero b c bytes at 6 parts f.1.1.1.1 k (omega arith)));
    }
  where
    few_parts : (p : Profile) (n : ℕ) → n ≡ parts_of p → n ≤ 6
    few_parts TwoK n e = omega arith
    few_parts FourK n e = omega arith

    zero_plus : (k : ℕ) → 0 + k ≡ k
    zero_plus k = omega arith
