-- Segments that stand are spelled: QCD, and all of them one after the other.
use Rattle.std.proofs.Common.{◌≡◌, ℕ, zero, suc, ◌+◌, ◌-◌, ◌*◌, ◌/◌, ◌%◌, ◌<◌, ◌≤◌, Bool, true}
use Rattle.std.proofs.Common.{false, ◌==◌, ◌&&◌, ◌||◌, if◌then◌else◌, List, [], ◌∷◌, ◌++◌, map}
use Rattle.std.proofs.Common.{take, drop, length, None, arith, ◌∙◌, sym, ap, refl, append_assoc}
use Rattle.std.proofs.Common.{add-zero}
use Rattle.std.specs.Prelude.{slice_index}
use Rattle.std.specs.List.{range_with_len, flat_map}
use Rattle.std.proofs.lemmas.Bool.Decides.{nat_tests}
use Rattle.std.proofs.lemmas.List.{length-map, length-drop, length-take-le, drop-drop}
use Rattle.std.proofs.lemmas.List.{take-append-drop}
use Rattle.cine_nums.specs.declared.profile.Profile.TheVariants.{TwoK, FourK}
use Rattle.cine_nums.specs.declared.profile.Profile.{Profile}
use Rattle.cine_nums.specs.Profile.{parts_of}
use Rattle.cinema_markers.proofs.Spelled.{entry, size, index, turned}
use Rattle.cinema_markers.specs.Fields.{segment}
use Rattle.cinema_markers.proofs.FieldLaws.{AreBytes, at_are_spelled}
use Rattle.cine_nums.specs.Bytes.{word_at, long_at}
use Rattle.cinema_markers.specs.Fits.{AreAt}
use Rattle.cinema_markers.specs.MainHeader.{qcd, poc, step_field}
use Rattle.cine_nums.specs.Faults.{first_fault}
use Rattle.cinema_markers.specs.Tables.{qcd_rows, is_change, tlm_rows, tile_row, tile_rows}
use Rattle.cinema_markers.specs.Tables.{entry_size, entry_place, index_at}
use Rattle.cinema_markers.specs.Reading.{StandsUpTo}
use Rattle.cinema_markers.specs.Value.{band_step, steps_at, part_length}
use Rattle.cinema_markers.specs.Words.{com_head, tlm_with, MainSegment, MainWords, spelled_segment}
use Rattle.cinema_markers.specs.Words.{spelled_upto}
use Rattle.cinema_markers.specs.declared.header.MainHeader.{MainHeader}
use Rattle.cinema_markers.proofs.SegmentLaws.{none_apply, not_below, same, each_row}

bands_read : (bytes : List ℕ) (at off i n : ℕ) → off ≡ 5 + 2 * i →
    AreAt bytes at off (map step_field (map (band_step bytes at) (range_with_len i n)))
bands_read bytes at off i zero is = tt
bands_read bytes at off i (suc n) is = (
  ap (λ o. word_at bytes (at + o)) is
      ∙ whole (word_at bytes (at + (5 + 2 * i))),
  bands_read bytes at (off + 2) (i + 1) n
      (omega arith),
)
  where
    whole : (n : ℕ) → n ≡ n / 2048 * 2048 + n % 2048
    whole n = omega arith

-- what QCD at a place says is spelled there
pub qcd_is_read : (bytes : List ℕ) (at levels : ℕ) → word_at bytes at ≡ 0xFF5C →
    first_fault (qcd_rows bytes at) ≡ None →
    word_at bytes (at + 2) ≡ 5 + 6 * levels →
    AreAt bytes at 0 (qcd levels (steps_at bytes at (3 * levels + 1)))
unfolding qcd_rows
qcd_is_read bytes at levels marker none long =
    let r = none_apply (qcd_rows bytes at) none in
    let below : slice_index bytes (at + 4) % 32 ≤ 2 = not_below r.1.0 in
    let above : 2 ≤ slice_index bytes (at + 4) % 32 = not_below r.1.1.0 in
    let style : slice_index bytes (at + 4) ≡ slice_index bytes (at + 4) / 32 * 32 + 2 =
    omega arith in (
      ap (word_at bytes) (add-zero at)
          ∙ marker,
      (long, (style, bands_read bytes at 5 0 (3 * levels + 1) refl)),
    )

-- All segments, where SIZ and each one after it is spelled: w gives the words of the one at a
-- place.
abbrev pub words_of : (ℕ → MainSegment) → List ℕ → List MainSegment
words_of w [] = []
words_of w (first ∷ []) = []
words_of w (at ∷ next ∷ before) = w at ∷ words_of w (next ∷ before)

pub spelled_back : (m : MainHeader) (words : MainWords) (bytes : List ℕ) (w : ℕ → MainSegment) →
    ((first to : ℕ) → StandsUpTo bytes (first ∷ []) to →
    bytes ≡ spelled_upto m words [] ++ drop to bytes) →
    ((at next to : ℕ) (before : List ℕ) → StandsUpTo bytes (at ∷ next ∷ before) to →
    drop at bytes ≡ spelled_segment m (w at) ++ drop to bytes) →
    (at : ℕ) (before : List ℕ) (to : ℕ) → StandsUpTo bytes (at ∷ before) to →
    bytes ≡ spelled_upto m words (words_of w (at ∷ before)) ++ drop to bytes
spelled_back m words bytes w siz each at [] to stands = siz at to stands
spelled_back m words bytes w siz each at (next ∷ before) to stands =
    let front = spelled_upto m words (words_of w (next ∷ before)) in
    spelled_back m words bytes w siz each next before at stands.0
    ∙ ap (λ t. front ++ t) (each at next to before stands)
    ∙ sym (append_assoc front (spelled_segment m (w at)) (drop to bytes))

-- POC
both_true : (x y : Bool) → (x && y) ≡ true → (x ≡ true) × (y ≡ true)
both_true true y is = (refl, is)
both_true false y is = absurd cc

when_same : (n v : ℕ) → (n == v) ≡ true → n ≡ v
when_same n v e = grind (arith, nat_tests)

pub record IsChange (bytes : List ℕ) (p from to : ℕ) : Type 0 where
  pub rs : slice_index bytes p ≡ from
  pub cs : slice_index bytes (p + 1) ≡ 0
  pub lye : word_at bytes (p + 2) ≡ 1
  pub re : slice_index bytes (p + 4) ≡ to
  pub ce : slice_index bytes (p + 5) ≡ 3
  pub order : slice_index bytes (p + 6) ≡ 4

pub change_is : (bytes : List ℕ) (p from to : ℕ) → is_change bytes p from to ≡ true →
    IsChange bytes p from to
change_is bytes p from to is =
    let a1 = slice_index bytes p == from in
    let a2 = slice_index bytes (p + 1) == 0 in
    let a3 = word_at bytes (p + 2) == 1 in
    let a4 = slice_index bytes (p + 4) == to in
    let a5 = slice_index bytes (p + 5) == 3 in
    let t6 = both_true (a1 && a2 && a3 && a4 && a5) (slice_index bytes (p + 6) == 4) is in
    let t5 = both_true (a1 && a2 && a3 && a4) a5 t6.0 in
    let t4 = both_true (a1 && a2 && a3) a4 t5.0 in
    let t3 = both_true (a1 && a2) a3 t4.0 in
    let t2 = both_true a1 a2 t3.0 in
    record {
      rs = when_same (slice_index bytes p) from t2.0;
      cs = when_same (slice_index bytes (p + 1)) 0 t2.1;
      lye = when_same (word_at bytes (p + 2)) 1 t3.1;
      re = when_same (slice_index bytes (p + 4)) to t4.1;
      ce = when_same (slice_index bytes (p + 5)) 3 t5.1;
      order = when_same (slice_index bytes (p + 6)) 4 t6.1;
    }

-- what POC at a place says is spelled there, where it has the changes of the profile
pub poc_is_read : (bytes : List ℕ) (at levels : ℕ) → word_at bytes at ≡ 0xFF5F →
    word_at bytes (at + 2) ≡ 16 →
    IsChange bytes (at + 4) 0 levels → IsChange bytes (at + 11) levels (levels + 1) →
    AreAt bytes at 0 (poc FourK levels)
poc_is_read bytes at levels marker long a c =
    let b : (j k : ℕ) → j ≡ k → slice_index bytes j ≡ slice_index bytes k =
    λ j k e. ap (slice_index bytes) e in
    let w : (j k : ℕ) → j ≡ k → word_at bytes j ≡ word_at bytes k =
    λ j k e. ap (word_at bytes) e in (
      ap (word_at bytes) (add-zero at) ∙ marker,
      (
        long,
        (
          a.rs,
          (
            b (at + 5) (at + 4 + 1) (omega arith) ∙ a.cs,
            (
              w (at + 6) (at + 4 + 2) (omega arith) ∙ a.lye,
              (
                b (at + 8) (at + 4 + 4) (omega arith) ∙ a.re,
                (
                  b (at + 9) (at + 4 + 5) (omega arith) ∙ a.ce,
                  (
                    b (at + 10) (at + 4 + 6) (omega arith) ∙ a.order,
                    (
                      c.rs,
                      (
                        b (at + 12) (at + 11 + 1) (omega arith) ∙ c.cs,
                        (
                          w (at + 13) (at + 11 + 2) (omega arith) ∙ c.lye,
                          (
                            b (at + 15) (at + 11 + 4) (omega arith) ∙ c.re,
                            (
                              b (at + 16) (at + 11 + 5) (omega arith) ∙ c.ce,
                              (
                                b (at + 17) (at + 11 + 6) (omega arith) ∙ c.order,
                                tt,
                              ),
                            ),
                          ),
                        ),
                      ),
                    ),
                  ),
                ),
              ),
            ),
          ),
        ),
      ),
    )

-- COM
pub com_is_read : (bytes : List ℕ) (at : ℕ) → AreBytes bytes → word_at bytes at ≡ 0xFF64 →
    2 ≤ word_at bytes (at + 2) →
    at + 2 + word_at bytes (at + 2) ≤ length bytes →
    drop at bytes ≡ (segment (com_head (take (word_at bytes (at + 2) - 2) (drop (at + 4) bytes)))
    ++ take (word_at bytes (at + 2) - 2) (drop (at + 4) bytes))
    ++ drop (at + 2 + word_at bytes (at + 2)) bytes
com_is_read bytes at small marker some inside =
    let n = word_at bytes (at + 2) - 2 in
    let tail = drop (at + 4) bytes in
    let content = take n tail in
    let left : length tail ≡ length bytes - (at + 4) = length-drop (at + 4) bytes in
    let count : length content ≡ n = length-take-le n tail (omega arith) in
    let long : word_at bytes (at + 2) ≡ 2 + length content = omega arith in
    let head = segment (com_head content) in
    let rest : drop (at + 2 + word_at bytes (at + 2)) bytes ≡ drop n tail =
    ap (λ k. drop k bytes) (omega arith) ∙ sym (drop-drop n (at + 4) bytes) in
    let start : at ≡ at + 0 = omega arith in
    ap (λ k. drop k bytes) start
    ∙ at_are_spelled bytes at 0 (com_head content) small
    (ap (word_at bytes) (add-zero at) ∙ marker, (long, tt)) (omega arith)
    ∙ ap (λ k. head ++ drop k bytes) (omega arith)
    ∙ ap (λ t. head ++ t) (sym (take-append-drop n tail) ∙ ap (λ t. content ++ t) (sym rest))
    ∙ sym (append_assoc head content (drop (at + 2 + word_at bytes (at + 2)) bytes))

-- TLM, by whether the index of the tile has 16 bits and whether the length has 32
abbrev pub length_in : Bool → Bool → List ℕ → ℕ → ℕ → ℕ
length_in b c bytes at i =
    let place = at + (6 + i * size b c) + (if b then 2 else 1) in
    if c then long_at bytes place else word_at bytes place

abbrev ZeroFrom : Bool → Bool → List ℕ → ℕ → ℕ → ℕ → Type 0
ZeroFrom b c bytes at i n = (k : ℕ) → i ≤ k → k < i + n →
    index b bytes (at + (6 + k * size b c)) ≡ 0

later_zero : (b c : Bool) (bytes : List ℕ) (at i n : ℕ) → ZeroFrom b c bytes at i (suc n) →
    ZeroFrom b c bytes at (i + 1) n
later_zero b c bytes at i n each k low high = each k (omega arith) (omega arith)

entries_read : (b c : Bool) (bytes : List ℕ) (at off i n : ℕ) → off ≡ 6 + i * size b c →
    ZeroFrom b c bytes at i n →
    AreAt bytes at off (flat_map (entry b c) (map (length_in b c bytes at) (range_with_len i n)))
entries_read b c bytes at off i zero is each = tt
entries_read true true bytes at off i (suc n) is each = (
  ap (λ o. word_at bytes (at + o)) is ∙ each i (omega arith) (omega arith),
  (
    ap (long_at bytes) (omega arith),
    entries_read true true bytes at (off + 2 + 4) (i + 1) n (omega arith)
        (later_zero true true bytes at i n each),
  ),
)
entries_read true false bytes at off i (suc n) is each = (
  ap (λ o. word_at bytes (at + o)) is ∙ each i (omega arith) (omega arith),
  (
    ap (word_at bytes) (omega arith),
    entries_read true false bytes at (off + 2 + 2) (i + 1) n (omega arith)
        (later_zero true false bytes at i n each),
  ),
)
entries_read false true bytes at off i (suc n) is each = (
  ap (λ o. slice_index bytes (at + o)) is ∙ each i (omega arith) (omega arith),
  (
    ap (long_at bytes) (omega arith),
    entries_read false true bytes at (off + 1 + 4) (i + 1) n (omega arith)
        (later_zero false true bytes at i n each),
  ),
)
entries_read false false bytes at off i (suc n) is each = (
  ap (λ o. slice_index bytes (at + o)) is ∙ each i (omega arith) (omega arith),
  (
    ap (word_at bytes) (omega arith),
    entries_read false false bytes at (off + 1 + 2) (i + 1) n (omega arith)
        (later_zero false false bytes at i n each),
  ),
)

range_length : (i n : ℕ) → length (range_with_len i n) ≡ n
range_length i zero = refl
range_length i (suc n) = ap (λ k. suc k) (range_length (i + 1) n)

-- the lengths that TLM at a place gives
abbrev pub lengths_at : List ℕ → ℕ → ℕ → List ℕ
lengths_at bytes at count = map (part_length bytes at) (range_with_len 0 count)

-- what TLM at a place says is spelled there
pub tlm_is_read : (profile : Profile) (bytes : List ℕ) (at : ℕ) → word_at bytes at ≡ 0xFF55 →
    first_fault (tlm_rows profile bytes at) ≡ None →
    first_fault (tile_rows profile bytes at) ≡ None →
    AreAt bytes at 0 (tlm_with (lengths_at bytes at (parts_of profile)) (slice_index bytes (at + 4))
    (slice_index bytes (at + 5)))
unfolding tlm_rows tile_rows
tlm_is_read profile bytes at marker none tiles =
    let stlm = slice_index bytes (at + 5) in
    let b = stlm == 0x20 || stlm == 0x60 in
    let c = stlm == 0x50 || stlm == 0x60 in
    let parts = lengths_at bytes at (parts_of profile) in
    let count : length parts ≡ parts_of profile =
    length-map (range_with_len 0 (parts_of profile)) (part_length bytes at)
    ∙ range_length 0 (parts_of profile) in
    let r = none_apply (tlm_rows profile bytes at) none in
    let long : word_at bytes (at + 2) ≡ 4 + parts_of profile * entry_size stlm = same r.1.1.0 in
    let swap = turned b c (parts_of profile) (few_parts profile) in
    let each : ZeroFrom b c bytes at 0 (parts_of profile) =
    λ k low high. ap (λ j. index_at stlm bytes (entry_place at stlm j)) (plus_zero k)
    ∙ same (each_row (tile_row bytes at) 0 (parts_of profile) tiles k (omega arith)) in (
      ap (word_at bytes) (add-zero at) ∙ marker,
      (
        long ∙ ap (λ n. 4 + n) (sym swap.0) ∙ ap (λ n. 4 + entry_size stlm * n) (sym count),
        (refl, (refl, entries_read b c bytes at 6 0 (parts_of profile) (first (size b c)) each)),
      ),
    )
  where
    few_parts : (p : Profile) → parts_of p ≤ 6
    few_parts TwoK = omega arith
    few_parts FourK = omega arith

    plus_zero : (k : ℕ) → k ≡ 0 + k
    plus_zero k = omega arith

    first : (n : ℕ) → 6 ≡ 6 + 0 * n
    first n = omega arith
