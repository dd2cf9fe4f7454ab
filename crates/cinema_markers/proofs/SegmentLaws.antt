-- A segment to which no row applies is spelled, and one that is spelled has no row that applies.
use Rattle.std.proofs.Common.{◌≡◌, ℕ, zero, suc, ◌+◌, ◌<◌, ◌≤◌, Bool, true, false, not, ◌==◌, ◌||◌}
use Rattle.std.proofs.Common.{nat_lt, List, [], ◌∷◌, map, Option, Some, None, arith, ◌∙◌, sym, ◌/◌}
use Rattle.std.proofs.Common.{◌%◌, replicate, ap, refl, add-zero, if◌then◌else◌}
use Rattle.std.specs.Prelude.{slice_index}
use Rattle.std.specs.List.{range_with_len}
use Rattle.std.proofs.lemmas.Bool.Decides.{nat_tests}
use Rattle.cine_nums.specs.declared.profile.Profile.{Profile}
use Rattle.cine_nums.specs.declared.profile.Profile.TheVariants.{TwoK, FourK}
use Rattle.cine_nums.specs.Profile.{levels_of, max_width_of, max_height_of}
use Rattle.cine_nums.specs.Bytes.{word_at, long_at}
use Rattle.cinema_markers.specs.Fits.{AreAt}
use Rattle.cinema_markers.specs.MainHeader.{rsiz, cod}
use Rattle.cine_nums.specs.Faults.{Row, first_fault}
use Rattle.cine_nums.specs.Profile.{least_levels_of}
use Rattle.cine_nums.specs.Coding.{precinct_byte}
use Rattle.cinema_markers.specs.Tables.{profile_with, siz_rows, siz_size_rows, siz_place_rows}
use Rattle.cinema_markers.specs.Tables.{siz_component_rows, cod_rows, cod_style_rows}
use Rattle.cinema_markers.specs.Tables.{cod_order_rows}
use Rattle.cinema_markers.specs.Tables.{cod_block_rows, precinct_row, precinct_rows}
use Rattle.cinema_markers.specs.Words.{siz_with}
use Rattle.cinema_markers.specs.declared.fields.Field.TheVariants.{Byte}
use Rattle.cinema_markers.specs.declared.refusal.MarkerRefusal.{MarkerRefusal}

-- no row applies, row by row
abbrev pub NoneApplies : List (Row MarkerRefusal) → Type 0
NoneApplies [] = Unit {0}
NoneApplies (r ∷ rows) = (r.applies ≡ false) × NoneApplies rows

split : (t : Bool) (f : MarkerRefusal) (x : Option MarkerRefusal) →
    (if t then Some f else x) ≡ None → (t ≡ false) × (x ≡ None)
split true f x is = absurd cc
split false f x is = (refl, is)

pub none_apply : (rows : List (Row MarkerRefusal)) → first_fault rows ≡ None → NoneApplies rows
none_apply [] is = tt
none_apply (r ∷ rows) is =
    let here = split r.applies r.fault (first_fault rows) is in
    (here.0, none_apply rows here.1)

pub joined : (t : Bool) (f : MarkerRefusal) (x : Option MarkerRefusal) → t ≡ false → x ≡ None →
    (if t then Some f else x) ≡ None
joined true f x e is = cc
joined false f x e is = is

pub none_is_first : (rows : List (Row MarkerRefusal)) → NoneApplies rows → first_fault rows ≡ None
none_is_first [] none = refl
none_is_first (r ∷ rows) (here, later) =
    joined r.applies r.fault (first_fault rows) here (none_is_first rows later)

-- what the tests of rows mean
pub same : {n v : ℕ} → not (n == v) ≡ false → n ≡ v
same {n} {v} is = grind (arith, nat_tests)

pub differs : {n v : ℕ} → (n == v) ≡ false → n ≡ v → ⊥
differs {n} {v} is e = grind (arith, nat_tests)

pub not_below : {m n : ℕ} → nat_lt m n ≡ false → n ≤ m
not_below {m} {n} is = grind (arith, nat_tests)

pub passes : {n v : ℕ} → n ≡ v → not (n == v) ≡ false
passes {n} {v} is = grind (arith, nat_tests)

pub at_least : {m n : ℕ} → n ≤ m → nat_lt m n ≡ false
at_least {m} {n} is = grind (arith, nat_tests)

pub not_zero : {n : ℕ} → 1 ≤ n → (n == 0) ≡ false
not_zero {n} is = grind (arith, nat_tests)

-- SIZ

rsiz_is : (n : ℕ) → not (n == 3 || n == 4) ≡ false → n ≡ rsiz (profile_with n)
rsiz_is n is = by_test (n == 3) refl
  where
    three : n == 3 ≡ true → n ≡ 3
    three e = grind (arith, nat_tests)

    four : n == 3 ≡ false → n ≡ 4
    four e = grind (arith, nat_tests)

    by_test : (b : Bool) → n == 3 ≡ b → n ≡ rsiz (if b then TwoK else FourK)
    by_test true e = three e
    by_test false e = four e

-- what SIZ at a place says is spelled there
pub siz_is_read : (bytes : List ℕ) (at : ℕ) → word_at bytes at ≡ 0xFF51 →
    first_fault (siz_rows bytes at) ≡ None →
    AreAt bytes at 0 (siz_with (profile_with (word_at bytes (at + 4))) (long_at bytes (at + 6))
    (long_at bytes (at + 10))
    (long_at bytes (at + 22)) (long_at bytes (at + 26)))
unfolding siz_rows siz_size_rows siz_place_rows siz_component_rows
siz_is_read bytes at marker none =
    let r = none_apply (siz_rows bytes at) none in
    let r2 = r.1.1 in
    let r6 = r2.1.1.1.1 in
    let r8 = r6.1.1 in
    let r10 = r8.1.1 in
    let r13 = r10.1.1.1 in (
      ap (word_at bytes) (add-zero at) ∙ marker,
      (
        same r.0,
        (
          rsiz_is (word_at bytes (at + 4)) r.1.0,
          (
            refl,
            (
              refl,
              (
                same r6.0,
                (
                  same r6.1.0,
                  (
                    refl,
                    (
                      refl,
                      (
                        same r10.0,
                        (
                          same r10.1.0,
                          (
                            same r10.1.1.0,
                            (
                              same r13.0,
                              (
                                same r13.1.0,
                                (
                                  same r13.1.1.0,
                                  (
                                    same r13.1.1.1.0,
                                    (
                                      same r13.1.1.1.1.0,
                                      (
                                        same r13.1.1.1.1.1.0,
                                        (
                                          same r13.1.1.1.1.1.1.0,
                                          (
                                            same r13.1.1.1.1.1.1.1.0,
                                            (same r13.1.1.1.1.1.1.1.1.0, tt),
                                          ),
                                        ),
                                      ),
                                    ),
                                  ),
                                ),
                              ),
                            ),
                          ),
                        ),
                      ),
                    ),
                  ),
                ),
              ),
            ),
          ),
        ),
      ),
    )

profile_again : (profile : Profile) → profile_with (rsiz profile) ≡ profile
profile_again TwoK = refl
profile_again FourK = refl

rsiz_passes : (profile : Profile) (n : ℕ) → n ≡ rsiz profile → not (n == 3 || n == 4) ≡ false
rsiz_passes TwoK n is = grind (arith, nat_tests)
rsiz_passes FourK n is = grind (arith, nat_tests)

-- no row applies to SIZ that is spelled there
pub siz_stands : (bytes : List ℕ) (at width height tile_width tile_height : ℕ) (profile : Profile) →
    AreAt bytes at 0 (siz_with profile width height tile_width tile_height) →
    1 ≤ width → width ≤ max_width_of profile → 1 ≤ height → height ≤ max_height_of profile →
    width ≤ tile_width → height ≤ tile_height →
    first_fault (siz_rows bytes at) ≡ None
unfolding siz_rows siz_size_rows siz_place_rows siz_component_rows
siz_stands bytes at width height tile_width tile_height profile f w1 w2 h1 h2 tw th =
    let f2 = f.1.1 in
    let f3 = f2.1 in
    let f5 = f3.1.1 in
    let f7 = f5.1.1 in
    let f9 = f7.1.1 in
    let f12 = f9.1.1.1 in
    let told : profile_with (word_at bytes (at + 4)) ≡ profile = ap profile_with f2.0
    ∙ profile_again profile in
    let wide : long_at bytes (at + 6) ≡ width = f3.0 in
    let high : long_at bytes (at + 10) ≡ height = f3.1.0 in
    let most_wide : max_width_of (profile_with (word_at bytes (at + 4))) ≡ max_width_of profile =
    ap max_width_of told in
    let most_high : max_height_of (profile_with (word_at bytes (at + 4))) ≡ max_height_of profile =
    ap max_height_of told in
    let tile_wide : long_at bytes (at + 22) ≡ tile_width = f7.0 in
    let tile_high : long_at bytes (at + 26) ≡ tile_height = f7.1.0 in
    none_is_first (siz_rows bytes at) (
      passes f.1.0,
      (
        rsiz_passes profile (word_at bytes (at + 4)) f2.0,
        (
          not_zero (omega arith),
          (
            at_least (omega arith),
            (
              not_zero (omega arith),
              (
                at_least (omega arith),
                (
                  passes f5.0,
                  (
                    passes f5.1.0,
                    (
                      at_least (omega arith),
                      (
                        at_least (omega arith),
                        (
                          passes f9.0,
                          (
                            passes f9.1.0,
                            (
                              passes f9.1.1.0,
                              (
                                passes f12.0,
                                (
                                  passes f12.1.0,
                                  (
                                    passes f12.1.1.0,
                                    (
                                      passes f12.1.1.1.0,
                                      (
                                        passes f12.1.1.1.1.0,
                                        (
                                          passes f12.1.1.1.1.1.0,
                                          (
                                            passes f12.1.1.1.1.1.1.0,
                                            (
                                              passes f12.1.1.1.1.1.1.1.0,
                                              (passes f12.1.1.1.1.1.1.1.1.0, tt),
                                            ),
                                          ),
                                        ),
                                      ),
                                    ),
                                  ),
                                ),
                              ),
                            ),
                          ),
                        ),
                      ),
                    ),
                  ),
                ),
              ),
            ),
          ),
        ),
      ),
    )

-- A row for each number of a range

pub each_row : (R : ℕ → Row MarkerRefusal) (i n : ℕ) →
    first_fault (map R (range_with_len i n)) ≡ None → (k : ℕ) → k < n → (R (i + k)).applies ≡ false
each_row R i zero is k below = absurd (omega arith)
each_row R i (suc n) is zero below =
    ap (λ j. (R j).applies) (add-zero i)
    ∙ (split (R i).applies (R i).fault (first_fault (map R (range_with_len (i + 1) n))) is).0
each_row R i (suc n) is (suc k) below =
    let later = (split (R i).applies (R i).fault
    (first_fault (map R (range_with_len (i + 1) n))) is).1 in
    let place : i + suc k ≡ i + 1 + k = omega arith in
    ap (λ j. (R j).applies) place ∙ each_row R (i + 1) n later k (omega arith)

pub rows_pass : (R : ℕ → Row MarkerRefusal) (i n : ℕ) →
    ((k : ℕ) → k < n → (R (i + k)).applies ≡ false) →
    first_fault (map R (range_with_len i n)) ≡ None
rows_pass R i zero each = refl
rows_pass R i (suc n) each =
    joined (R i).applies (R i).fault (first_fault (map R (range_with_len (i + 1) n)))
    (ap (λ j. (R j).applies) (sym (add-zero i)) ∙ each 0 (omega arith))
    (rows_pass R (i + 1) n (λ k below. ap (λ j. (R j).applies) (further i k)
    ∙ each (suc k) (omega arith)))
  where
    further : (i k : ℕ) → i + 1 + k ≡ i + suc k
    further i k = omega arith

-- fields of one value
pub same_fields : (bytes : List ℕ) (at off n v : ℕ) →
    ((k : ℕ) → k < n → slice_index bytes (at + (off + k)) ≡ v) →
    AreAt bytes at off (replicate n (Byte v))
same_fields bytes at off zero v each = tt
same_fields bytes at off (suc n) v each = (
  ap (λ p. slice_index bytes (at + p)) (sym (add-zero off)) ∙ each 0 (omega arith),
  same_fields bytes at (off + 1) n v
      (λ k below. ap (λ p. slice_index bytes (at + p)) (further off k)
      ∙ each (suc k) (omega arith)),
)
  where
    further : (i k : ℕ) → i + 1 + k ≡ i + suc k
    further i k = omega arith

pub field_of_same : (bytes : List ℕ) (at off n v : ℕ) → AreAt bytes at off (replicate n (Byte v)) →
    (k : ℕ) → k < n →
    slice_index bytes (at + (off + k)) ≡ v
field_of_same bytes at off zero v are k below = absurd (omega arith)
field_of_same bytes at off (suc n) v (here, later) zero below =
    ap (λ p. slice_index bytes (at + p)) (add-zero off) ∙ here
field_of_same bytes at off (suc n) v (here, later) (suc k) below =
    let place : off + suc k ≡ off + 1 + k = omega arith in
    ap (λ p. slice_index bytes (at + p)) place
    ∙ field_of_same bytes at (off + 1) n v later k (omega arith)

-- COD

one_left : {n : ℕ} → (n == 0) ≡ false → nat_lt 1 n ≡ false → n ≡ 1
one_left {n} a b = grind (arith, nat_tests)

zero_left : {n : ℕ} → (n == 1) ≡ false → nat_lt 1 n ≡ false → n ≡ 0
zero_left {n} a b = grind (arith, nat_tests)

large_size : (r : ℕ) → 1 ≤ r → precinct_byte r ≡ 0x88
large_size zero is = absurd (omega arith)
large_size (suc r) is = refl

-- what COD at a place says is spelled there
pub cod_is_read : (profile : Profile) (bytes : List ℕ) (at : ℕ) → word_at bytes at ≡ 0xFF52 →
    first_fault (cod_rows profile bytes at) ≡ None → first_fault (precinct_rows bytes at) ≡ None →
    AreAt bytes at 0 (cod (slice_index bytes (at + 9)) (slice_index bytes (at + 8)))
unfolding cod_rows cod_style_rows cod_order_rows cod_block_rows precinct_rows
cod_is_read profile bytes at marker none sizes =
    let levels = slice_index bytes (at + 9) in
    let r = none_apply (cod_rows profile bytes at) none in
    let r4 = r.1.1.1.1 in
    let r6 = r4.1.1 in
    let r10 = r6.1.1.1.1 in
    let r13 = r10.1.1.1 in
    let each : (k : ℕ) → k < levels + 1 →
    slice_index bytes (at + (14 + (0 + k))) ≡ precinct_byte (0 + k) =
    λ k below. same (each_row (precinct_row bytes at) 0 (levels + 1) sizes k below) in (
      ap (word_at bytes) (add-zero at) ∙ marker,
      (
        same r13.1.1.0,
        (
          same r4.0,
          (
            same r4.1.0,
            (
              one_left r6.0 r6.1.0,
              (
                refl,
                (
                  refl,
                  (
                    same r10.0,
                    (
                      same r10.1.0,
                      (
                        same r10.1.1.0,
                        (
                          zero_left r13.0 r13.1.0,
                          (
                            each 0 (omega arith),
                            same_fields bytes at 15 levels 0x88
                                (λ k below. ap (λ p. slice_index bytes (at + p)) (next k)
                                ∙ each (suc k) (omega arith)
                                ∙ large_size (0 + suc k) (omega arith)),
                          ),
                        ),
                      ),
                    ),
                  ),
                ),
              ),
            ),
          ),
        ),
      ),
    )
  where
    next : (k : ℕ) → 15 + k ≡ 14 + (0 + suc k)
    next k = omega arith

in_range : (least most n m : ℕ) → n ≡ m → least ≤ m → m ≤ most →
    (nat_lt n least || nat_lt most n) ≡ false
in_range least most n m is low high = grind (arith, nat_tests)

sized : (bytes : List ℕ) (at levels : ℕ) → slice_index bytes (at + 14) ≡ 0x77 →
    AreAt bytes at 15 (replicate levels (Byte 0x88)) →
    (k : ℕ) → k < levels + 1 → slice_index bytes (at + (14 + (0 + k))) ≡ precinct_byte (0 + k)
sized bytes at levels first more zero below = first
sized bytes at levels first more (suc k) below =
    let place : 14 + (0 + suc k) ≡ 15 + k = omega arith in
    ap (λ p. slice_index bytes (at + p)) place
    ∙ field_of_same bytes at 15 levels 0x88 more k (omega arith)
    ∙ sym (large_size (0 + suc k) (omega arith))

-- no row applies to COD that is spelled there
pub cod_stands : (profile : Profile) (bytes : List ℕ) (at levels flag : ℕ) →
    AreAt bytes at 0 (cod levels flag) →
    least_levels_of profile ≤ levels → levels ≤ levels_of profile → flag ≤ 1 →
    (first_fault (cod_rows profile bytes at) ≡ None) × (first_fault (precinct_rows bytes at) ≡ None)
unfolding cod_rows cod_style_rows cod_order_rows cod_block_rows precinct_rows
cod_stands profile bytes at levels flag f low high bit =
    let f2 = f.1.1 in
    let f4 = f2.1.1 in
    let f6 = f4.1.1 in
    let f9 = f6.1.1.1 in
    let f11 = f9.1.1 in
    let style : slice_index bytes (at + 4) ≡ 1 = f2.0 in
    let told : slice_index bytes (at + 9) ≡ levels = f6.0 in
    let length_is : word_at bytes (at + 2) ≡ 13 + levels = f.1.0 in
    let flag_is : slice_index bytes (at + 8) ≡ flag = f4.1.0 in
    let layers : word_at bytes (at + 6) ≡ 1 = f4.0 in
    let wavelet : slice_index bytes (at + 13) ≡ 0 = f9.1.0 in (
      none_is_first (cod_rows profile bytes at) (
        at_least (omega arith),
        (
          ap (λ n. n / 2 % 2 == 1) style,
          (
            ap (λ n. n / 4 % 2 == 1) style,
            (
              ap (λ n. n % 2 == 0) style,
              (
                passes style,
                (
                  passes f2.1.0,
                  (
                    ap (λ n. n == 0) layers,
                    (
                      at_least (omega arith),
                      (
                        at_least (omega arith),
                        (
                          in_range (least_levels_of profile) (levels_of profile)
                              (slice_index bytes (at + 9)) levels told low high,
                          (
                            passes f6.1.0,
                            (
                              passes f6.1.1.0,
                              (
                                passes f9.0,
                                (
                                  ap (λ n. n == 1) wavelet,
                                  (
                                    at_least (omega arith),
                                    (passes (length_is ∙ ap (λ n. 13 + n) (sym told)), tt),
                                  ),
                                ),
                              ),
                            ),
                          ),
                        ),
                      ),
                    ),
                  ),
                ),
              ),
            ),
          ),
        ),
      ),
      rows_pass (precinct_row bytes at) 0 (slice_index bytes (at + 9) + 1)
          (λ k below. passes (sized bytes at levels f11.0 f11.1 k (omega arith))),
    )
