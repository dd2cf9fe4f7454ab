-- What the code counts is what the list of all blocks says.
use Rattle.std.proofs.Common.{◌≡◌, ℕ, zero, suc, ◌+◌, ◌*◌, ◌/◌, ◌%◌, ◌<◌, ◌≤◌, List, [], ◌∷◌, ◌++◌}
use Rattle.std.proofs.Common.{map, length, Some, arith, ◌∙◌, sym, ap, refl, slice_get, option_map}
use Rattle.std.proofs.Common.{get_or, add-one, add-zero, zero-add}
use Rattle.std.specs.List.{flat_map, range_with_len}
use Rattle.std.proofs.lemmas.List.{map-append, length-map, append-nil}
use Rattle.std.proofs.lemmas.List.FromFn.{length-range_with_len, get_or-range_with_len}
use Rattle.std.proofs.lemmas.Nat.{div-add-mod'}
use Rattle.std.proofs.lemmas.Option.{slice_get-map, slice_get-get_or, slice_get_within}
use Rattle.std.proofs.lemmas.Simd.{map-map}
use Rattle.cine_nums.specs.declared.orient.Orient.{Orient}
use Rattle.cine_nums.specs.declared.orient.Orient.TheVariants.{LL, HL, LH, HH}
use Rattle.band_geometry.specs.Bands.{block_columns, block_rows, IsBlock, IsOrientAt}
use Rattle.band_geometry.specs.Counts.{band_count, res_count, count_below, component_count}
use Rattle.band_geometry.specs.Counts.{count_before_band, place_in_res, number_of}
use Rattle.band_geometry.specs.Numbering.{orients_of, blocks_of_row, blocks_of_band, blocks_of_res}
use Rattle.band_geometry.specs.Numbering.{blocks_of_component, all_blocks}
use Rattle.band_geometry.proofs.BandLemmas.{IsInGrid, in_grid}
use Rattle.band_geometry.proofs.ListedLemmas.{Lists, lists-flat_map, slice_get-range}
use Rattle.band_geometry.specs.declared.geometry.Geometry.{Geometry}
use Rattle.band_geometry.specs.declared.places.BlockId.{BlockId}

-- two runs of numbers, one after the other
range-append : (a m n : ℕ) → range_with_len a m ++ range_with_len (a + m) n
    ≡ range_with_len a (m + n)
range-append a zero n = rw (add-zero, zero-add) refl
range-append a (suc m) n =
    let e : a + suc m ≡ a + 1 + m = omega arith in
    let f : suc m + n ≡ suc (m + n) = omega arith in
    rw (e, f) (ap (λ t. a ∷ t) (range-append (a + 1) m n))

-- numbers shifted up
map-shift : (b a n : ℕ) → map (λ x. b + x) (range_with_len a n) ≡ range_with_len (b + a) n
map-shift b a zero = refl
map-shift b a (suc n) =
    let e : b + (a + 1) ≡ b + a + 1 = omega arith in
    ap (λ t. (b + a) ∷ t) (map-shift b (a + 1) n ∙ ap (λ s. range_with_len s n) e)

-- the counts of the pieces a, a + 1, .. together
counts : (ℕ → ℕ) → ℕ → ℕ → ℕ
counts c a zero = 0
counts c a (suc n) = c a + counts c (a + 1) n

counts-ends : (s c : ℕ → ℕ) (a n : ℕ) → ((i : ℕ) → s (i + 1) ≡ s i + c i) →
    s a + counts c a n ≡ s (a + n)
unfolding counts
counts-ends s c a zero step = add-zero (s a) ∙ ap s (sym (add-zero a))
counts-ends s c a (suc n) step =
    let here = step a in
    let rest = counts-ends s c (a + 1) n step in
    let e : a + suc n ≡ a + 1 + n = omega arith in
    rw e (omega (arith, here, rest))

-- pieces whose numbers follow on each other are numbered one after the other
numbered-pieces : {A : Type 0} (number : A → ℕ) (f : ℕ → List A) (s c : ℕ → ℕ) (a n : ℕ) →
    ((i : ℕ) → a ≤ i → i < a + n → map number (f i) ≡ range_with_len (s i) (c i)) →
    ((i : ℕ) → s (i + 1) ≡ s i + c i) →
    map number (flat_map f (range_with_len a n)) ≡ range_with_len (s a) (counts c a n)
unfolding counts
numbered-pieces number f s c a zero piece step = refl
numbered-pieces number f s c a (suc n) piece step =
    map-append number (f a) (flat_map f (range_with_len (a + 1) n)) ∙
    ap (λ t. t ++ map number (flat_map f (range_with_len (a + 1) n)))
    (piece a (omega arith) (omega arith)) ∙
    ap (λ t. range_with_len (s a) (c a) ++ t)
    (numbered-pieces number f s c (a + 1) n
    (λ i low high. piece i (omega arith) (omega arith)) step) ∙
    ap (λ t. range_with_len (s a) (c a) ++ range_with_len t (counts c (a + 1) n)) (step a) ∙
    range-append (s a) (c a) (counts c (a + 1) n)

numbered-all : {A : Type 0} (number : A → ℕ) (f : ℕ → List A) (s c : ℕ → ℕ) (n b t : ℕ) →
    ((i : ℕ) → i < n → map number (f i) ≡ range_with_len (s i) (c i)) →
    ((i : ℕ) → s (i + 1) ≡ s i + c i) → s 0 ≡ b → s n ≡ b + t →
    map number (flat_map f (range_with_len 0 n)) ≡ range_with_len b t
numbered-all number f s c n b t piece step first last =
    let ends : s 0 + counts c 0 n ≡ s (0 + n) = counts-ends s c 0 n step in
    let n_is : 0 + n ≡ n = omega arith in
    let ends' : s 0 + counts c 0 n ≡ s n = ends ∙ ap s n_is in
    let t_is : counts c 0 n ≡ t = omega arith in
    numbered-pieces number f s c 0 n (λ i low high. piece i (omega arith)) step ∙
    ap (λ k. range_with_len k (counts c 0 n)) first ∙ ap (λ k. range_with_len b k) t_is

-- the number of the first block of a band
band_start : Geometry → ℕ → ℕ → Orient → ℕ
band_start g c r o = c * component_count g + count_below g r + count_before_band g r o

numbered-row : (g : Geometry) (c r : ℕ) (o : Orient) (y : ℕ) →
    map (number_of g) (blocks_of_row g c r o y) ≡
    range_with_len (band_start g c r o + y * block_columns g r o) (block_columns g r o)
unfolding blocks_of_row band_start
numbered-row g c r o y =
    let start = c * component_count g + count_below g r + count_before_band g r o + y * block_columns g r o in
    map-map (number_of g) (λ x. record { component = c; res = r; orient = o; x = x; y = y })
    (range_with_len 0 (block_columns g r o)) ∙
    map-shift start 0 (block_columns g r o) ∙
    ap (λ s. range_with_len s (block_columns g r o)) (add-zero start)

numbered-band : (g : Geometry) (c r : ℕ) (o : Orient) →
    map (number_of g) (blocks_of_band g c r o)
    ≡ range_with_len (band_start g c r o) (band_count g r o)
unfolding blocks_of_band band_count
numbered-band g c r o =
    numbered-all (number_of g) (blocks_of_row g c r o)
    (λ y. band_start g c r o + y * block_columns g r o) (λ y. block_columns g r o)
    (block_rows g r o) (band_start g c r o) (block_rows g r o * block_columns g r o)
    (λ y h. numbered-row g c r o y) (λ y. omega arith) (omega arith) refl

numbered-res : (g : Geometry) (c r : ℕ) →
    map (number_of g) (blocks_of_res g c r) ≡
    range_with_len (c * component_count g + count_below g r) (res_count g r)
unfolding blocks_of_res band_start
numbered-res g c zero =
    ap (map (number_of g)) (append-nil (blocks_of_band g c 0 LL)) ∙ numbered-band g c 0 LL ∙
    ap (λ s. range_with_len s (band_count g 0 LL))
    (add-zero (c * component_count g + count_below g 0))
numbered-res g c (suc r) =
    let start = c * component_count g + count_below g (suc r) in
    let hl = blocks_of_band g c (suc r) HL in
    let lh = blocks_of_band g c (suc r) LH in
    let hh = blocks_of_band g c (suc r) HH in
    let a = band_count g (suc r) HL in
    let b = band_count g (suc r) LH in
    let d = band_count g (suc r) HH in
    let first : map (number_of g) hl ≡ range_with_len start a =
    numbered-band g c (suc r) HL ∙ ap (λ s. range_with_len s a) (add-zero start) in
    let second : map (number_of g) lh ≡ range_with_len (start + a) b =
    numbered-band g c (suc r) LH in
    let third : map (number_of g) hh ≡ range_with_len (start + a + b) d =
    numbered-band g c (suc r) HH ∙ ap (λ s. range_with_len s d) (omega arith) in
    map-append (number_of g) hl (lh ++ (hh ++ [])) ∙
    ap (λ t. map (number_of g) hl ++ t) (map-append (number_of g) lh (hh ++ [])) ∙
    ap (λ t. map (number_of g) hl ++ (map (number_of g) lh ++ map (number_of g) t))
    (append-nil hh) ∙
    ap (λ t. t ++ (map (number_of g) lh ++ map (number_of g) hh)) first ∙
    ap (λ t. range_with_len start a ++ (t ++ map (number_of g) hh)) second ∙
    ap (λ t. range_with_len start a ++ (range_with_len (start + a) b ++ t)) third ∙
    ap (λ t. range_with_len start a ++ t) (range-append (start + a) b d) ∙
    range-append start a (b + d) ∙ ap (λ t. range_with_len start t) (omega arith)

-- one resolution more
pub count_below_more : (g : Geometry) (r : ℕ) →
    count_below g (r + 1) ≡ count_below g r + res_count g r
unfolding count_below
count_below_more g r = rw add-one refl

numbered-component : (g : Geometry) (c : ℕ) →
    map (number_of g) (blocks_of_component g c)
    ≡ range_with_len (c * component_count g) (component_count g)
unfolding blocks_of_component count_below
numbered-component g c =
    numbered-all (number_of g) (blocks_of_res g c) (λ r. c * component_count g + count_below g r)
    (res_count g)
    (g.levels + 1) (c * component_count g) (component_count g)
    (λ r h. numbered-res g c r) (λ r. let more = count_below_more g r in omega arith)
    (add-zero (c * component_count g)) refl

-- the numbers of the listed blocks are 0, 1, 2 and so on
pub numbered-blocks : (g : Geometry) →
    map (number_of g) (all_blocks g) ≡ range_with_len 0 (3 * component_count g)
unfolding all_blocks
numbered-blocks g =
    numbered-all (number_of g) (blocks_of_component g) (λ c. c * component_count g)
    (λ c. component_count g)
    3 0 (3 * component_count g)
    (λ c h. numbered-component g c) (λ c. omega arith) (omega arith) (omega arith)

-- how many there are
pub length_all_blocks : (g : Geometry) → length (all_blocks g) ≡ 3 * component_count g
length_all_blocks g =
    sym (length-map (all_blocks g) (number_of g)) ∙ ap length (numbered-blocks g) ∙
    length-range_with_len 0 (3 * component_count g)

-- a listed block stands at the place of its number
pub number_of-listed : (g : Geometry) (n : ℕ) (id : BlockId) →
    slice_get (all_blocks g) n ≡ Some id → number_of g id ≡ n
number_of-listed g n id here =
    let total = 3 * component_count g in
    let within : n < length (all_blocks g) = slice_get_within (all_blocks g) n id here in
    let below : n < total = omega (arith, length_all_blocks g) in
    let mapped : slice_get (map (number_of g) (all_blocks g)) n ≡ Some (number_of g id) =
    slice_get-map (number_of g) (all_blocks g) n ∙ ap (option_map (number_of g)) here in
    let counted : slice_get (range_with_len 0 total) n
    ≡ Some (get_or (range_with_len 0 total) n 0) =
    slice_get-get_or (range_with_len 0 total) n 0 (omega (arith, length-range_with_len 0 total)) in
    let same : get_or (range_with_len 0 total) n 0 ≡ 0 + n =
    get_or-range_with_len 0 total n 0 below in
    let both : slice_get (map (number_of g) (all_blocks g)) n
    ≡ slice_get (range_with_len 0 total) n =
    ap (λ xs. slice_get xs n) (numbered-blocks g) in
    let is : Some (number_of g id) ≡ Some (get_or (range_with_len 0 total) n 0) = sym mapped ∙ both
    ∙ counted in
    let number : number_of g id ≡ get_or (range_with_len 0 total) n 0 = cc in
    number ∙ same ∙ zero-add n

listed-orient : (r : ℕ) (o : Orient) → IsOrientAt r o → Lists (orients_of r) o
listed-orient zero LL is = (0, refl)
listed-orient zero HL is = absurd (omega arith)
listed-orient zero LH is = absurd (omega arith)
listed-orient zero HH is = absurd (omega arith)
listed-orient (suc r) LL is = absurd (omega arith)
listed-orient (suc r) HL is = (0, refl)
listed-orient (suc r) LH is = (1, refl)
listed-orient (suc r) HH is = (2, refl)

listed-row : (g : Geometry) (id : BlockId) → IsBlock g id →
    Lists (blocks_of_row g id.component id.res id.orient id.y) id
unfolding blocks_of_row
listed-row g id is =
    let columns = range_with_len 0 (block_columns g id.res id.orient) in
    let mk = λ (x : ℕ). let b : BlockId =
    record {
      component = id.component;
      res = id.res;
      orient = id.orient;
      x = x;
      y =
          id.y;
    } in b in (
      id.x,
      slice_get-map mk columns id.x ∙
          ap (option_map mk) (slice_get-range (block_columns g id.res id.orient) id.x is.column),
    )

listed-band : (g : Geometry) (id : BlockId) → IsBlock g id →
    Lists (blocks_of_band g id.component id.res id.orient) id
unfolding blocks_of_band
listed-band g id is =
    lists-flat_map (blocks_of_row g id.component id.res id.orient)
    (range_with_len 0 (block_rows g id.res id.orient))
    id.y id.y id (slice_get-range (block_rows g id.res id.orient) id.y is.row) (listed-row g id is)

listed-res : (g : Geometry) (id : BlockId) → IsBlock g id →
    Lists (blocks_of_res g id.component id.res) id
unfolding blocks_of_res
listed-res g id is =
    let orient = listed-orient id.res id.orient is.band.orient in
    lists-flat_map (blocks_of_band g id.component id.res)
    (orients_of id.res) orient.0 id.orient id orient.1 (listed-band g id is)

listed-component : (g : Geometry) (id : BlockId) → IsBlock g id →
    Lists (blocks_of_component g id.component) id
unfolding blocks_of_component
listed-component g id is =
    let below : id.res < g.levels + 1 = omega (arith, is.band.res) in
    lists-flat_map (blocks_of_res g id.component) (range_with_len 0 (g.levels + 1)) id.res id.res id
    (slice_get-range (g.levels + 1) id.res below) (listed-res g id is)

listed : (g : Geometry) (id : BlockId) → IsBlock g id → Lists (all_blocks g) id
unfolding all_blocks
listed g id is =
    lists-flat_map (blocks_of_component g) (range_with_len 0 3) id.component id.component id
    (slice_get-range 3 id.component is.component) (listed-component g id is)

-- a block stands in the list at the place of its number
pub listed_at_number : (g : Geometry) (id : BlockId) → IsBlock g id →
    slice_get (all_blocks g) (number_of g id) ≡ Some id
listed_at_number g id is =
    let place = listed g id is in
    ap (slice_get (all_blocks g)) (number_of-listed g place.0 id place.1) ∙ place.1

-- the place in the list, as the code sums it up
pub record StandsAt (g : Geometry) (id : BlockId) (n : ℕ) : Type 0 where
  pub value : slice_get (all_blocks g) n ≡ Some id
  pub inverse : (m : ℕ) → slice_get (all_blocks g) m ≡ Some id → m ≡ n

pub stands_at : (g : Geometry) (id : BlockId) (n : ℕ) → IsBlock g id → n ≡ number_of g id →
    StandsAt g id n
stands_at g id n is number = record {
  value = ap (slice_get (all_blocks g)) number ∙ listed_at_number g id is;
  inverse = λ m here. sym (number_of-listed g m id here) ∙ sym number;
}

-- the component of a number, and the place in the component
pub component_of : (g : Geometry) (n each : ℕ) → n < length (all_blocks g) →
    each ≡ component_count g → IsInGrid 3 each n
component_of g n each below is = in_grid 3 each n (omega (arith, length_all_blocks g))

-- the block that stands there
pub listed_at : (g : Geometry) (id : BlockId) (n each : ℕ) → IsBlock g id →
    each ≡ component_count g →
    id.component ≡ n / each → count_below g id.res + place_in_res g id ≡ n % each →
    slice_get (all_blocks g) n ≡ Some id
listed_at g id n each is each_is component place =
    let product : id.component * component_count g ≡ n / each * each =
    ap (λ k. id.component * k) (sym each_is) ∙ ap (λ k. k * each) component in
    let number : number_of g id ≡ n = omega (arith, product, div-add-mod' n each, place) in
    ap (slice_get (all_blocks g)) (sym number) ∙ listed_at_number g id is
