-- The coefficients of a block, copied into a grid.
use Rattle.std.proofs.Common.{zero, replicate}
use Rattle.dz_quantiser.specs.Error.{squared_error}
use Rattle.ebcot_contexts.specs.Cells.{fresh}
use Rattle.ebcot_contexts.specs.Contexts.{Shape}
use Rattle.ebcot_contexts.specs.Meaning.{IsBlock, known_after}
use Rattle.distortion_sums.specs.Distortion.{error_sum, distortion}
use Rattle.distortion_sums.specs.Places.{start_sum}
use Rattle.distortion_sums.proofs.Starts.{start_more, start_all, zeros_none}
use Rattle.ebcot_passes.proofs.Blocks.{known_none}
use Rattle.std.proofs.Common.{ℕ, suc, ◌+◌, ◌*◌, ◌/◌, ◌%◌, ◌^◌, ◌<◌, ◌≤◌, ◌≡◌, ◌≢◌, inl, inr, Bool, true, false}
use Rattle.std.proofs.Common.{List, [], ◌∷◌, length, get_or, set, refl, sym, ap, ◌∙◌, subst, arith}
use Rattle.std.specs.Prelude.{if◌then◌else◌}
use Rattle.std.proofs.lemmas.Bool.{cases_eq, cases_lt}
use Rattle.std.proofs.lemmas.List.{get_or-set_same, get_or-set_other, get_or_past, length-map}
use Rattle.std.proofs.lemmas.List.Elements.{All-get_or}
use Rattle.std.proofs.lemmas.Nat.{div-mul-add, div-add-mod', mod_below, mul-le}
use Rattle.std.proofs.Math.ListN.{get_or-map}
use Rattle.dz_quantiser.specs.Coefficient.{Coefficient, zero_coefficient}
use Rattle.dz_quantiser.specs.Coefficient.{word_of as coefficient_word}
use Rattle.cine_nums.specs.Bits.{bit_len}
use Rattle.cine_nums.proofs.BitLength.{bit_len-within, bit_len-above}
use Rattle.codeblock_views.specs.Magnitudes.{AreSmall, largest, block_planes}
use Rattle.ebcot_contexts.specs.Cells.{coef_at, number}
use Rattle.distortion_sums.specs.Coefs.{coefs_of}
use Rattle.ebcot_passes.specs.Coding.{word_of, AreCoefs, AreLoaded}

-- a coefficient of the list
pub coef_is : (cells : List Coefficient) (i : ℕ) →
    coef_at (coefs_of cells) i
    ≡ ((get_or cells i zero_coefficient).magnitude, (get_or cells i zero_coefficient).negative)
coef_is cells i = get_or-map (λ (q : Coefficient). (q.magnitude, q.negative)) cells i
    zero_coefficient

same_word : (m : ℕ) (b : Bool) →
    m + (if b then 2147483648 else 0) ≡ m + 0x80000000 * number b
same_word m true = refl
same_word m false = refl

-- both forms of its word
pub word_is : (cells : List Coefficient) (i : ℕ) →
    coefficient_word (get_or cells i zero_coefficient) ≡ word_of (coef_at (coefs_of cells) i)
word_is cells i =
    same_word (get_or cells i zero_coefficient).magnitude (get_or cells i zero_coefficient).negative
    ∙ ap word_of (sym (coef_is cells i))

small_at : (cells : List Coefficient) (i : ℕ) → AreSmall cells →
    (get_or cells i zero_coefficient).magnitude < 2 ^ 20
small_at cells i small = elim (cases_lt i (length cells)) [
  | inl lt ↦ All-get_or (λ q. q.magnitude < 2 ^ 20) cells i zero_coefficient lt small
  | inr le ↦ subst (λ (q : Coefficient). q.magnitude < 2 ^ 20)
      (sym (get_or_past cells i zero_coefficient le)) (omega arith)
]

pub small_below : (cells : List Coefficient) (i : ℕ) → AreSmall cells →
    (coef_at (coefs_of cells) i).0 < 0x80000000
small_below cells i small =
    let l = small_at cells i small in
    let e : (coef_at (coefs_of cells) i).0 ≡ (get_or cells i zero_coefficient).magnitude =
    ap (λ (c : ℕ × Bool). c.0) (coef_is cells i) in
    omega arith

-- two places of a block have two words of the grid
apart : (w i n : ℕ) → 0 < w → w ≤ 32 → i ≢ n →
    32 * (i / w) + i % w ≢ 32 * (n / w) + n % w
apart w i n some narrow other e =
    let a : i % w < w = mod_below i w some in
    let b : n % w < w = mod_below n w some in
    let r : i % w ≡ n % w = omega arith in
    let q : i / w ≡ n / w = omega arith in
    other (sym (div-add-mod' i w) ∙ ap (λ (v : ℕ). v * w + i % w) q
    ∙ ap (λ (v : ℕ). n / w * w + v) r ∙ div-add-mod' n w)

-- one place more
pub loaded_next : (w y x : ℕ) (coefs : List (ℕ × Bool)) (grid : List ℕ) (word : ℕ) → x < w →
    w ≤ 32 → 32 * y + x < length grid → word ≡ word_of (coef_at coefs (y * w + x))
    → AreLoaded w (y * w + x) coefs grid
    → AreLoaded w (y * w + (x + 1)) coefs (set grid (32 * y + x) word)
loaded_next w y x coefs grid word column narrow inside is before =
    let n : ℕ = y * w + x in
    let q : n / w ≡ y = div-mul-add y w x column in
    let r : n % w ≡ x =
    (let e : n / w * w + n % w ≡ n = div-add-mod' n w in
    let f : n / w * w ≡ y * w = ap (λ (v : ℕ). v * w) q in omega arith) in
    let index : 32 * (n / w) + n % w ≡ 32 * y + x = omega arith in
    λ i within. elim (cases_eq i n) [
      | inl e ↦ subst (λ (v : ℕ). get_or (set grid (32 * y + x) word) (32 * (v / w) + v % w) 0
          ≡ word_of (coef_at coefs v)) (sym e)
          (ap (λ (k : ℕ). get_or (set grid (32 * y + x) word) k 0) index
          ∙ get_or-set_same grid (32 * y + x) word 0 inside ∙ is)
      | inr other ↦
          let distinct : 32 * (i / w) + i % w ≢ 32 * y + x =
          (λ e. apart w i n (omega arith) narrow other (e ∙ sym index)) in
          get_or-set_other grid (32 * y + x) (32 * (i / w) + i % w) word 0 distinct
          ∙ before i (omega arith)
    ]

-- all rows of a block
pub loaded_block : (w h y : ℕ) (cells : List Coefficient) (grid : List ℕ) → h ≤ y →
    length cells ≡ h * w → AreSmall cells → AreLoaded w (y * w) (coefs_of cells) grid
    → AreCoefs w h (coefs_of cells) grid
loaded_block w h y cells grid all long small loaded =
    let fits : h * w ≤ y * w = mul-le h w y w all (omega arith) in
    let turned : h * w ≡ w * h = omega arith in
    record {
      long = length-map cells (λ (q : Coefficient). (q.magnitude, q.negative)) ∙ long ∙ turned;
      below = λ i. small_below cells i small;
      each = λ i within. loaded i (omega arith);
    }

-- a block has few bit-planes
largest_few : (cells : List Coefficient) → AreSmall cells → largest cells < 2 ^ 20
largest_few [] small = omega arith
largest_few (q ∷ qs) small =
    let rest : largest qs < 2 ^ 20 = largest_few qs (λ k d within. small (suc k) d (omega arith)) in
    let first : q.magnitude < 2 ^ 20 = small 0 q (omega arith) in
    omega arith

pub planes_few : (cells : List Coefficient) (planes : ℕ) → planes ≡ block_planes cells →
    AreSmall cells → planes ≤ 20
planes_few cells planes is small =
    let few : bit_len (largest cells) ≤ 20 =
    bit_len-within (largest cells) 20 (largest_few cells small) in
    subst (λ (v : ℕ). v ≤ 20) (sym is) few

-- a place of a row is one of the block
pub row_place : (w h y x : ℕ) → x < w → y < h → y * w + x < h * w
row_place w h y x column row =
    let fits : suc y * w ≤ h * w = mul-le (suc y) w h w row (omega arith) in
    let split : suc y * w ≡ y * w + w = omega arith in
    omega arith

-- the error of one place more
pub sum_next : (planes n from sum error : ℕ) (cells : List Coefficient) → n < length cells
    → error ≡ squared_error (get_or cells n zero_coefficient).magnitude planes
    → from + sum ≡ start_sum planes n (coefs_of cells)
    → from + (sum + error) ≡ start_sum planes (suc n) (coefs_of cells)
sum_next planes n from sum error cells inside is before =
    let long : length (coefs_of cells) ≡ length cells =
    length-map cells (λ (q : Coefficient). (q.magnitude, q.negative)) in
    let more : start_sum planes (suc n) (coefs_of cells)
    ≡ start_sum planes n (coefs_of cells) + squared_error (coef_at (coefs_of cells) n).0 planes =
    start_more planes n (coefs_of cells) (omega arith) in
    let same : squared_error (coef_at (coefs_of cells) n).0 planes
    ≡ squared_error (get_or cells n zero_coefficient).magnitude planes =
    ap (λ (c : ℕ × Bool). squared_error c.0 planes) (coef_is cells n) in
    omega arith

-- the magnitudes of a block are below 2 to the number of its bit-planes
largest_most : (cells : List Coefficient) (i : ℕ) →
    (get_or cells i zero_coefficient).magnitude ≤ largest cells
largest_most [] i = omega arith
largest_most (q ∷ qs) zero = omega arith
largest_most (q ∷ qs) (suc i) = let rest = largest_most qs i in omega arith

pub planes_fit : (cells : List Coefficient) (planes i : ℕ) → planes ≡ block_planes cells →
    (coef_at (coefs_of cells) i).0 < 2 ^ planes
planes_fit cells planes i is =
    let above : largest cells < 2 ^ block_planes cells = bit_len-above (largest cells) in
    let most : (get_or cells i zero_coefficient).magnitude ≤ largest cells = largest_most cells i in
    let same : (coef_at (coefs_of cells) i).0 ≡ (get_or cells i zero_coefficient).magnitude =
    ap (λ (c : ℕ × Bool). c.0) (coef_is cells i) in
    subst (λ (n : ℕ). (coef_at (coefs_of cells) i).0 < 2 ^ n) (sym is) (omega arith)

pub block_fits : (cells : List Coefficient) (s : Shape) (h w : ℕ) → s.planes ≡ block_planes cells →
    length cells ≡ h * w → s.width ≡ w → s.height ≡ h → IsBlock (coefs_of cells) s
block_fits cells s h w is long wide high =
    let turned : h * w ≡ w * h = omega arith in
    record {
      long = length-map cells (λ (q : Coefficient). (q.magnitude, q.negative)) ∙ long ∙ turned
          ∙ (λ i. sym wide i * sym high i);
      below = λ i. planes_fit cells s.planes i is;
    }

-- the error of all rows
pub all_rows : (planes h w y : ℕ) (cells : List Coefficient) → y ≡ h → length cells ≡ h * w →
    start_sum planes (y * w) (coefs_of cells)
    ≡ start_sum planes (length (coefs_of cells)) (coefs_of cells)
all_rows planes h w y cells all long =
    ap (λ (n : ℕ). start_sum planes n (coefs_of cells))
    (ap (λ (v : ℕ). v * w) all ∙ sym long
    ∙ sym (length-map cells (λ (q : Coefficient). (q.magnitude, q.negative))))

-- the distortion of a block of which nothing is known
pub start_is : (coefs : List (ℕ × Bool)) (s : Shape) (d : ℕ) → IsBlock coefs s →
    d ≡ start_sum s.planes (length coefs) coefs → d ≡ distortion coefs s 0
start_is coefs s d fits is =
    is ∙ start_all s.planes coefs
    ∙ ap (λ (n : ℕ). error_sum coefs (replicate n (fresh s.planes))) fits.long
    ∙ ap (error_sum coefs) (sym (known_none coefs s))

-- of a block without a bit-plane nothing is left
pub none_left : (coefs : List (ℕ × Bool)) (s : Shape) → IsBlock coefs s → s.planes ≡ 0 →
    0 ≡ distortion coefs s 0
none_left coefs s fits none =
    sym (zeros_none coefs (known_after coefs s 0)
    (λ i. subst (λ (n : ℕ). (coef_at coefs i).0 < 2 ^ n) none (fits.below i)))
