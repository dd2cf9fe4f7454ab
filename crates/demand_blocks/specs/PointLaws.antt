-- The points of a block are points that a hull may be asked of, and its first ones are completed by
-- the others.
use Rattle.std.proofs.Common.{ℕ, zero, suc, ◌+◌, ◌*◌, ◌^◌, ◌<◌, ◌≤◌, ◌≡◌, ◌==◌, Bool}
use Rattle.std.proofs.Common.{List}
use Rattle.std.proofs.Common.{length, refl, sym, ap, ◌∙◌, subst, arith}
use Rattle.std.proofs.Math.Nat.{zero-add}
use Rattle.std.proofs.Math.Pow.{pow_mono}
use Rattle.std.proofs.lemmas.Bool.{eqb-true}
use Rattle.std.proofs.lemmas.List.FromFn.{get_or-map-range_with_len, length-map-range_with_len}
use Rattle.std.proofs.lemmas.Nat.{mul-le}
use Rattle.mq_coder.specs.Code.{code}
use Rattle.mq_coder.proofs.Grown.{few_bytes}
use Rattle.mq_coder.proofs.Marks.{code_form}
use Rattle.ebcot_contexts.specs.Cells.{coef_at}
use Rattle.ebcot_contexts.specs.Contexts.{Shape}
use Rattle.ebcot_contexts.specs.Meaning.{IsBlock, symbols_of, known_after}
use Rattle.ebcot_contexts.proofs.Counts.{at_most}
use Rattle.distortion_sums.specs.Distortion.{distortion}
use Rattle.distortion_sums.proofs.Bounds.{block_few}
use Rattle.ebcot_passes.specs.Code.{passes_of}
use Rattle.ebcot_passes.proofs.LastPass.{all_passes_leave_none}
use Rattle.ebcot_passes.proofs.LaterPasses.{later_codes}
use Rattle.rd_hulls.specs.Points.{origin, point_at, IsPoint, ArePoints}
use Rattle.partial_hulls.specs.Known.{IsCompletion}
use Rattle.demand_blocks.specs.Points.{code_of, point_of, points_upto, points_of, least_after}

-- a block of at most 32 by 32 places and 20 bit-planes
pub record IsSmallBlock (coefs : List (ℕ × Bool)) (s : Shape) : Type 0 where
  pub fits : IsBlock coefs s
  pub wide : s.width ≤ 32
  pub high : s.height ≤ 32
  pub few : s.planes ≤ 20

pub code_length : (coefs : List (ℕ × Bool)) (s : Shape) (k : ℕ) → IsSmallBlock coefs s →
    k ≤ passes_of s.planes →
    (1 ≤ length (code (symbols_of coefs s k))) × (length (code (symbols_of coefs s k)) ≤ 131072)
code_length coefs s k small within =
    let form = code_form (symbols_of coefs s k) in
    let symbols = at_most coefs s k small.wide small.high small.few within in
    let bytes = few_bytes (symbols_of coefs s k) in
    let most = form.few in
    (form.some, omega (arith, symbols, bytes, most))

below_all : (coefs : List (ℕ × Bool)) (s : Shape) → IsSmallBlock coefs s → (i : ℕ) →
    (coef_at coefs i).0 < 1048576
below_all coefs s small i =
    let below = small.fits.below i in
    let most : 2 ^ s.planes ≤ 2 ^ 20 = pow_mono small.few in
    omega (arith, below, most)

pub distortion_few : (coefs : List (ℕ × Bool)) (s : Shape) (k : ℕ) → IsSmallBlock coefs s →
    distortion coefs s k < 2 ^ 64
distortion_few coefs s k small =
    let places : s.width * s.height ≤ 32 * 32 = mul-le s.width s.height 32 32 small.wide small.high
    in
    let long = small.fits.long in
    block_few coefs (known_after coefs s k) (omega (arith, places, long))
    (below_all coefs s small)

pub point_is : (coefs : List (ℕ × Bool)) (s : Shape) (k : ℕ) → IsSmallBlock coefs s →
    k ≤ passes_of s.planes → IsPoint k (point_of coefs s k)
point_is coefs s zero small within = record {
  passes = refl;
  none = λ e. refl;
  some = λ above. absurd (omega (arith, above));
  short = omega arith;
  wide = distortion_few coefs s 0 small;
}
point_is coefs s (suc k) small within =
    let bytes = code_length coefs s (suc k) small within in
    record {
      passes = refl;
      none = λ e. absurd (omega (arith, e));
      some = λ above. bytes.0;
      short = bytes.1;
      wide = distortion_few coefs s (suc k) small;
    }

pub upto_at : (coefs : List (ℕ × Bool)) (s : Shape) (n k : ℕ) → k ≤ n →
    point_at (points_upto coefs s n) k ≡ point_of coefs s k
unfolding points_upto
upto_at coefs s n k le =
    get_or-map-range_with_len (point_of coefs s) 0 (n + 1) k k origin (omega (arith, le))
    (zero-add k)

pub upto_long : (coefs : List (ℕ × Bool)) (s : Shape) (n : ℕ) →
    length (points_upto coefs s n) ≡ n + 1
unfolding points_upto
upto_long coefs s n = length-map-range_with_len (point_of coefs s) 0 (n + 1)

pub are_points : (coefs : List (ℕ × Bool)) (s : Shape) → IsSmallBlock coefs s →
    ArePoints (points_of coefs s)
are_points coefs s small =
    let long = upto_long coefs s (passes_of s.planes) in
    record {
      first = omega (arith, long);
      each = λ k below.
          let within : k ≤ passes_of s.planes = omega (arith, below, long) in
          subst (IsPoint k) (sym (upto_at coefs s (passes_of s.planes) k within))
          (point_is coefs s k small within);
    }

-- a later code is longer
later : (coefs : List (ℕ × Bool)) (s : Shape) (n k : ℕ) → n < k →
    least_after coefs s n ≤ length (code_of coefs s k)
later coefs s n zero lt = absurd (omega (arith, lt))
later coefs s n (suc k) lt = later_codes coefs s n (suc k) (omega (arith, lt))

pub completed : (coefs : List (ℕ × Bool)) (s : Shape) (n : ℕ) → IsSmallBlock coefs s →
    n ≤ passes_of s.planes →
    IsCompletion (points_upto coefs s n) (least_after coefs s n) (n == passes_of s.planes)
    (points_of coefs s)
completed coefs s n small within =
    let m = passes_of s.planes in
    let known = upto_long coefs s n in
    let all = upto_long coefs s m in
    record {
      are = are_points coefs s small;
      within = omega (arith, known, all, within);
      first = λ k below.
          let le : k ≤ n = omega (arith, below, known) in
          upto_at coefs s m k (omega (arith, le, within)) ∙ sym (upto_at coefs s n k le);
      longer = λ k past below.
          let le : k ≤ m = omega (arith, below, all) in
          subst (λ p. least_after coefs s n ≤ p.len) (sym (upto_at coefs s m k le))
          (later coefs s n k (omega (arith, past, known)));
      none_more = λ w.
          let same : n ≡ m = eqb-true n m w in
          omega (arith, known, all, same);
      ends = λ k last.
          let same : m ≡ k = omega (arith, last, all) in
          ap (λ p. p.dist) (upto_at coefs s m k (omega (arith, same)))
          ∙ subst (λ v. distortion coefs s v ≡ 0) same (all_passes_leave_none coefs s);
    }

-- the bound is from 1 to 131,072
pub least_some : (coefs : List (ℕ × Bool)) (s : Shape) (n : ℕ) → 1 ≤ least_after coefs s n
least_some coefs s n = omega arith

pub least_short : (coefs : List (ℕ × Bool)) (s : Shape) (n : ℕ) → IsSmallBlock coefs s →
    n ≤ passes_of s.planes → least_after coefs s n ≤ 131072
least_short coefs s n small within =
    let form = (code_form (symbols_of coefs s n)).least in
    let most = (code_length coefs s n small within).1 in
    omega (arith, form, most)
