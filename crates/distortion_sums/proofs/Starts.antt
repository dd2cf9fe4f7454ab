-- The distortion of a block of which nothing is known.
use Rattle.std.proofs.Common.{ℕ, zero, suc, ◌+◌, ◌*◌, ◌/◌, ◌^◌, ◌<◌, ◌≤◌, ◌≡◌, Bool, List, [], ◌∷◌}
use Rattle.std.proofs.Common.{length, take, replicate, refl, sym, ap, ◌∙◌, arith, subst}
use Rattle.std.proofs.lemmas.List.{take_all}
use Rattle.dz_quantiser.specs.Error.{middle, distance, square, squared_error}
use Rattle.ebcot_contexts.specs.Cells.{Cell, fresh, coef_at}
use Rattle.distortion_sums.specs.Distortion.{error_sum}
use Rattle.distortion_sums.specs.Places.{start_sum}

-- one place more
pub start_more : (n k : ℕ) (coefs : List (ℕ × Bool)) → k < length coefs →
    start_sum n (suc k) coefs ≡ start_sum n k coefs + squared_error (coef_at coefs k).0 n
start_more n k [] l = absurd (omega arith)
start_more n zero (m ∷ ms) l = omega arith
start_more n (suc k) (m ∷ ms) l =
    let rest : start_sum n (suc k) ms ≡ start_sum n k ms + squared_error (coef_at ms k).0 n =
    start_more n k ms (omega arith) in
    omega arith

-- all places
pub start_all : (n : ℕ) (coefs : List (ℕ × Bool)) →
    start_sum n (length coefs) coefs ≡ error_sum coefs (replicate (length coefs) (fresh n))
start_all n coefs = ap (λ (cs : List (ℕ × Bool)). error_sum cs (replicate (length coefs) (fresh n)))
    (take_all (length coefs) coefs (omega arith))

no_error : (m u : ℕ) → m < 1 → squared_error m u ≡ 0
no_error zero u l =
    let z : 0 / 2 ^ u ≡ 0 = omega arith in
    ap (λ (v : ℕ). middle_square v u) z
  where
    middle_square : ℕ → ℕ → ℕ
    middle_square v u = square (distance (middle 0 0) (middle v u))
no_error (suc m) u l = absurd (omega arith)

-- a block of zeros
pub zeros_none : (coefs : List (ℕ × Bool)) (cells : List Cell) →
    ((i : ℕ) → (coef_at coefs i).0 < 1) → error_sum coefs cells ≡ 0
zeros_none [] cells small = refl
zeros_none (m ∷ ms) [] small = refl
zeros_none (m ∷ ms) (c ∷ cs) small =
    let first : squared_error m.0 c.unknown ≡ 0 = no_error m.0 c.unknown (small 0) in
    let rest : error_sum ms cs ≡ 0 = zeros_none ms cs (λ i. small (suc i)) in
    omega arith
