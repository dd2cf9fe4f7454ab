-- The distortion of a block fits in 64 bits.
use Rattle.std.proofs.Common.{ℕ, zero, suc, ◌+◌, ◌-◌, ◌*◌, ◌/◌, ◌^◌, ◌<◌, ◌≤◌, ◌≡◌, ◌⊎◌, inl, inr, Bool}
use Rattle.std.proofs.Common.{List, [], ◌∷◌, length, refl, sym, ap, ◌∙◌, arith, subst}
use Rattle.std.proofs.lemmas.Bool.{cases_lt}
use Rattle.std.proofs.lemmas.Nat.{mul-le}
use Rattle.std.proofs.Math.Nat.{div-mul-le_self}
use Rattle.dz_quantiser.specs.Error.{middle, distance, square, squared_error}
use Rattle.ebcot_contexts.specs.Cells.{Cell, coef_at}
use Rattle.distortion_sums.specs.Distortion.{error_sum}
use Rattle.distortion_sums.proofs.Errors.{unknown_error}

middle_few : (n u m : ℕ) → n * 2 ^ u ≤ m → middle n u ≤ 3 * m
middle_few zero u m le = omega arith
middle_few (suc n) u m le =
    let split : suc n * 2 ^ u ≡ n * 2 ^ u + 2 ^ u = omega arith in
    let twice : (2 * suc n + 1) * 2 ^ u ≡ 2 * (suc n * 2 ^ u) + 2 ^ u = omega arith in
    omega arith

whole_few : (m : ℕ) → m < 1048576 → middle m 0 ≤ 2097151
whole_few zero l = omega arith
whole_few (suc m) l = omega arith

pub error_few : (m u : ℕ) → m < 1048576 → squared_error m u ≤ 4194304 * 4194304
error_few m u l =
    let left : middle m 0 ≤ 2097151 = whole_few m l in
    let right : middle (m / 2 ^ u) u
    ≤ 3 * m = middle_few (m / 2 ^ u) u m (div-mul-le_self m (2 ^ u))
    in
    let d : ℕ = distance (middle m 0) (middle (m / 2 ^ u) u) in
    let few : d ≤ 4194304 = omega arith in
    mul-le d d 4194304 4194304 few few

sum_few : (coefs : List (ℕ × Bool)) (cells : List Cell) →
    ((i : ℕ) → (coef_at coefs i).0 < 1048576)
    → error_sum coefs cells ≤ length coefs * 17592186044416
sum_few [] cells small = omega arith
sum_few (m ∷ ms) [] small = omega arith
sum_few (m ∷ ms) (c ∷ cs) small =
    let first : squared_error m.0 c.unknown ≤ 4194304 * 4194304 =
    error_few m.0 c.unknown (small 0) in
    let rest : error_sum ms cs ≤ length ms * 17592186044416 =
    sum_few ms cs (λ i. small (suc i)) in
    omega arith

-- the distortion of a block
pub block_few : (coefs : List (ℕ × Bool)) (cells : List Cell) → length coefs ≤ 1024 →
    ((i : ℕ) → (coef_at coefs i).0 < 1048576)
    → error_sum coefs cells < 18446744073709551616
block_few coefs cells few small =
    let all = sum_few coefs cells small in
    omega arith
