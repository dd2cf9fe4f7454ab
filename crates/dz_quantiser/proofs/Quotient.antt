-- The two forms in which the code divides by a step.
use Rattle.std.proofs.Common.{◌≡◌, ℕ, ◌+◌, ◌-◌, ◌*◌, ◌/◌, ◌%◌, ◌^◌, ◌<◌, ◌≤◌, arith, ap, sym, ◌∙◌}
use Rattle.std.proofs.Common.{pow-add}
use Rattle.std.proofs.Math.Nat.{mul-div-mul_right, mul-le-mul, pow-le-pow_right, mod-eq_of_lt}
use Rattle.std.proofs.lemmas.Nat.{pow_pos}

-- a step without a mantissa is a power of two
pub by_shift : (size gain : ℕ) → gain ≤ 12 →
    size / 2 ^ (13 - gain) ≡ size * 2 ^ gain * 2048 / (8192 * 2048)
by_shift size gain le =
    let positive : 0 < 2 ^ gain = pow_pos gain in
    let exponents : 13 - gain + gain ≡ 13 = omega arith in
    let whole : 8192 ≡ 2 ^ (13 - gain) * 2 ^ gain = ap (λ n. 2 ^ n) (sym exponents)
    ∙ pow-add 2 (13 - gain) gain in
    sym (mul-div-mul_right size (2 ^ (13 - gain)) positive)
    ∙ ap (λ n. size * 2 ^ gain / n) (sym whole)
    ∙ sym (mul-div-mul_right (size * 2 ^ gain) 8192 (omega arith))

-- another step, without the factors that both sides have
pub by_division : (size gain mantissa : ℕ) → size ≤ 2 ^ 30 → gain ≤ 12 →
    size * 2 ^ gain % 18446744073709551616 / (4 * (2048 + mantissa))
    ≡ size * 2 ^ gain * 2048 / (8192 * (2048 + mantissa))
by_division size gain mantissa small le =
    let power : 2 ^ gain ≤ 4096 = pow-le-pow_right {n = 2} (omega arith) le in
    let product : size * 2 ^ gain ≤ 2 ^ 30 * 4096 = mul-le-mul small power in
    let unwrapped : size * 2 ^ gain % 18446744073709551616 ≡ size * 2 ^ gain =
    mod-eq_of_lt (omega arith) in
    let factor : 8192 * (2048 + mantissa) ≡ (4 * (2048 + mantissa)) * 2048 = omega arith in
    ap (λ n. n / (4 * (2048 + mantissa))) unwrapped
    ∙ sym (mul-div-mul_right (size * 2 ^ gain) (4 * (2048 + mantissa)) (omega arith))
    ∙ ap (λ n. size * 2 ^ gain * 2048 / n) (sym factor)
