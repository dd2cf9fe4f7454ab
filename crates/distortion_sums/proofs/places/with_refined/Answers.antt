use Rattle.std.proofs.Common.{ℕ, suc, ◌+◌, ◌-◌, ◌*◌, ◌%◌, ◌^◌, ◌<◌, ◌≤◌, ◌≡◌, sym, ap, ◌∙◌, arith}
use Rattle.std.proofs.lemmas.Nat.{mul-le}
use Rattle.ebcot_contexts.specs.Cells.{coef_at, bit_of}
use Rattle.ebcot_contexts.specs.Passes.{learned}
use Rattle.distortion_sums.specs.Distortion.{error_sum}
use Rattle.distortion_sums.specs.Places.{offset}
use Rattle.distortion_sums.proofs.Steps.{refined_takes, wrapped}
use Rattle.distortion_sums.proofs.places.with_refined.Goals as goal

turned : (h x : ℕ) → 2 * (h * (2 * x + 1)) ≡ 2 * h * (2 * x + 1)
turned h x = omega arith

pub returns : goal.returns
returns c = λ coefs cells i next is some held.
    let p : ℕ = c.args.plane in
    let m : ℕ = (coef_at coefs i).0 in
    let h : ℕ = c.units-half.result in
    let y : ℕ = c.from.result in
    let x : ℕ = 2 * h * (2 * y + 1) in
    let one : 1 * 2 ^ p ≡ 2 ^ p = omega arith in
    let he : 2 ^ p ≡ h = sym one ∙ sym c.units-half.ensures.value in
    let ye : offset p m ≡ y = ap (offset p) is ∙ sym c.offset_of.ensures.value ∙ sym c.from.ensures
    in
    let after : ℕ = error_sum coefs (learned p (bit_of m p) i cells) in
    let step : error_sum coefs cells + h * h ≡ after + x =
    (λ k. error_sum coefs cells + sym he k * sym he k)
    ∙ refined_takes coefs cells p i next (bit_of m p) some
    ∙ (λ k. after + 2 * (he k * (2 * ye k + 1)))
    ∙ ap (λ (v : ℕ). after + v) (turned h y) in
    let hl : h ≤ 1572864 = c.units-half.ensures.small in
    let ol : c.offset_of.result < 1048576 = c.offset_of.ensures.small in
    let fl : y ≡ c.offset_of.result = c.from.ensures in
    let few : x ≤ 3145728 * 2097153 =
    mul-le (2 * h) (2 * y + 1) 3145728 2097153 (omega arith) (omega arith) in
    ap (λ (v : ℕ). ((v + h * h) % 18446744073709551616 + (18446744073709551616 - x))
    % 18446744073709551616) held
    ∙ wrapped (error_sum coefs cells) after (h * h) x step (omega arith)
