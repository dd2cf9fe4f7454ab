use Rattle.std.proofs.Common.{ℕ, suc, ◌+◌, ◌-◌, ◌*◌, ◌%◌, ◌^◌, ◌<◌, ◌≤◌, ◌≡◌, set, sym, ap, ◌∙◌, arith}
use Rattle.std.proofs.lemmas.Nat.{mul-le}
use Rattle.ebcot_contexts.specs.Cells.{cell_at, coef_at, become_significant}
use Rattle.distortion_sums.specs.Distortion.{error_sum}
use Rattle.distortion_sums.proofs.Steps.{new_takes, wrapped}
use Rattle.distortion_sums.proofs.places.with_new.Goals as goal

pub returns : goal.returns
returns c = λ coefs cells i negative next is none one held.
    let p : ℕ = c.args.plane in
    let m : ℕ = (coef_at coefs i).0 in
    let t : ℕ = c.units-known.result in
    let x : ℕ = t * (4 * c.from.result + 2) in
    let te : 3 * 2 ^ p ≡ t = sym c.units-known.ensures.value in
    let me : m ≡ c.from.result = is ∙ sym c.from.ensures in
    let after : ℕ =
    error_sum coefs (set cells i (become_significant p negative (cell_at cells i))) in
    let step : error_sum coefs cells + t * t ≡ after + x =
    (λ k. error_sum coefs cells + sym te k * sym te k)
    ∙ new_takes coefs cells p i next negative none one
    ∙ (λ k. after + te k * (4 * me k + 2)) in
    let tl : t ≤ 1572864 = c.units-known.ensures.small in
    let ml : c.args.magnitude < 2147483648 = c.requires.magnitude in
    let fl : c.from.result ≡ c.args.magnitude = c.from.ensures in
    let few : x ≤ 1572864 * 8589934594 =
    mul-le t (4 * c.from.result + 2) 1572864 8589934594 tl (omega arith) in
    ap (λ (v : ℕ). ((v + t * t) % 18446744073709551616 + (18446744073709551616 - x))
    % 18446744073709551616) held
    ∙ wrapped (error_sum coefs cells) after (t * t) x step (omega arith)
