-- A bound that is as steep as can be is true of all steps.
use Rattle.std.specs.Prelude.{ℕ, Bool, true, false, ◌≡◌, ◌*◌, List, [], ◌∷◌}
use Rattle.std.proofs.Common.{arith, subst, sym}
use Rattle.std.specs.List.{AllByRecursion}
use Rattle.rd_hulls.specs.declared.step.Step.{Step as HullStep}
use Rattle.budget_duals.specs.Listed.{left_at, offer_of, offer_at}
use Rattle.budget_duals.specs.ListedLaws.{true_at}
use Rattle.budget_duals.specs.Offers.{IsOffer, IsNoSteeper}
use Rattle.budget_duals.specs.Shy.{veil}
use Rattle.budget_duals.specs.declared.offer.Slope.{Slope}

no_steeper : (top : Slope) → top.gain ≡ 18446744073709551615 → top.len ≡ 1 → (s : HullStep) →
    IsNoSteeper top s
no_steeper top steep short s =
    let a : s.gain * top.len
    ≡ s.gain * 1 = subst (λ n. s.gain * n ≡ s.gain * 1) (sym short) (omega arith) in
    let b : top.gain * s.len ≡ 18446744073709551615 * s.len =
    subst (λ n. n * s.len ≡ 18446744073709551615 * s.len) (sym steep) (omega arith) in
    omega (arith, s.wide, s.longer)

all_below : (top : Slope) → top.gain ≡ 18446744073709551615 → top.len ≡ 1 → (left : List HullStep)
    → AllByRecursion (IsNoSteeper top) left
all_below top steep short [] = tt
all_below top steep short (s ∷ rest) =
    (no_steeper top steep short s, all_below top steep short rest)

veiled_of : (top : Slope) → top.gain ≡ 18446744073709551615 → top.len ≡ 1 →
    (test : Bool) (left : List HullStep)
    → IsOffer left (offer_of left) → IsOffer left (veil top test (offer_of left))
veiled_of top steep short false left is = is
veiled_of top steep short true [] is = is
veiled_of top steep short true (s ∷ rest) is = (tt, all_below top steep short (s ∷ rest))

pub veiled_at : (top : Slope) → top.gain ≡ 18446744073709551615 → top.len ≡ 1 → (test : Bool)
    (rows : List (List HullStep)) (places : List ℕ) (b : ℕ)
    → IsOffer (left_at rows places b) (veil top test (offer_at rows places b))
veiled_at top steep short test rows places b =
    veiled_of top steep short test (left_at rows places b) (true_at rows places b)
