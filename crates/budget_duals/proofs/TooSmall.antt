-- When a limit is too small.
use Rattle.std.proofs.Common.{ℕ, zero, suc, ◌≡◌, ◌≤◌, ◌↔◌, Result, Err, arith, sym, ap, subst, ◌∙◌}
use Rattle.std.proofs.Common.{refl}
use Rattle.cine_nums.specs.declared.budget.Budget.{Budget}
use Rattle.cine_nums.specs.declared.budget.Budget.TheVariants.{Frame, Inner, C0, C1, C2}
use Rattle.budget_duals.specs.Frame.{IsTooSmall}
use Rattle.budget_duals.specs.Held.{held_in, place_of, IsWithin, IsOutermostBroken}
use Rattle.budget_duals.specs.declared.certificate.AllocateRefusal.{AllocateRefusal}
use Rattle.budget_duals.specs.declared.certificate.AllocateRefusal.TheVariants.{LimitTooSmall}
use Rattle.budget_duals.specs.declared.certificate.Certificate.{Certificate}
use Rattle.budget_duals.specs.declared.held.Held.{Held}
use Rattle.budget_duals.specs.declared.limits.Limits.{Limits}

budget_at : ℕ → Budget
budget_at zero = Frame
budget_at (suc zero) = Inner
budget_at (suc (suc zero)) = C0
budget_at (suc (suc (suc zero))) = C1
budget_at (suc (suc (suc (suc n)))) = C2

at_place : (b : Budget) → budget_at (place_of b) ≡ b
unfolding budget_at
at_place Frame = refl
at_place Inner = refl
at_place C0 = refl
at_place C1 = refl
at_place C2 = refl

-- there is one outermost broken budget at most
outermost_once : (l : Limits) (h : Held) (a b : Budget) → IsOutermostBroken l h a
    → IsOutermostBroken l h b → a ≡ b
outermost_once l h a b first second =
    let x : place_of a ≤ place_of b = first.outermost b second.broken in
    let y : place_of b ≤ place_of a = second.outermost a first.broken in
    let same : place_of a ≡ place_of b = omega arith in
    sym (at_place a) ∙ (ap budget_at same ∙ at_place b)

abbrev Answer : Type 0
Answer = Result Certificate AllocateRefusal

pub too_small_at : (l : Limits) (h : Held) (b : Budget) (n : ℕ) → IsOutermostBroken l h b → n
    ≡ held_in h b
    → (budget : Budget) (needed : ℕ)
    → ◌≡◌ {A = Answer} (Err (LimitTooSmall b n)) (Err (LimitTooSmall budget needed)) ↔ IsTooSmall l
    h budget needed
too_small_at l h b n out is budget needed = (
  λ e. (let same : b ≡ budget = cc in
      let also : n ≡ needed = cc in
      (subst (IsOutermostBroken l h) same out, sym also ∙ (is ∙ ap (held_in h) same))),
  λ t. (let same : b ≡ budget = outermost_once l h b budget out t.0 in
      let also : n ≡ needed = is ∙ (ap (held_in h) same ∙ sym t.1) in
      cc),
)

pub not_too_small : (l : Limits) (h : Held) (r : Answer) → IsWithin l h
    → ((budget : Budget) (needed : ℕ) → r ≡ Err (LimitTooSmall budget needed) → ⊥)
    → (budget : Budget) (needed : ℕ)
    → (r ≡ Err (LimitTooSmall budget needed)) ↔ IsTooSmall l h budget needed
not_too_small l h r within other budget needed = (
  λ e. absurd (other budget needed e),
  λ t. absurd (within budget t.0.broken),
)
