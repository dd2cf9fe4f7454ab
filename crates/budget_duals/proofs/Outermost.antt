-- The outermost budget that holds more than its limit.
use Rattle.std.proofs.Common.{ℕ, ◌<◌, ◌≤◌, ◌⊎◌, inl, inr, arith}
use Rattle.cine_nums.specs.declared.budget.Budget.{Budget}
use Rattle.cine_nums.specs.declared.budget.Budget.TheVariants.{Frame, Inner, C0, C1, C2}
use Rattle.budget_duals.specs.declared.held.Held.{Held}
use Rattle.budget_duals.specs.declared.limits.Limits.{Limits}
use Rattle.budget_duals.specs.Held.{Breaks, IsWithin, IsOutermostBroken, place_of}

pub two_ways : (m n : ℕ) → (m ≤ n) ⊎ (n < m)
two_ways m n = grind arith

none_outside : (l : Limits) (h : Held) (b : Budget)
    → ((o : Budget) → place_of o < place_of b → ¬ Breaks l h o) → Breaks l h b
    → IsOutermostBroken l h b
none_outside l h b outside broken = record {
  broken = broken;
  outermost = λ o also. elim (two_ways (place_of b) (place_of o)) [
    | inl le ↦ le
    | inr lt ↦ absurd (outside o lt also)
  ];
}

module _ (l : Limits) (h : Held) where
  pub all_within : ¬ Breaks l h Frame → ¬ Breaks l h Inner → ¬ Breaks l h C0 → ¬ Breaks l h C1
      → ¬ Breaks l h C2 → IsWithin l h
  all_within f i a b c Frame = f
  all_within f i a b c Inner = i
  all_within f i a b c C0 = a
  all_within f i a b c C1 = b
  all_within f i a b c C2 = c

  before_frame : (o : Budget) → place_of o < place_of Frame → ¬ Breaks l h o
  before_frame o lt = absurd (omega arith)

  before_inner : ¬ Breaks l h Frame → (o : Budget) → place_of o < place_of Inner → ¬ Breaks l h o
  before_inner f Frame lt = f
  before_inner f Inner lt = absurd (omega arith)
  before_inner f C0 lt = absurd (omega arith)
  before_inner f C1 lt = absurd (omega arith)
  before_inner f C2 lt = absurd (omega arith)

  before_c0 : ¬ Breaks l h Frame → ¬ Breaks l h Inner → (o : Budget) → place_of o < place_of C0
      → ¬ Breaks l h o
  before_c0 f i Frame lt = f
  before_c0 f i Inner lt = i
  before_c0 f i C0 lt = absurd (omega arith)
  before_c0 f i C1 lt = absurd (omega arith)
  before_c0 f i C2 lt = absurd (omega arith)

  before_c1 : ¬ Breaks l h Frame → ¬ Breaks l h Inner → ¬ Breaks l h C0 → (o : Budget)
      → place_of o < place_of C1 → ¬ Breaks l h o
  before_c1 f i a Frame lt = f
  before_c1 f i a Inner lt = i
  before_c1 f i a C0 lt = a
  before_c1 f i a C1 lt = absurd (omega arith)
  before_c1 f i a C2 lt = absurd (omega arith)

  before_c2 : ¬ Breaks l h Frame → ¬ Breaks l h Inner → ¬ Breaks l h C0 → ¬ Breaks l h C1
      → (o : Budget) → place_of o < place_of C2 → ¬ Breaks l h o
  before_c2 f i a b Frame lt = f
  before_c2 f i a b Inner lt = i
  before_c2 f i a b C0 lt = a
  before_c2 f i a b C1 lt = b
  before_c2 f i a b C2 lt = absurd (omega arith)

  pub at_frame : Breaks l h Frame → IsOutermostBroken l h Frame
  at_frame broken = none_outside l h Frame before_frame broken

  pub at_inner : ¬ Breaks l h Frame → Breaks l h Inner → IsOutermostBroken l h Inner
  at_inner f broken = none_outside l h Inner (before_inner f) broken

  pub at_c0 : ¬ Breaks l h Frame → ¬ Breaks l h Inner → Breaks l h C0 → IsOutermostBroken l h C0
  at_c0 f i broken = none_outside l h C0 (before_c0 f i) broken

  pub at_c1 : ¬ Breaks l h Frame → ¬ Breaks l h Inner → ¬ Breaks l h C0 → Breaks l h C1
      → IsOutermostBroken l h C1
  at_c1 f i a broken = none_outside l h C1 (before_c1 f i a) broken

  pub at_c2 : ¬ Breaks l h Frame → ¬ Breaks l h Inner → ¬ Breaks l h C0 → ¬ Breaks l h C1
      → Breaks l h C2 → IsOutermostBroken l h C2
  at_c2 f i a b broken = none_outside l h C2 (before_c2 f i a b) broken
