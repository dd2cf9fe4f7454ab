-- Which limits are for a profile.
use Rattle.std.proofs.Common.{Option, refl, sym, subst, arith, ◌≡◌, ◌↔◌, ◌≤◌, ℕ, Bool, true, false, IsTrue, IfSome}
use Rattle.cine_nums.specs.Limits.{limit_of}
use Rattle.cine_nums.specs.declared.budget.Budget.{Budget}
use Rattle.cine_nums.specs.declared.budget.Budget.TheVariants.{Frame, Inner, C0, C1, C2}
use Rattle.cine_nums.specs.declared.profile.Profile.{Profile}
use Rattle.cine_nums.specs.declared.profile.Profile.TheVariants.{TwoK, FourK}
use Rattle.budget_duals.specs.Frame.{AreLow}
use Rattle.budget_duals.specs.Held.{limit_in, limits_of}
use Rattle.budget_duals.specs.declared.limits.Limits.{Limits}
use Rattle.frame_encoder.specs.Orders.{AreLimitsFor}

pub one_too_high : (profile : Profile) (limits : Limits) (b : Budget) (low : Bool) →
    (IsTrue low ↔ IfSome (limit_in limits b) (λ (n : ℕ). n ≤ limit_of profile b)) → low ≡ false →
    (IsTrue false ↔ AreLimitsFor profile limits)
one_too_high profile limits b true both high = absurd cc
one_too_high profile limits b false both high =
    (λ e. absurd cc, λ allowed. both.1 (allowed.most b))

-- the limits of a profile are for it
pub own_limits : (profile : Profile) (limits : Limits) → limits ≡ limits_of profile →
    AreLimitsFor profile limits
own_limits profile limits same =
    subst (λ (l : Limits). AreLimitsFor profile l) (sym same) (own profile)
  where
    own : (p : Profile) → AreLimitsFor p (limits_of p)
    own TwoK = record { most = low; inner = refl }
      where
        low : (b : Budget) → IfSome (limit_in (limits_of TwoK) b) (λ n. n ≤ limit_of TwoK b)
        low Frame = omega arith
        low Inner = tt
        low C0 = omega arith
        low C1 = omega arith
        low C2 = omega arith
    own FourK = record { most = low; inner = refl }
      where
        low : (b : Budget) → IfSome (limit_in (limits_of FourK) b) (λ n. n ≤ limit_of FourK b)
        low Frame = omega arith
        low Inner = omega arith
        low C0 = omega arith
        low C1 = omega arith
        low C2 = omega arith

few : (profile : Profile) (b : Budget) → limit_of profile b ≤ 1302083
few profile Frame = omega arith
few profile Inner = omega arith
few profile C0 = omega arith
few profile C1 = omega arith
few profile C2 = omega arith

-- limits for a profile are those of an allocation
pub are_low : (profile : Profile) (limits : Limits) → AreLimitsFor profile limits → AreLow limits
are_low profile limits allowed b n here =
    let most : n ≤ limit_of profile b =
    subst (λ (o : Option ℕ). IfSome o (λ m. m ≤ limit_of profile b)) here (allowed.most b) in
    let top = few profile b in
    omega (arith, most, top)
