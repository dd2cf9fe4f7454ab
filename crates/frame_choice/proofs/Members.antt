-- The byte budgets of a code-block, and the limits of a profile.
use Rattle.std.proofs.Common.{ℕ, ◌≡◌, ◌<◌, ◌≤◌, Bool, true, false, nat_lt, if◌then◌else◌, List}
use Rattle.std.proofs.Common.{is_some, Option, Some, None, refl, sym, arith}
use Rattle.cine_nums.specs.Limits.{has_inner}
use Rattle.cine_nums.specs.declared.profile.Profile.{Profile}
use Rattle.cine_nums.specs.declared.profile.Profile.TheVariants.{TwoK, FourK}
use Rattle.budget_duals.specs.Frame.{AreMembers}
use Rattle.budget_duals.specs.Held.{inner_of}
use Rattle.budget_duals.specs.Members.{members_of}

not_some : (n : ℕ) → ◌≡◌ {A = Option ℕ} None (Some n) → ⊥
not_some n e = let bad : ⊥ = cc in bad

both_ways : true ≡ false → ⊥
both_ways e = let bad : ⊥ = cc in bad

of_component : (c k : ℕ) (t : Bool) → c < 3 → (if t then Some c else None) ≡ Some k → k ≤ 2
of_component c k true below e = let same : c ≡ k = cc in omega arith
of_component c k false below e = absurd (not_some k e)

has_component : (c k : ℕ) (t : Bool) → (if t then Some c else None) ≡ Some k → t ≡ true
has_component c k true e = refl
has_component c k false e = absurd (not_some k e)

pub are_members : (limit : Option ℕ) (profile : Profile) (levels c r : ℕ) →
    is_some limit ≡ has_inner profile → c < 3 →
    AreMembers limit (members_of profile levels c r)
are_members None TwoK levels c r inner below = record {
  component = λ k e. of_component c k true below e;
  none = λ e. refl;
  nested = λ n k e f. absurd (not_some n e);
}
are_members (Some n) TwoK levels c r inner below = absurd (both_ways inner)
are_members None FourK levels c r inner below = absurd (both_ways (sym inner))
are_members (Some n) FourK levels c r inner below = record {
  component = λ k e. of_component c k (nat_lt r levels) below e;
  none = λ e. absurd (not_some n (sym e));
  nested = λ m k e f. has_component c k (nat_lt r levels) f;
}

-- a frame of a profile with no 2K portion holds nothing in it
pub none_inside : (limit : Option ℕ) (profile : Profile) (main : ℕ) (parts : List ℕ) →
    is_some limit ≡ has_inner profile → limit ≡ None → inner_of profile main parts ≡ 0
none_inside limit TwoK main parts inner none = refl
none_inside None FourK main parts inner none = absurd (both_ways (sym inner))
none_inside (Some n) FourK main parts inner none = absurd (not_some n (sym none))
