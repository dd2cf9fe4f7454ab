-- The test of what an allocation over two blocks asks is right.
use Rattle.std.proofs.Common.{ℕ, zero, suc, ◌≡◌, ◌+◌, ◌*◌, ◌<◌, ◌≤◌, ◌^◌, ◌==◌, nat_lt, Bool, true}
use Rattle.std.proofs.Common.{false, List, [], ◌∷◌, slice_index_or, Option, Some}
use Rattle.std.proofs.Common.{None, arith, refl}
use Rattle.std.proofs.lemmas.Bool.Decides.{nat_tests}
use Rattle.std.specs.List.{AllByRecursion}
use Rattle.cine_nums.specs.declared.budget.Budget.TheVariants.{Frame, Inner, C0, C1, C2}
use Rattle.rd_hulls.specs.declared.step.Step.{Step}
use Rattle.rd_hulls.specs.Steps.{FallFrom, IsFalling}
use Rattle.allocation_bound.specs.Laws.{FollowOn}
use Rattle.allocation_bound.specs.Steps.{gains, lens}
use Rattle.budget_duals.specs.Certified.{IsReady}
use Rattle.budget_duals.specs.Frame.{AreLow, AreMembers}
use Rattle.budget_duals.specs.Listed.{steps_of}
use Rattle.budget_duals.specs.Tree.{number_at}
use Rattle.budget_duals.specs.TwoBlocks.{both, goes_from, falls_from, falls, few_component, nests}
use Rattle.budget_duals.specs.TwoBlocks.{few_inner, limits_low, steps_fit, member_fits, two_fits}
use Rattle.budget_duals.specs.TwoBlocks.{two_inside, two_held}
use Rattle.budget_duals.specs.declared.held.Held.{Held}
use Rattle.budget_duals.specs.declared.limits.Limits.{Limits}
use Rattle.budget_duals.specs.declared.members.Members.{Members}

both_one : (p q : Bool) → both p q ≡ true → p ≡ true
both_one true q e = refl
both_one false q e = e

both_two : (p q : Bool) → both p q ≡ true → q ≡ true
both_two true q e = e
both_two false q e = let bad : ⊥ = cc in absurd bad

not_both : false ≡ true → ⊥
not_both e = let bad : ⊥ = cc in bad

less : (a b : ℕ) → nat_lt a b ≡ true → a < b
less a b e = grind (arith, nat_tests)

equal : (a b : ℕ) → (a == b) ≡ true → a ≡ b
equal a b e = grind (arith, nat_tests)

follows : (c : ℕ) (steps : List Step) → goes_from c steps ≡ true → FollowOn c steps
follows c [] e = tt
follows c (s ∷ rest) e =
    let from : s.from ≡ c = equal s.from c (both_one (s.from == c) _ e) in
    let later = both_two (nat_lt s.to 4) (goes_from s.to rest) (both_two (s.from == c) _ e) in
    (from, follows s.to rest later)

within : (c : ℕ) (steps : List Step) → goes_from c steps ≡ true →
    AllByRecursion (λ (s : Step). s.to ≤ 3) steps
within c [] e = tt
within c (s ∷ rest) e =
    let more = both_two (s.from == c) (both (nat_lt s.to 4) (goes_from s.to rest)) e in
    let to : s.to < 4 = less s.to 4 (both_one (nat_lt s.to 4) (goes_from s.to rest) more) in
    (omega arith, within s.to rest (both_two (nat_lt s.to 4) (goes_from s.to rest) more))

fall_from : (g n : ℕ) (steps : List Step) → falls_from g n steps ≡ true → FallFrom g n steps
fall_from g n [] e = tt
fall_from g n (s ∷ rest) e = (
  less (s.gain * n) (g * s.len)
      (both_one (nat_lt (s.gain * n) (g * s.len)) (falls_from s.gain s.len rest) e),
  fall_from s.gain s.len rest
      (both_two (nat_lt (s.gain * n) (g * s.len)) (falls_from s.gain s.len rest) e),
)

falling : (steps : List Step) → falls steps ≡ true → IsFalling steps
falling [] e = tt
falling (s ∷ rest) e = fall_from s.gain s.len rest e

small : (component : Option ℕ) → few_component component ≡ true → (c : ℕ) → component ≡ Some c → c
    ≤ 2
small None e c is = let bad : ⊥ = cc in absurd bad
small (Some d) e c is =
    let few : d < 3 = less d 3 e in
    let same : d ≡ c = cc in
    omega arith

no_inner : (limit : Option ℕ) (inner : Bool) (component : Option ℕ) → nests limit inner component
    ≡ true → limit ≡ None
    → inner ≡ false
no_inner None true component e is = absurd (not_both e)
no_inner None false component e is = refl
no_inner (Some n) inner component e is = let bad : ⊥ = cc in absurd bad

in_inner : (limit : Option ℕ) (inner : Bool) (component : Option ℕ) → nests limit inner component
    ≡ true → (n c : ℕ)
    → limit ≡ Some n → component ≡ Some c → inner ≡ true
in_inner None inner component e n c is own = let bad : ⊥ = cc in absurd bad
in_inner (Some m) inner None e n c is own = let bad : ⊥ = cc in absurd bad
in_inner (Some m) inner (Some d) e n c is own = e

member : (limit : Option ℕ) (m : Members) → member_fits limit m ≡ true → AreMembers limit m
member limit m e = record {
  component = small m.component (both_one (few_component m.component) _ e);
  none = no_inner limit m.inner m.component (both_two (few_component m.component) _ e);
  nested = in_inner limit m.inner m.component (both_two (few_component m.component) _ e);
}

low_some : (k n : ℕ) → nat_lt k 4194304 ≡ true → Some k ≡ Some n → n < 2 ^ 22
low_some k n e is =
    let few : k < 4194304 = less k 4194304 e in
    let same : k ≡ n = cc in
    omega arith

low_inner : (limit : Option ℕ) (held n : ℕ) → few_inner limit held ≡ true → limit ≡ Some n →
    n < 2 ^ 22
low_inner None held n e is = let bad : ⊥ = cc in absurd bad
low_inner (Some k) held n e is = low_some k n e is

low_limits : (limits : Limits) (held : ℕ) → limits_low limits ≡ true → few_inner limits.inner held
    ≡ true → AreLow limits
low_limits limits held e inner Frame n is = low_some limits.frame n
    (both_one (nat_lt limits.frame 4194304) _ e) is
low_limits limits held e inner Inner n is = low_inner limits.inner held n inner is
low_limits limits held e inner C0 n is =
    low_some (slice_index_or limits.component 0 0) n
    (both_one _ _ (both_two (nat_lt limits.frame 4194304) _ e)) is
low_limits limits held e inner C1 n is =
    low_some (slice_index_or limits.component 1 0) n
    (both_one _ _ (both_two _ _ (both_two (nat_lt limits.frame 4194304) _ e))) is
low_limits limits held e inner C2 n is =
    low_some (slice_index_or limits.component 2 0) n
    (both_two _ _ (both_two _ _ (both_two (nat_lt limits.frame 4194304) _ e))) is

none_held : (limit : Option ℕ) (held : ℕ) → few_inner limit held ≡ true → limit ≡ None → held ≡ 0
none_held None held e is = equal held 0 e
none_held (Some k) held e is = let bad : ⊥ = cc in absurd bad

module _ (steps : List Step) where
  pick : (P : List Step → ℕ → Type 0) → P (steps_of 0 steps) 0 → P (steps_of 1 steps) 1 → (b : ℕ) →
      b < 2
      → P (steps_of b steps) b
  pick P first second zero below = first
  pick P first second (suc zero) below = second
  pick P first second (suc (suc b)) below = absurd (omega arith)

zero_at : (b : ℕ) → b < 2 → number_at (0 ∷ 0 ∷ []) b ≡ 0
zero_at zero below = refl
zero_at (suc zero) below = refl
zero_at (suc (suc b)) below = absurd (omega arith)

three_at : (b k : ℕ) → b < 2 → k ≤ 3 → k ≤ number_at (3 ∷ 3 ∷ []) b
three_at zero k below le = le
three_at (suc zero) k below le = le
three_at (suc (suc b)) k below le = absurd (omega arith)

members_at : (limit : Option ℕ) (m n : Members) → AreMembers limit m → AreMembers limit n → (b : ℕ)
    → b < 2
    → AreMembers limit (two_inside m n b)
members_at limit m n first second zero below = first
members_at limit m n first second (suc zero) below = second
members_at limit m n first second (suc (suc b)) below = absurd (omega arith)

pub two_ready : (limits : Limits) (base : Held) (m n : Members) (xs ys : List ℕ) (steps : List Step)
    (start : ℕ)
    → two_fits limits (two_held base m n xs ys (0 ∷ 0 ∷ [])).inner m n (steps_of 0 steps)
    (steps_of 1 steps) start ≡ true
    → IsReady limits (3 ∷ 3 ∷ []) (0 ∷ 0 ∷ []) (two_inside m n) (two_held base m n xs ys)
    (λ b. steps_of b steps) start
two_ready limits base m n xs ys steps start e =
    let a : List Step = steps_of 0 steps in
    let b : List Step = steps_of 1 steps in
    let held : ℕ = (two_held base m n xs ys (0 ∷ 0 ∷ [])).inner in
    let first = both_one (steps_fit a) _ e in
    let e2 = both_two (steps_fit a) _ e in
    let second = both_one (steps_fit b) _ e2 in
    let e3 = both_two (steps_fit b) _ e2 in
    let one = both_one (member_fits limits.inner m) _ e3 in
    let e4 = both_two (member_fits limits.inner m) _ e3 in
    let two = both_one (member_fits limits.inner n) _ e4 in
    let e5 = both_two (member_fits limits.inner n) _ e4 in
    let low = both_one (limits_low limits) _ e5 in
    let e6 = both_two (limits_low limits) _ e5 in
    let inner = both_one (few_inner limits.inner held) _ e6 in
    let e7 = both_two (few_inner limits.inner held) _ e6 in
    let wide : start < 1000000000000000000000000000 = less start 1000000000000000000000000000
    (both_one _ _ e7) in
    let e8 = both_two (nat_lt start 1000000000000000000000000000) _ e7 in
    let gain : gains a + gains b < start
    + 1 = less (gains a + gains b) (start + 1) (both_one _ _ e8) in
    let bytes : lens a + lens b < 4294967296 =
    less (lens a + lens b) 4294967296 (both_two (nat_lt (gains a + gains b) (start + 1)) _ e8) in
    record {
      unpassed = zero_at;
      can_walk = record {
        follow = pick steps (λ l k. FollowOn 0 l) (follows 0 a (both_one (goes_from 0 a) _ first))
            (follows 0 b (both_one (goes_from 0 b) _ second));
        fall = pick steps (λ l k. IsFalling l) (falling a (both_two (goes_from 0 a) _ first))
            (falling b (both_two (goes_from 0 b) _ second));
        to = pick steps (λ l k. AllByRecursion (λ (s : Step). s.to ≤ number_at (3 ∷ 3 ∷ []) k) l)
            (within 0 a (both_one (goes_from 0 a) _ first))
            (within 0 b (both_one (goes_from 0 b) _ second));
      };
      gain = omega arith;
      wide = omega arith;
      bytes = omega arith;
      low = low_limits limits held low inner;
      members = members_at limits.inner m n (member limits.inner m one) (member limits.inner n two);
      none = none_held limits.inner held inner;
    }

-- two blocks ask nothing of a step
pub all_known : (steps : List Step) → AllByRecursion (λ (s : Step). Unit {0}) steps
all_known [] = tt
all_known (s ∷ rest) = (tt, all_known rest)
