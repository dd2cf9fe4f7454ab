-- The budgets of a frame are nested, and the law of what they hold is that of its `Price`.
use Rattle.std.proofs.Common.{ℕ, zero, suc, ◌≡◌, ◌+◌, ◌<◌, ◌≤◌, ◌^◌, ◌==◌, ◌↔◌, inl, inr, IsTrue}
use Rattle.std.proofs.Common.{Bool}
use Rattle.std.proofs.Common.{true, false, if◌then◌else◌, List, [], ◌∷◌, length, set, get_or}
use Rattle.std.proofs.Common.{slice_index_or, Option, Some, None, arith, refl, sym, ap, subst, ◌∙◌}
use Rattle.std.proofs.lemmas.Bool.Decides.{nat_tests}
use Rattle.cine_nums.specs.declared.budget.Budget.{Budget}
use Rattle.cine_nums.specs.declared.budget.Budget.TheVariants.{Frame, Inner, C0, C1, C2}
use Rattle.std.specs.List.{AllByRecursion}
use Rattle.allocation_bound.specs.Budgets.{IsNested, IsOn, chain}
use Rattle.allocation_bound.specs.Settled.{Budgets, AreBudgets}
use Rattle.budget_duals.specs.Frame.{around_each, limit_each, or_none, frame_budgets, AreLow}
use Rattle.budget_duals.specs.Frame.{AreMembers}
use Rattle.budget_duals.specs.Held.{held_in, limit_in, place_of, IsWithin}
use Rattle.budget_duals.specs.Members.{is_in, is_of}
use Rattle.budget_duals.specs.Numbered.{node_by, node_in, bytes_in}
use Rattle.budget_duals.specs.Price.{HasLaw}
use Rattle.budget_duals.specs.declared.held.Held.{Held}
use Rattle.budget_duals.specs.declared.limits.Limits.{Limits}
use Rattle.budget_duals.specs.declared.members.Members.{Members}
use Rattle.allocation_bound.proofs.Chains.{on_below}
use Rattle.budget_duals.proofs.Outermost.{two_ways}

pub nested_each : (inner : Option ℕ) → IsNested (λ j. get_or (around_each inner) j [])
nested_each None zero = tt
nested_each None (suc zero) = (omega arith, refl)
nested_each None (suc (suc zero)) = (omega arith, refl)
nested_each None (suc (suc (suc zero))) = (omega arith, refl)
nested_each None (suc (suc (suc (suc zero)))) = (omega arith, refl)
nested_each None (suc (suc (suc (suc (suc j))))) = tt
nested_each (Some n) zero = tt
nested_each (Some n) (suc zero) = (omega arith, refl)
nested_each (Some n) (suc (suc zero)) = (omega arith, refl)
nested_each (Some n) (suc (suc (suc zero))) = (omega arith, refl)
nested_each (Some n) (suc (suc (suc (suc zero)))) = (omega arith, refl)
nested_each (Some n) (suc (suc (suc (suc (suc j))))) = tt

-- the budgets that a block is in stand on the chain of its innermost one
abbrev IsOnChain : Option ℕ → Option ℕ → Bool → ℕ → Type 0
IsOnChain limit component inner j =
    IsOn j (chain (λ i. get_or (around_each limit) i [])
    (node_by component (if inner then 1 else 0)))

frame_on : (limit component : Option ℕ) (inner : Bool) → ((c : ℕ) → component ≡ Some c → c ≤ 2)
    → IsOnChain limit component inner 0
frame_on limit None false small = inl refl
frame_on None None true small = inr (inl refl)
frame_on (Some n) None true small = inr (inl refl)
frame_on None (Some zero) inner small = inr (inl refl)
frame_on None (Some (suc zero)) inner small = inr (inl refl)
frame_on None (Some (suc (suc zero))) inner small = inr (inl refl)
frame_on (Some n) (Some zero) inner small = inr (inr (inl refl))
frame_on (Some n) (Some (suc zero)) inner small = inr (inr (inl refl))
frame_on (Some n) (Some (suc (suc zero))) inner small = inr (inr (inl refl))
frame_on limit (Some (suc (suc (suc c)))) inner small =
    let le : suc (suc (suc c)) ≤ 2 = small (suc (suc (suc c))) refl in absurd (omega arith)

not_none : true ≡ false → ⊥
not_none e = let bad : ⊥ = cc in bad

equal : (a b : ℕ) → IsTrue (a == b) → a ≡ b
equal a b is = grind (arith, nat_tests)

not_true : IsTrue false → ⊥
not_true e = let bad : ⊥ = cc in bad

inner_on : (limit component : Option ℕ) (inner : Bool) → ((c : ℕ) → component ≡ Some c → c ≤ 2)
    → (limit ≡ None → inner ≡ false) → IsTrue inner → IsOnChain limit component inner 1
inner_on limit component false small none is = absurd (not_true is)
inner_on None component true small none is = absurd (not_none (none refl))
inner_on (Some n) None true small none is = inl refl
inner_on (Some n) (Some zero) true small none is = inr (inl refl)
inner_on (Some n) (Some (suc zero)) true small none is = inr (inl refl)
inner_on (Some n) (Some (suc (suc zero))) true small none is = inr (inl refl)
inner_on (Some n) (Some (suc (suc (suc c)))) true small none is =
    let le : suc (suc (suc c)) ≤ 2 = small (suc (suc (suc c))) refl in absurd (omega arith)

on_chain : (limit component : Option ℕ) (inner : Bool) (b : Budget)
    → ((c : ℕ) → component ≡ Some c → c ≤ 2)
    → (limit ≡ None → inner ≡ false)
    → IsTrue (is_in (record { inner = inner; component = component }) b)
    → IsOnChain limit component inner (place_of b)
on_chain limit component inner Frame small none is = frame_on limit component inner small
on_chain limit component inner Inner small none is = inner_on limit component inner small none is
on_chain limit None inner C0 small none is = absurd (not_true is)
on_chain limit (Some zero) inner C0 small none is = inl refl
on_chain limit (Some (suc c)) inner C0 small none is = absurd
    (let e : suc c ≡ 0 = equal (suc c) 0 is in omega arith)
on_chain limit None inner C1 small none is = absurd (not_true is)
on_chain limit (Some zero) inner C1 small none is = absurd (not_true is)
on_chain limit (Some (suc zero)) inner C1 small none is = inl refl
on_chain limit (Some (suc (suc c))) inner C1 small none is =
    absurd (let e : suc (suc c) ≡ 1 = equal (suc (suc c)) 1 is in omega arith)
on_chain limit None inner C2 small none is = absurd (not_true is)
on_chain limit (Some zero) inner C2 small none is = absurd (not_true is)
on_chain limit (Some (suc zero)) inner C2 small none is = absurd (not_true is)
on_chain limit (Some (suc (suc zero))) inner C2 small none is = inl refl
on_chain limit (Some (suc (suc (suc c)))) inner C2 small none is =
    absurd (let e : suc (suc (suc c)) ≡ 2 = equal (suc (suc (suc c))) 2 is in omega arith)

node_below : (component : Option ℕ) (inner : Bool) → ((c : ℕ) → component ≡ Some c → c ≤ 2)
    → node_by component (if inner then 1 else 0) < 5
node_below None false small = omega arith
node_below None true small = omega arith
node_below (Some c) inner small = let le : c ≤ 2 = small c refl in omega arith

module _ (limits : Limits) (blocks : ℕ) (inside : ℕ → Members) (held : List ℕ → Held)
    (law : HasLaw blocks inside held)
    (are : (b : ℕ) → b < blocks → AreMembers limits.inner (inside b)) where
  same_elsewhere : (c : List ℕ) (b to : ℕ) (j : Budget) → length c ≡ blocks → b < blocks
      → ¬ IsOn (place_of j)
      (chain (λ i. get_or (around_each limits.inner) i []) (node_in (inside b)))
      → held_in (held (set c b to)) j ≡ held_in (held c) j
  same_elsewhere c b to j long below off = law.elsewhere c b to j long below
      (λ is. off (on_chain limits.inner (inside b).component (inside b).inner j
      (are b below).component (are b below).none is))

  elsewhere_by : (c : List ℕ) (b to j : ℕ) → length c ≡ blocks → b < blocks
      → ¬ IsOn j (chain (λ i. get_or (around_each limits.inner) i []) (node_in (inside b)))
      → bytes_in (held (set c b to)) j ≡ bytes_in (held c) j
  elsewhere_by c b to zero long below off = same_elsewhere c b to Frame long below off
  elsewhere_by c b to (suc zero) long below off = same_elsewhere c b to Inner long below off
  elsewhere_by c b to (suc (suc zero)) long below off = same_elsewhere c b to C0 long below off
  elsewhere_by c b to (suc (suc (suc zero))) long below off = same_elsewhere c b to C1 long below
      off
  elsewhere_by c b to (suc (suc (suc (suc zero)))) long below off = same_elsewhere c b to C2 long
      below off
  elsewhere_by c b to (suc (suc (suc (suc (suc j))))) long below off = refl

  depends_by : (c d : List ℕ) (b to j : ℕ) → length c ≡ blocks → length d ≡ blocks → b < blocks
      → ((x : ℕ) → x < blocks → node_in (inside x) ≡ node_in (inside b) → get_or d x 0
      ≡ get_or c x 0)
      → bytes_in (held (set d b to)) j + bytes_in (held c) j ≡ bytes_in (held (set c b to)) j
      + bytes_in (held d) j
  depends_by c d b to zero long also below same = law.depends c d b to Frame long also below
      (λ x in_range e. same x in_range (ap node_in e))
  depends_by c d b to (suc zero) long also below same = law.depends c d b to Inner long also below
      (λ x in_range e. same x in_range (ap node_in e))
  depends_by c d b to (suc (suc zero)) long also below same = law.depends c d b to C0 long also
      below (λ x in_range e. same x in_range (ap node_in e))
  depends_by c d b to (suc (suc (suc zero))) long also below same = law.depends c d b to C1 long
      also below (λ x in_range e. same x in_range (ap node_in e))
  depends_by c d b to (suc (suc (suc (suc zero)))) long also below same = law.depends c d b to C2
      long also below (λ x in_range e. same x in_range (ap node_in e))
  depends_by c d b to (suc (suc (suc (suc (suc j))))) long also below same = refl

  pub frame_are_budgets : AreBudgets (frame_budgets limits blocks inside held)
  frame_are_budgets = record {
    nested = nested_each limits.inner;
    inside = λ b below. node_below (inside b).component (inside b).inner (are b below).component;
    elsewhere = elsewhere_by;
    depends = depends_by;
  }

-- within the limits, by number
not_broken : (limit : Option ℕ) (held : ℕ) → ((n : ℕ) → limit ≡ Some n → n < held → ⊥) → (n : ℕ)
    → limit ≡ Some n → held ≤ n
not_broken limit held h n is = elim (two_ways held n) [
  | inl le ↦ le
  | inr more ↦ absurd (h n is more)
]

inner_within : (limit : Option ℕ) (held : ℕ) → ((n : ℕ) → limit ≡ Some n → n < held → ⊥)
    → (limit ≡ None → held ≡ 0)
    → held ≤ or_none limit
inner_within None held h none = let e : held ≡ 0 = none refl in omega arith
inner_within (Some n) held h none = not_broken (Some n) held h n refl

pub within_each : (limits : Limits) (held : Held) → IsWithin limits held
    → (limits.inner ≡ None → held.inner ≡ 0)
    → (j : ℕ) → j < 5 → bytes_in held j ≤ get_or (limit_each limits) j 0
within_each limits held within none zero below = not_broken (Some limits.frame) held.frame
    (λ n is more. within Frame (n, is, more)) limits.frame refl
within_each limits held within none (suc zero) below = inner_within limits.inner held.inner
    (λ n is more. within Inner (n, is, more)) none
within_each limits held within none (suc (suc zero)) below =
    not_broken (limit_in limits C0) (held_in held C0) (λ n is more. within C0 (n, is, more))
    (slice_index_or limits.component 0 0) refl
within_each limits held within none (suc (suc (suc zero))) below =
    not_broken (limit_in limits C1) (held_in held C1) (λ n is more. within C1 (n, is, more))
    (slice_index_or limits.component 1 0) refl
within_each limits held within none (suc (suc (suc (suc zero)))) below =
    not_broken (limit_in limits C2) (held_in held C2) (λ n is more. within C2 (n, is, more))
    (slice_index_or limits.component 2 0) refl
within_each limits held within none (suc (suc (suc (suc (suc j))))) below = absurd (omega arith)

broken_at : (limit : Option ℕ) (held n : ℕ) → held ≤ or_none limit → limit ≡ Some n → n < held → ⊥
broken_at None held n le is more = let bad : ⊥ = cc in absurd bad
broken_at (Some m) held n le is more = let e : m ≡ n = cc in omega arith

pub each_within : (limits : Limits) (held : Held)
    → ((j : ℕ) → j < 5 → bytes_in held j ≤ get_or (limit_each limits) j 0)
    → IsWithin limits held
each_within limits held le Frame broken = broken_at (limit_in limits Frame) (held_in held Frame)
    broken.0 (le 0 (omega arith)) broken.1 broken.2
each_within limits held le Inner broken = broken_at (limit_in limits Inner) (held_in held Inner)
    broken.0 (le 1 (omega arith)) broken.1 broken.2
each_within limits held le C0 broken = broken_at (limit_in limits C0) (held_in held C0) broken.0
    (le 2 (omega arith)) broken.1 broken.2
each_within limits held le C1 broken = broken_at (limit_in limits C1) (held_in held C1) broken.0
    (le 3 (omega arith)) broken.1 broken.2
each_within limits held le C2 broken = broken_at (limit_in limits C2) (held_in held C2) broken.0
    (le 4 (omega arith)) broken.1 broken.2

low_inner : (limit : Option ℕ) → ((n : ℕ) → limit ≡ Some n → n < 2 ^ 22) → or_none limit < 2 ^ 25
low_inner None h = omega arith
low_inner (Some n) h = let lt : n < 2 ^ 22 = h n refl in omega arith

pub low_each : (limits : Limits) → AreLow limits → (j : ℕ) → j < 5
    → get_or (limit_each limits) j 0 < 2 ^ 25
low_each limits low zero below = let h : limits.frame < 2 ^ 22 = low Frame limits.frame refl in
    omega arith
low_each limits low (suc zero) below = low_inner limits.inner (low Inner)
low_each limits low (suc (suc zero)) below =
    let h : slice_index_or limits.component 0 0 < 2 ^ 22 = low C0
    (slice_index_or limits.component 0 0) refl in omega arith
low_each limits low (suc (suc (suc zero))) below =
    let h : slice_index_or limits.component 1 0 < 2 ^ 22 = low C1
    (slice_index_or limits.component 1 0) refl in omega arith
low_each limits low (suc (suc (suc (suc zero)))) below =
    let h : slice_index_or limits.component 2 0 < 2 ^ 22 = low C2
    (slice_index_or limits.component 2 0) refl in omega arith
low_each limits low (suc (suc (suc (suc (suc j))))) below = absurd (omega arith)

-- the budgets of a tree that has the frame's lists
abbrev pub budgets_by : List (List ℕ) → List ℕ → ℕ → (ℕ → Members) → (List ℕ → Held) → Budgets
budgets_by rows numbers blocks inside held = record {
  blocks = blocks;
  number = length numbers;
  around = λ j. get_or rows j [];
  node = λ b. node_in (inside b);
  limit = λ j. get_or numbers j 0;
  held = λ counts j. bytes_in (held counts) j;
}

pub budgets_are : (limits : Limits) (rows : List (List ℕ)) (numbers : List ℕ) (blocks : ℕ)
    (inside : ℕ → Members)
    (held : List ℕ → Held) → rows ≡ around_each limits.inner → numbers ≡ limit_each limits
    → budgets_by rows numbers blocks inside held ≡ frame_budgets limits blocks inside held
budgets_are limits rows numbers blocks inside held same_rows same_numbers =
    ap (λ r. budgets_by r numbers blocks inside held) same_rows
    ∙ ap (λ n. budgets_by (around_each limits.inner) n blocks inside held) same_numbers

pub numbers_are : (limits : Limits) (n : ℕ) → n ≡ or_none limits.inner
    → limits.frame ∷ n ∷ slice_index_or limits.component 0 0 ∷ slice_index_or limits.component 1 0
    ∷ slice_index_or limits.component 2 0 ∷ [] ≡ limit_each limits
numbers_are limits n e =
    ap (λ k. limits.frame ∷ k ∷ slice_index_or limits.component 0 0
    ∷ slice_index_or limits.component 1 0
    ∷ slice_index_or limits.component 2 0 ∷ []) e

-- the budgets around one are the frame and the 2K portion
low_around : (limit : Option ℕ) (j : ℕ) →
    AllByRecursion (λ i. i < 2) (get_or (around_each limit) j [])
low_around None zero = tt
low_around None (suc zero) = (omega arith, tt)
low_around None (suc (suc zero)) = (omega arith, tt)
low_around None (suc (suc (suc zero))) = (omega arith, tt)
low_around None (suc (suc (suc (suc zero)))) = (omega arith, tt)
low_around None (suc (suc (suc (suc (suc j))))) = tt
low_around (Some n) zero = tt
low_around (Some n) (suc zero) = (omega arith, tt)
low_around (Some n) (suc (suc zero)) = (omega arith, (omega arith, tt))
low_around (Some n) (suc (suc (suc zero))) = (omega arith, (omega arith, tt))
low_around (Some n) (suc (suc (suc (suc zero)))) = (omega arith, (omega arith, tt))
low_around (Some n) (suc (suc (suc (suc (suc j))))) = tt

-- a component on a block's chain is the block's
component_on : (limit component : Option ℕ) (inner : Bool) (k : ℕ) →
    IsOnChain limit component inner (2 + k)
    → component ≡ Some k
component_on limit None true k (inl e) = absurd (let x : 1 ≡ 2 + k = e in omega arith)
component_on limit None true k (inr on) =
    absurd (let x : 2 + k < 2 = on_below 2 (2 + k) _ (low_around limit 1) on in omega arith)
component_on limit None false k (inl e) = absurd (let x : 0 ≡ 2 + k = e in omega arith)
component_on limit None false k (inr on) =
    absurd (let x : 2 + k < 2 = on_below 2 (2 + k) _ (low_around limit 0) on in omega arith)
component_on limit (Some c) inner k (inl e) =
    let x : 2 + c ≡ 2 + k = e in
    let same : c ≡ k = omega arith in
    ap (λ n. Some n) same
component_on limit (Some c) inner k (inr on) =
    absurd (let x : 2 + k < 2 = on_below 2 (2 + k) _ (low_around limit (2 + c)) on in omega arith)

off_one : (a j : ℕ) → ¬ (a ≡ j) → IsOn j (a ∷ []) → ⊥
off_one a j ne (inl e) = ne e
off_one a j ne (inr off) = off

off_two : (a b j : ℕ) → ¬ (a ≡ j) → ¬ (b ≡ j) → IsOn j (a ∷ b ∷ []) → ⊥
off_two a b j first second (inl e) = first e
off_two a b j first second (inr on) = off_one b j second on

-- in a 2K frame the 2K portion is on no block's chain
off_inner : (component : Option ℕ) → ((c : ℕ) → component ≡ Some c → c ≤ 2) →
    IsOnChain None component false 1 → ⊥
off_inner None small on = off_one 0 1 (λ e. let x : 0 ≡ 1 = e in absurd (omega arith)) on
off_inner (Some zero) small on =
    off_two 2 0 1 (λ e. let x : 2 ≡ 1 = e in absurd (omega arith))
    (λ e. let x : 0 ≡ 1 = e in absurd (omega arith)) on
off_inner (Some (suc zero)) small on =
    off_two 3 0 1 (λ e. let x : 3 ≡ 1 = e in absurd (omega arith))
    (λ e. let x : 0 ≡ 1 = e in absurd (omega arith)) on
off_inner (Some (suc (suc zero))) small on =
    off_two 4 0 1 (λ e. let x : 4 ≡ 1 = e in absurd (omega arith))
    (λ e. let x : 0 ≡ 1 = e in absurd (omega arith)) on
off_inner (Some (suc (suc (suc c)))) small on =
    let le : suc (suc (suc c)) ≤ 2 = small (suc (suc (suc c))) refl in absurd (omega arith)

no_inner_on : (limit component : Option ℕ) (inner : Bool) → limit ≡ None →
    ((c : ℕ) → component ≡ Some c → c ≤ 2)
    → (limit ≡ None → inner ≡ false) → IsOnChain limit component inner 1 → ⊥
no_inner_on (Some n) component inner e small none on = let bad : ⊥ = cc in bad
no_inner_on None component true e small none on = not_none (none refl)
no_inner_on None component false e small none on = off_inner component small on

inner_named : (limit component : Option ℕ) (inner : Bool) → ((c : ℕ) → component ≡ Some c → c ≤ 2)
    → (limit ≡ None → inner ≡ false) →
    ((n c : ℕ) → limit ≡ Some n → component ≡ Some c → inner ≡ true)
    → IsOnChain limit component inner 1 → IsTrue inner
inner_named limit component true small none nests on = refl
inner_named None component false small none nests on = absurd (off_inner component small on)
inner_named (Some n) None false small none nests on =
    absurd (off_one 0 1 (λ e. let x : 0 ≡ 1 = e in absurd (omega arith)) on)
inner_named (Some n) (Some c) false small none nests on = nests n c refl refl

own_named : (component : Option ℕ) (k : ℕ) → component ≡ Some k → IsTrue (k == k) →
    IsTrue (is_of component k)
own_named component k e same = subst (λ o. IsTrue (is_of o k)) (sym e) same

named : (limit : Option ℕ) (m : Members) (b : Budget) → AreMembers limit m
    → IsOnChain limit m.component m.inner (place_of b) → IsTrue (is_in m b)
named limit m Frame are on = refl
named limit m Inner are on = inner_named limit m.component m.inner are.component are.none are.nested
    on
named limit m C0 are on = own_named m.component 0 (component_on limit m.component m.inner 0 on) refl
named limit m C1 are on = own_named m.component 1 (component_on limit m.component m.inner 1 on) refl
named limit m C2 are on = own_named m.component 2 (component_on limit m.component m.inner 2 on) refl

-- what stands on a block's chain is what the block is in
pub named_on : (limit : Option ℕ) (m : Members) (b : Budget) → AreMembers limit m
    → IsTrue (is_in m b) ↔ IsOn (place_of b)
    (chain (λ i. get_or (around_each limit) i []) (node_in m))
named_on limit m b are =
    (on_chain limit m.component m.inner b are.component are.none, named limit m b are)

pub no_inner_in : (limit : Option ℕ) (m : Members) → AreMembers limit m → limit ≡ None
    → IsOn 1 (chain (λ i. get_or (around_each limit) i []) (node_in m)) → ⊥
no_inner_in limit m are e on = no_inner_on limit m.component m.inner e are.component are.none on
