-- What a codestream holds in its byte budgets, and what it may hold (DCI Digital Cinema System
-- Specification, section 4).
use Rattle.std.specs.Prelude.{ℕ, ◌≡◌, ◌+◌, ◌<◌, ◌≤◌, List, [], ◌∷◌, sum, Option, Some, None}
use Rattle.std.specs.Prelude.{if◌then◌else◌}
use Rattle.std.specs.Prelude.{take, slice_index_or}
use Rattle.cine_nums.specs.Limits.{limit_of, has_inner}
use Rattle.cine_nums.specs.declared.profile.Profile.{Profile}
use Rattle.cine_nums.specs.declared.profile.Profile.TheVariants.{TwoK, FourK}
use Rattle.cine_nums.specs.declared.budget.Budget.{Budget}
use Rattle.cine_nums.specs.declared.budget.Budget.TheVariants.{Frame, Inner, C0, C1, C2}
use Rattle.budget_duals.specs.declared.held.Held.{Held}
use Rattle.budget_duals.specs.declared.limits.Limits.{Limits}

-- The 2K portion of a 4K codestream is its main header, its first three tile-parts and EOC. A 2K
-- codestream has none.
abbrev pub inner_of : Profile → ℕ → List ℕ → ℕ
inner_of TwoK main parts = 0
inner_of FourK main parts = main + sum (take 3 parts) + 2

-- What a codestream holds, by the bytes of its main header and of its tile-parts in order, each
-- from its SOT marker on. EOC has 2 bytes. The first three tile-parts are those of components 0, 1
-- and 2.
abbrev pub held_of : Profile → ℕ → List ℕ → Held
held_of profile main parts = record {
  frame = main + sum parts + 2;
  inner = inner_of profile main parts;
  component = take 3 parts;
}

-- the bytes of one budget
abbrev pub held_in : Held → Budget → ℕ
held_in held Frame = held.frame
held_in held Inner = held.inner
held_in held C0 = slice_index_or held.component 0 0
held_in held C1 = slice_index_or held.component 1 0
held_in held C2 = slice_index_or held.component 2 0

-- the limit of one budget, where there is such a budget
abbrev pub limit_in : Limits → Budget → Option ℕ
limit_in limits Frame = Some limits.frame
limit_in limits Inner = limits.inner
limit_in limits C0 = Some (slice_index_or limits.component 0 0)
limit_in limits C1 = Some (slice_index_or limits.component 1 0)
limit_in limits C2 = Some (slice_index_or limits.component 2 0)

-- the limits of a profile at 24 frames per second
abbrev pub limits_of : Profile → Limits
limits_of profile = record {
  frame = limit_of profile Frame;
  inner = if has_inner profile then Some (limit_of profile Inner) else None;
  component = limit_of profile C0 ∷ limit_of profile C1 ∷ limit_of profile C2 ∷ [];
}

-- a budget holds more than its limit, where it has one
abbrev pub Breaks : Limits → Held → Budget → Type 0
Breaks limits held budget = (n : ℕ) × (limit_in limits budget ≡ Some n) × (n < held_in held budget)

-- each budget is within its limit
abbrev pub IsWithin : Limits → Held → Type 0
IsWithin limits held = (budget : Budget) → ¬ Breaks limits held budget

-- the place of a budget, the outermost at 0
abbrev pub place_of : Budget → ℕ
place_of Frame = 0
place_of Inner = 1
place_of C0 = 2
place_of C1 = 3
place_of C2 = 4

-- a broken budget outside which none is broken
pub record IsOutermostBroken (limits : Limits) (held : Held) (budget : Budget) : Type 0 where
  pub broken : Breaks limits held budget
  pub outermost : (other : Budget) → Breaks limits held other → place_of budget ≤ place_of other
