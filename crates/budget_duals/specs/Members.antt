-- In which budgets the bytes of a code-block stand.
use Rattle.std.specs.Prelude.{ℕ, Bool, true, false, ◌==◌, ◌+◌, zero, suc, nat_lt, if◌then◌else◌}
use Rattle.std.specs.Prelude.{Option, Some, None}
use Rattle.cine_nums.specs.declared.profile.Profile.{Profile}
use Rattle.cine_nums.specs.declared.profile.Profile.TheVariants.{TwoK, FourK}
use Rattle.cine_nums.specs.declared.budget.Budget.{Budget}
use Rattle.cine_nums.specs.declared.budget.Budget.TheVariants.{Frame, Inner, C0, C1, C2}
use Rattle.budget_duals.specs.declared.members.Members.{Members}

-- The budgets of a block of component c and resolution r, of L levels. In a 2K frame it is the
-- component's tile-part. In a 4K frame the resolutions below the largest one stand in the 2K
-- portion, in the first tile-part of their component; the largest one stands in the frame alone.
abbrev pub members_of : Profile → ℕ → ℕ → ℕ → Members
members_of TwoK levels c r = record { inner = false; component = Some c }
members_of FourK levels c r = record {
  inner = nat_lt r levels;
  component = if nat_lt r levels then Some c else None;
}

-- the block is of component c
abbrev pub is_of : Option ℕ → ℕ → Bool
is_of None c = false
is_of (Some own) c = own == c

-- the block's bytes stand in a budget
abbrev pub is_in : Members → Budget → Bool
is_in members Frame = true
is_in members Inner = members.inner
is_in members C0 = is_of members.component 0
is_in members C1 = is_of members.component 1
is_in members C2 = is_of members.component 2

-- The body bytes of a budget: the bytes that each of the blocks 0 to n - 1 has, over the blocks of
-- the budget. `inside` has each block's budgets.
abbrev pub body_in : (ℕ → Members) → (ℕ → ℕ) → ℕ → Budget → ℕ
body_in inside bytes zero budget = 0
body_in inside bytes (suc n) budget =
    body_in inside bytes n budget + (if is_in (inside n) budget then bytes n else 0)
