-- What budgets hold at a choice of pass counts.
use Rattle.std.specs.Prelude.{ℕ, ◌≡◌, ◌+◌, ◌<◌, ◌≤◌, IsTrue, List, length, get_or, set}
use Rattle.cine_nums.specs.declared.budget.Budget.{Budget}
use Rattle.rd_hulls.specs.declared.step.Step.{Step}
use Rattle.budget_duals.specs.Held.{held_in}
use Rattle.budget_duals.specs.Members.{is_in}
use Rattle.budget_duals.specs.declared.held.Held.{Held}
use Rattle.budget_duals.specs.declared.members.Members.{Members}

-- pass counts by block number, each at most the block's highest
pub record AreCounts (highest counts : List ℕ) : Type 0 where
  pub long : length counts ≡ length highest
  pub most : (b : ℕ) → b < length highest → get_or counts b 0 ≤ get_or highest b 0

-- A step can be taken: its block has the count where it begins, and the count where it ends.
pub record CanTake (highest counts : List ℕ) (s : Step) : Type 0 where
  pub block : s.block < length highest
  pub from : get_or counts s.block 0 ≡ s.from
  pub to : s.to ≤ get_or highest s.block 0

-- counts d are c for each block that has the same budgets as block b
abbrev pub AgreeBeside : (ℕ → Members) → ℕ → ℕ → List ℕ → List ℕ → Type 0
AgreeBeside inside blocks b c d =
    (x : ℕ) → x < blocks → inside x ≡ inside b → get_or d x 0 ≡ get_or c x 0

-- The law of what budgets hold, for any counts of so many blocks. It compares sums, so that nothing
-- is cut off at 0.
pub record HasLaw (blocks : ℕ) (inside : ℕ → Members) (held : List ℕ → Held) : Type 0 where
  -- a block's new count changes each of its budgets by one same number
  pub same_change : (c : List ℕ) (b to : ℕ) (i j : Budget) → length c ≡ blocks → b < blocks
      → IsTrue (is_in (inside b) i) → IsTrue (is_in (inside b) j)
      → held_in (held (set c b to)) i + held_in (held c) j
      ≡ held_in (held (set c b to)) j + held_in (held c) i
  -- and no other budget
  pub elsewhere : (c : List ℕ) (b to : ℕ) (j : Budget) → length c ≡ blocks → b < blocks
      → ¬ IsTrue (is_in (inside b) j) → held_in (held (set c b to)) j ≡ held_in (held c) j
  -- that number depends only on the counts of the blocks with the same budgets
  pub depends : (c d : List ℕ) (b to : ℕ) (j : Budget) → length c ≡ blocks → length d ≡ blocks
      → b < blocks → AgreeBeside inside blocks b c d
      → held_in (held (set d b to)) j + held_in (held c) j
      ≡ held_in (held (set c b to)) j + held_in (held d) j
