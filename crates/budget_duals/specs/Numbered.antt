-- The budgets of a frame by number: frame 0, inner 1, components 2 to 4.
use Rattle.std.specs.Prelude.{ℕ, zero, suc, ◌+◌, if◌then◌else◌, slice_index_or, Option, Some, None}
use Rattle.budget_duals.specs.declared.held.Held.{Held}
use Rattle.budget_duals.specs.declared.members.Members.{Members}

-- the innermost budget of a block
abbrev pub node_by : Option ℕ → ℕ → ℕ
node_by None other = other
node_by (Some c) other = 2 + c

abbrev pub node_in : Members → ℕ
node_in members = node_by members.component (if members.inner then 1 else 0)

-- what a budget holds, and 0 where there is no such budget
abbrev pub bytes_in : Held → ℕ → ℕ
bytes_in held zero = held.frame
bytes_in held (suc zero) = held.inner
bytes_in held (suc (suc zero)) = slice_index_or held.component 0 0
bytes_in held (suc (suc (suc zero))) = slice_index_or held.component 1 0
bytes_in held (suc (suc (suc (suc zero)))) = slice_index_or held.component 2 0
bytes_in held (suc (suc (suc (suc (suc j))))) = 0
