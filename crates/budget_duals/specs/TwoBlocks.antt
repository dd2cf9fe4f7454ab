-- What the budgets of two blocks hold, for tests: a base, and of each block so many bytes at each
-- count.
use Rattle.std.specs.Prelude.{ℕ, zero, suc, Bool, true, false, ◌+◌, ◌*◌, ◌%◌, ◌==◌, nat_lt}
use Rattle.std.specs.Prelude.{if◌then◌else◌}
use Rattle.std.specs.Prelude.{List, [], ◌∷◌, get_or, slice_index_or, Option, Some, None}
use Rattle.rd_hulls.specs.declared.step.Step.{Step}
use Rattle.allocation_bound.specs.Steps.{gains, lens}
use Rattle.budget_duals.specs.Members.{is_of}
use Rattle.budget_duals.specs.declared.held.Held.{Held}
use Rattle.budget_duals.specs.declared.limits.Limits.{Limits}
use Rattle.budget_duals.specs.declared.members.Members.{Members}

-- numbers are read below 2^20, so that sums fit
abbrev pub low : ℕ → ℕ
low n = n % 1048576

abbrev pub part : Bool → ℕ → ℕ
part test n = if test then n else 0

abbrev pub size_at : List ℕ → ℕ → ℕ
size_at sizes count = low (get_or sizes count 0)

abbrev pub two_parts : Bool → Bool → List ℕ → List ℕ → List ℕ → ℕ
two_parts p q firsts seconds counts =
    part p (size_at firsts (get_or counts 0 0)) + part q (size_at seconds (get_or counts 1 0))

abbrev pub two_held : Held → Members → Members → List ℕ → List ℕ → List ℕ → Held
two_held base first second firsts seconds counts = record {
  frame = low base.frame
      + (size_at firsts (get_or counts 0 0) + size_at seconds (get_or counts 1 0));
  inner = low base.inner + two_parts first.inner second.inner firsts seconds counts;
  component =
      (low (slice_index_or base.component 0 0)
      + two_parts (is_of first.component 0) (is_of second.component 0) firsts seconds counts)
      ∷ (low (slice_index_or base.component 1 0)
      + two_parts (is_of first.component 1) (is_of second.component 1) firsts seconds counts)
      ∷ (low (slice_index_or base.component 2 0)
      + two_parts (is_of first.component 2) (is_of second.component 2) firsts seconds counts)
      ∷ [];
}

abbrev pub two_inside : Members → Members → ℕ → Members
two_inside first second zero = first
two_inside first second (suc b) = second

-- what an allocation over the two blocks asks, as a test
abbrev pub both : Bool → Bool → Bool
both true q = q
both false q = false

abbrev pub goes_from : ℕ → List Step → Bool
goes_from c [] = true
goes_from c (s ∷ rest) = both (s.from == c) (both (nat_lt s.to 4) (goes_from s.to rest))

abbrev pub falls_from : ℕ → ℕ → List Step → Bool
falls_from g n [] = true
falls_from g n (s ∷ rest) = both (nat_lt (s.gain * n) (g * s.len)) (falls_from s.gain s.len rest)

abbrev pub falls : List Step → Bool
falls [] = true
falls (s ∷ rest) = falls_from s.gain s.len rest

abbrev pub few_component : Option ℕ → Bool
few_component None = true
few_component (Some c) = nat_lt c 3

abbrev pub nests : Option ℕ → Bool → Option ℕ → Bool
nests None true component = false
nests None false component = true
nests (Some n) inner None = true
nests (Some n) inner (Some c) = inner

abbrev pub few_inner : Option ℕ → ℕ → Bool
few_inner None held = held == 0
few_inner (Some n) held = nat_lt n 4194304

abbrev pub limits_low : Limits → Bool
limits_low limits =
    both (nat_lt limits.frame 4194304)
    (both (nat_lt (slice_index_or limits.component 0 0) 4194304)
    (both (nat_lt (slice_index_or limits.component 1 0) 4194304)
    (nat_lt (slice_index_or limits.component 2 0) 4194304)))

abbrev pub steps_fit : List Step → Bool
steps_fit steps = both (goes_from 0 steps) (falls steps)

abbrev pub member_fits : Option ℕ → Members → Bool
member_fits inner m = both (few_component m.component) (nests inner m.inner m.component)

abbrev pub two_fits : Limits → ℕ → Members → Members → List Step → List Step → ℕ → Bool
two_fits limits inner_held m n first second start =
    both (steps_fit first) (both (steps_fit second) (both (member_fits limits.inner m)
    (both (member_fits limits.inner n)
    (both (limits_low limits) (both (few_inner limits.inner inner_held)
    (both (nat_lt start 1000000000000000000000000000)
    (both (nat_lt (gains first + gains second) (start + 1))
    (nat_lt (lens first + lens second) 4294967296))))))))
