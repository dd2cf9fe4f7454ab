-- How the test of the steps goes on from a resolution to the next.
use Rattle.std.proofs.Common.{ℕ, ◌+◌, ◌<◌, ◌≤◌, ◌≡◌, arith, subst, inl, inr}
use Rattle.std.proofs.lemmas.Bool.{cases_lt}
use Rattle.cine_nums.specs.declared.orient.Orient.{Orient}
use Rattle.cine_nums.specs.declared.orient.Orient.TheVariants.{LL, HL, LH, HH}
use Rattle.dz_quantiser.specs.Bands.{IsUsableAt}
use Rattle.dz_quantiser.specs.declared.steps.StepSizes.{StepSizes}

-- so are all steps of a resolution. LL has the same step at each
all_orients : (steps : StepSizes) (r : ℕ) → IsUsableAt steps 0 LL → IsUsableAt steps r HL →
    IsUsableAt steps r LH →
    IsUsableAt steps r HH → (o : Orient) → IsUsableAt steps r o
all_orients steps r lowest hl lh hh LL = lowest
all_orients steps r lowest hl lh hh HL = hl
all_orients steps r lowest hl lh hh LH = lh
all_orients steps r lowest hl lh hh HH = hh

pub one_more : (steps : StepSizes) (res : ℕ) →
    ((r : ℕ) (o : Orient) → 1 ≤ r → r < res → IsUsableAt steps r o) →
    IsUsableAt steps 0 LL → IsUsableAt steps res HL → IsUsableAt steps res LH →
    IsUsableAt steps res HH →
    (r : ℕ) (o : Orient) → 1 ≤ r → r < res + 1 → IsUsableAt steps r o
one_more steps res done lowest hl lh hh r o one below = elim (cases_lt r res) [
  | inl under ↦ done r o one under
  | inr over ↦
      let same : res ≡ r = omega arith in
      subst (λ n. IsUsableAt steps n o) same (all_orients steps res lowest hl lh hh o)
]
