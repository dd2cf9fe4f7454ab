use Rattle.std.proofs.Common.{◌≡◌, ℕ, ◌<◌, ◌^◌, [], ◌∷◌, Some, None, Option, arith, subst}
use Rattle.cine_nums.specs.declared.budget.Budget.TheVariants.{Frame, Inner, C0, C1, C2}
use Rattle.budget_duals.specs.Frame.{AreLow}
use Rattle.budget_duals.specs.Held.{IsWithin}
use Rattle.budget_duals.specs.declared.held.Held.{Held}
use Rattle.budget_duals.specs.declared.limits.Limits.{Limits}
use Rattle.frame_packets.specs.Keeps.{nothing}
use Rattle.frame_choice.proofs.tests.choose_under.Goals as goal

same : (a b : ℕ) → ◌≡◌ {A = Option ℕ} (Some a) (Some b) → a ≡ b
same a b e = cc

abbrev under : ℕ → ℕ → Limits
under whole second = record {
  frame = whole;
  inner = None;
  component = 1041666 ∷ second ∷ 1041666 ∷ [];
}

low : (whole second : ℕ) → whole < 2 ^ 22 → second < 2 ^ 22 → AreLow (under whole second)
low whole second few also Frame n is = let at = same whole n is in omega (arith, few, at)
low whole second few also Inner n is = let bad : ⊥ = cc in absurd bad
low whole second few also C0 n is = let at = same 1041666 n is in omega (arith, at)
low whole second few also C1 n is = let at = same second n is in omega (arith, also, at)
low whole second few also C2 n is = let at = same 1041666 n is in omega (arith, at)

pub choose-requires-clause-low : goal.choose-requires-clause-low
choose-requires-clause-low c = low c.args.whole c.args.second c.requires.whole c.requires.second

pub choose-requires-clause-within : goal.choose-requires-clause-within
choose-requires-clause-within c =
    let f = c.args.frame in
    subst (λ (held : Held). IsWithin (under c.args.whole c.args.second) held)
    (c.held-held.ensures f.geometry.now f.steps.now nothing c.in_ok-packets.ensures)
    c.in-None.ensures
