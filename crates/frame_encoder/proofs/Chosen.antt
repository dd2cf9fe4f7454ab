-- What holds of a frame's blocks and packets at a choice of coding passes.
use Rattle.std.proofs.Common.{ℕ, ◌^◌, ◌<◌, ◌≤◌, List, [], ◌∷◌}
use Rattle.std.proofs.Common.{sum, refl, arith}
use Rattle.std.specs.List.{All}
use Rattle.std.proofs.lemmas.List.Elements.{All-nil, All-cons}
use Rattle.std.proofs.lemmas.List.Sums.{sum_by-cons}
use Rattle.budget_duals.specs.Held.{IsWithin}
use Rattle.budget_duals.specs.declared.limits.Limits.{Limits}
use Rattle.cine_nums.specs.declared.budget.Budget.TheVariants.{Frame}
use Rattle.frame_choice.specs.Choice.{IsChoice}
use Rattle.profile_reader.specs.Chosen.{Planes}
use Rattle.profile_reader.specs.Shown.{CanChoose}
use Rattle.profile_reader.specs.Spell.{part_lengths}
use Rattle.frame_encoder.specs.Writing.{IsFrameOf, chosen_by, chosen_held, steps_of}
use Rattle.frame_encoder.specs.declared.writing.ChosenPasses.{ChosenPasses}

all_short : (xs : List ℕ) (m : ℕ) → sum xs ≤ m → m < 2 ^ 32 → All (λ (n : ℕ). n < 2 ^ 32) xs
all_short [] m few low = All-nil (λ (n : ℕ). n < 2 ^ 32)
all_short (x ∷ xs) m few low =
    let whole = sum_by-cons (λ (k : ℕ). k) x xs in
    let first : x < 2 ^ 32 = omega (arith, whole, few, low) in
    let rest : sum xs ≤ m = omega (arith, whole, few) in
    All-cons (λ (n : ℕ). n < 2 ^ 32) x xs first (all_short xs m rest low)

at_most_limit : (held limit : ℕ) → (limit < held → ⊥) → held ≤ limit
at_most_limit held limit none = grind arith

pub can_choose : (planes : Planes) (s : ChosenPasses) → IsFrameOf planes s →
    IsChoice s.geometry planes s.choice.items → (limits : Limits) →
    limits.frame ≤ 1302083 → IsWithin limits (chosen_held planes s) →
    CanChoose s.geometry (steps_of s) planes s.choice.items
can_choose planes s is is_choice limits low within =
    let held = chosen_held planes s in
    let few : held.frame ≤ limits.frame = at_most_limit held.frame limits.frame
    (λ high. within Frame (limits.frame, refl, high)) in
    record {
      levels = s.levels;
      steps_usable = is.keeps.usable;
      below = is.below;
      passes = is_choice.most;
      lengths = all_short (part_lengths s.geometry (steps_of s) (chosen_by planes s)) 1302083
          (omega (arith, few, low)) (omega arith);
    }
