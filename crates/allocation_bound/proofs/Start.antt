-- How a walk begins, and how it ends.
use Rattle.std.proofs.Common.{ℕ, ◌≡◌, ◌<◌, List, [], ◌∷◌, Option, None, refl, sym, ◌∙◌, arith}
use Rattle.std.proofs.lemmas.Option.{none-some}
use Rattle.rd_hulls.specs.declared.step.Step.{Step}
use Rattle.allocation_bound.specs.Steps.{IsAsSteep}
use Rattle.allocation_bound.specs.Budgets.{chain, first}
use Rattle.allocation_bound.specs.Settled.{Budgets, Outcome, IsSettled, nearest}
use Rattle.allocation_bound.specs.Walk.{Stands, IsStart}
use Rattle.allocation_bound.proofs.Levels.{first_open}
use Rattle.allocation_bound.proofs.Lists.{all_any}

-- no step is steeper than this one
pub steepest : Step
steepest = record {
  block = 0;
  from = 0;
  to = 1;
  len = 1;
  gain = 18446744073709551615;
  moves = λ e. absurd (let no_way : ⊥ = omega arith in no_way);
  longer = omega arith;
  short = omega arith;
  gains = omega arith;
  wide = omega arith;
}

is_steepest : (s : Step) → IsAsSteep steepest s
unfolding steepest
is_steepest s = omega (arith, s.longer, s.wide)

none_first : (closed : ℕ → Option Step) → ((j : ℕ) → closed j ≡ None) → (c : List ℕ)
    → first closed c ≡ None
none_first closed all [] = refl
none_first closed all (j ∷ r) = first_open closed j r (all j) ∙ none_first closed all r

pub walk_start : (w : Budgets) (steps : ℕ → List Step) (o : Outcome) → IsStart w steps o
    → Stands w steps steepest o
walk_start w steps o h =
    let none : (c : List ℕ) → first o.closed c ≡ None = λ c. none_first o.closed h.open_all c in
    record {
      kept = record {
        long = h.long;
        within = h.within;
        splits = λ b inside. rw (h.done b inside) (h.left b inside);
        places = λ b inside. rw (h.done b inside) (h.counts b inside);
        inside = λ j s e. absurd (none-some s (sym (h.open_all j) ∙ e));
        heads = λ j s e. absurd (none-some s (sym (h.open_all j) ∙ e));
        closing = λ j s e. absurd (none-some s (sym (h.open_all j) ∙ e));
        refused = λ j s e. absurd (none-some s (sym (h.open_all j) ∙ e));
        outer = λ j s x e f. absurd (none-some s (sym (h.open_all j) ∙ e));
        taken = λ b x inside e. absurd (none-some x (sym (none (chain w.around (w.node b))) ∙ e));
        untaken = λ b x inside e. absurd (none-some x (sym (none (chain w.around (w.node b))) ∙ e));
      };
      done = λ b inside e. rw (h.done b inside) tt;
      left = λ b inside e. all_any (IsAsSteep steepest) is_steepest (o.left b);
      rest = λ j s e. absurd (none-some s (sym (h.open_all j) ∙ e));
    }

-- where no open block has a step left, the walk has settled
pub walk_end : (w : Budgets) (steps : ℕ → List Step) (front : Step) (o : Outcome)
    → Stands w steps front o
    → ((b : ℕ) → b < w.blocks → nearest w o b ≡ None → o.left b ≡ []) → IsSettled w steps o
walk_end w steps front o h none_left = record { kept = h.kept; open_done = none_left }
