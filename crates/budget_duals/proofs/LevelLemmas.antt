-- The first closed budget of a list, one budget at a time.
use Rattle.std.proofs.Common.{ℕ, zero, suc, ◌≡◌, ◌<◌, List, [], ◌∷◌, length, take, get_or, Option}
use Rattle.std.proofs.Common.{Some, None, is_some, false, arith, refl, ap, ◌∙◌}
use Rattle.rd_hulls.specs.declared.step.Step.{Step}
use Rattle.allocation_bound.specs.Steps.{level}
use Rattle.allocation_bound.specs.Budgets.{Closed, nearer, first, base, level_of}
use Rattle.allocation_bound.proofs.Levels.{first_closed}

found_or : (o : Option Step) (k : ℕ) (a b : Option Closed) → nearer k o a ≡ None → nearer k o b ≡ b
found_or None k a b e = refl
found_or (Some s) k a b e = let bad : ⊥ = cc in absurd bad

rest_none : (o : Option Step) (k : ℕ) (a : Option Closed) → nearer k o a ≡ None → a ≡ None
rest_none None k a e = e
rest_none (Some s) k a e = let bad : ⊥ = cc in absurd bad

-- the budgets before a closed one are open
pub first_found : (closed : ℕ → Option Step) (l : List ℕ) (i : ℕ) (s : Step) → i < length l
    → first closed (take i l) ≡ None → closed (get_or l i 0) ≡ Some s → base closed l ≡ level s
first_found closed [] i s below none some = absurd (omega arith)
first_found closed (k ∷ rest) zero s below none some = ap level_of
    (first_closed closed k rest s some)
first_found closed (k ∷ rest) (suc i) s below none some =
    ap level_of (found_or (closed k) k (first closed (take i rest)) (first closed rest) none)
    ∙ first_found closed rest i s (omega arith)
    (rest_none (closed k) k (first closed (take i rest)) none) some

pub base_none : (closed : ℕ → Option Step) (l : List ℕ) → first closed l ≡ None → base closed l ≡ 0
base_none closed l none = ap level_of none

pub not_some : (o : Option Step) → ((s : Step) → o ≡ Some s → ⊥) → is_some o ≡ false
not_some None h = refl
not_some (Some s) h = absurd (h s refl)
