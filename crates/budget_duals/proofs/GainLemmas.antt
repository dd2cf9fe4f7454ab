-- Gains and bytes of lists of steps.
use Rattle.std.proofs.Common.{ℕ, zero, suc, ◌≡◌, ◌+◌, ◌<◌, ◌≤◌, List, [], ◌∷◌, ◌++◌, length, take}
use Rattle.std.proofs.Common.{get_or, arith, sym, ap, ◌∙◌}
use Rattle.std.proofs.lemmas.List.{take_more}
use Rattle.rd_hulls.specs.declared.step.Step.{Step}
use Rattle.allocation_bound.specs.Steps.{gains, lens}
use Rattle.allocation_bound.specs.Sums.{upto}
use Rattle.budget_duals.proofs.SumLemmas.{upto_part}

pub gains_append : (xs ys : List Step) → gains (xs ++ ys) ≡ gains xs + gains ys
gains_append [] ys = omega arith
gains_append (s ∷ xs) ys = let h : gains (xs ++ ys) ≡ gains xs
    + gains ys = gains_append xs ys in omega arith

pub lens_append : (xs ys : List Step) → lens (xs ++ ys) ≡ lens xs + lens ys
lens_append [] ys = omega arith
lens_append (s ∷ xs) ys = let h : lens (xs ++ ys) ≡ lens xs
    + lens ys = lens_append xs ys in omega arith

pub gains_next : (steps : List Step) (i : ℕ) (s : Step) → i < length steps → s ≡ get_or steps i s
    → gains (take (i + 1) steps) ≡ gains (take i steps) + s.gain
gains_next steps i s below is =
    ap gains (take_more steps i s below)
    ∙ (gains_append (take i steps) (get_or steps i s ∷ [])
    ∙ (ap (λ (t : Step). gains (take i steps) + (t.gain + 0)) (sym is) ∙ omega arith))

pub gains_part : (n : ℕ) (steps : List Step) → gains (take n steps) ≤ gains steps
gains_part zero steps = omega arith
gains_part (suc n) [] = omega arith
gains_part (suc n) (s ∷ rest) = let h : gains (take n rest)
    ≤ gains rest = gains_part n rest in omega arith

-- one of the numbers, and those before it, are at most all together
pub one_fits : (n k : ℕ) (f : ℕ → ℕ) → k < n → f k ≤ upto n f
one_fits n k f below = let h : upto (suc k) f
    ≤ upto n f = upto_part n (suc k) f (omega arith) in omega arith

pub next_fits : (n k : ℕ) (f : ℕ → ℕ) → k < n → upto k f + f k ≤ upto n f
next_fits n k f below = upto_part n (suc k) f (omega arith)
