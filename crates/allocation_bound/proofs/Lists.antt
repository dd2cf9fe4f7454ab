-- What holds of each element of a list.
use Rattle.std.proofs.Common.{◌≡◌, ◌⊎◌, List, [], ◌∷◌, ◌++◌, Option, Some, None, refl, ap, subst}
use Rattle.std.proofs.Common.{inl, inr}
use Rattle.std.specs.List.{AllByRecursion}
use Rattle.rd_hulls.specs.declared.step.Step.{Step}
use Rattle.allocation_bound.specs.Steps.{IsHead}

pub all_after : {X : Type 0} (P : X → Type 0) (xs ys : List X) → AllByRecursion P (xs ++ ys)
    → AllByRecursion P ys
all_after P [] ys h = h
all_after P (x ∷ xs) ys h = all_after P xs ys h.1

pub all_weaker : {X : Type 0} (P R : X → Type 0) → ((x : X) → P x → R x) → (xs : List X)
    → AllByRecursion P xs → AllByRecursion R xs
all_weaker P R f [] p = tt
all_weaker P R f (x ∷ xs) p = (f x p.0, all_weaker P R f xs p.1)

pub all_any : {X : Type 0} (R : X → Type 0) → ((x : X) → R x) → (xs : List X) → AllByRecursion R xs
all_any R f [] = tt
all_any R f (x ∷ xs) = (f x, all_any R f xs)

pub all_more : {X : Type 0} (P : X → Type 0) (xs : List X) (y : X) → AllByRecursion P xs → P y
    → AllByRecursion P (xs ++ y ∷ [])
all_more P [] y h p = (p, tt)
all_more P (x ∷ xs) y h p = (h.0, all_more P xs y h.1 p)

-- an element moves from the head of one list to the end of another
pub moved_over : {X : Type 0} (xs : List X) (y : X) (ys : List X)
    → (xs ++ y ∷ []) ++ ys ≡ xs ++ y ∷ ys
moved_over [] y ys = refl
moved_over (x ∷ xs) y ys = ap (λ zs. x ∷ zs) (moved_over xs y ys)

-- cases on an option, with what it is
pub cases_option : {X : Type 0} (o : Option X) → (o ≡ None) ⊎ ((x : X) × (o ≡ Some x))
cases_option None = inl refl
cases_option (Some x) = inr (x, refl)

pub at_head : (P : Step → Type 0) (s : Step) (xs : List Step) → IsHead s xs → AllByRecursion P xs
    → P s
at_head P s [] h all = absurd h
at_head P s (t ∷ rest) h all = subst P h all.0
