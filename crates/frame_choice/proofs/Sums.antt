-- Sums over a list as sums over the places in it.
use Rattle.std.proofs.Common.{ℕ, zero, suc, ◌≡◌, ◌+◌, List, [], ◌∷◌, length, get_or, arith, refl}
use Rattle.std.proofs.Common.{map, sum}
use Rattle.std.proofs.lemmas.List.Sums.{sum_by-cons}
use Rattle.allocation_bound.specs.Sums.{upto}

first_apart : (n : ℕ) (f : ℕ → ℕ) → upto (suc n) f ≡ f 0 + upto n (λ k. f (suc k))
first_apart zero f = omega arith
first_apart (suc n) f =
    let h : upto (suc n) f ≡ f 0 + upto n (λ k. f (suc k)) = first_apart n f in
    omega arith

pub listed_sum : {X : Type 0} (d : X) (f : X → ℕ) (xs : List X) →
    sum (map f xs) ≡ upto (length xs) (λ n. f (get_or xs n d))
listed_sum d f [] = refl
listed_sum d f (x ∷ xs) =
    let h : sum (map f xs) ≡ upto (length xs) (λ n. f (get_or xs n d)) = listed_sum d f xs in
    let one : sum (map f (x ∷ xs)) ≡ f x + sum (map f xs) = sum_by-cons (λ y. y) (f x) (map f xs) in
    let apart : upto (suc (length xs)) (λ n. f (get_or (x ∷ xs) n d))
    ≡ f x + upto (length xs) (λ n. f (get_or xs n d)) =
    first_apart (length xs) (λ n. f (get_or (x ∷ xs) n d)) in
    omega arith
