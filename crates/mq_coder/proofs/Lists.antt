-- Lemmas on lists that grow at their end.
use Rattle.std.proofs.Common.{ℕ, ◌+◌, ◌-◌, ◌<◌, ◌≤◌, ◌≡◌, List, [], ◌∷◌, ◌++◌, length, take, set}
use Rattle.std.proofs.Common.{arith, sym, ◌∙◌, ap}
use Rattle.std.proofs.lemmas.List.{take_more_set, take-take, length-set}
use Rattle.std.proofs.Math.Seq.{take-set-lt}

-- a write to the last of the first n elements, and one after them
pub take-set-set : (xs : List ℕ) (n v w : ℕ) → 0 < n → n < length xs
    → take (n + 1) (set (set xs (n - 1) v) n w) ≡ set (take n xs) (n - 1) v ++ w ∷ []
take-set-set xs n v w some room =
    let long : n < length (set xs (n - 1) v) = rw length-set room in
    let before : n - 1 < n = omega arith in
    take_more_set (set xs (n - 1) v) n w long
    ∙ ap (λ (ys : List ℕ). ys ++ w ∷ []) (take-set-lt n xs (n - 1) v before)

-- lists that agree at the prefix agree at a shorter prefix
pub take_less : (xs ys : List ℕ) (n m : ℕ) → take n xs ≡ take n ys → m ≤ n → take m xs ≡ take m ys
take_less xs ys n m same less =
    sym (take-take m n xs less) ∙ (ap (take m) same ∙ take-take m n ys less)
