-- The largest magnitude, cell by cell.
use Rattle.std.proofs.Common.{◌≡◌, ℕ, ◌+◌, ◌<◌, max, List, [], ◌∷◌, ◌++◌, length, get_or, take}
use Rattle.std.proofs.Common.{arith, ap, ◌∙◌}
use Rattle.std.proofs.lemmas.List.{take_more}
use Rattle.dz_quantiser.specs.Coefficient.{Coefficient}
use Rattle.codeblock_views.specs.Magnitudes.{largest}

largest-push : (qs : List Coefficient) (q : Coefficient) →
    largest (qs ++ q ∷ []) ≡ max (largest qs) q.magnitude
largest-push [] q = omega arith
largest-push (p ∷ qs) q = let rest = largest-push qs q in omega (arith, rest)

pub largest-more : (qs : List Coefficient) (i : ℕ) (d : Coefficient) → i < length qs →
    largest (take (i + 1) qs) ≡ max (largest (take i qs)) (get_or qs i d).magnitude
largest-more qs i d lt = ap largest (take_more qs i d lt) ∙ largest-push (take i qs) (get_or qs i d)
